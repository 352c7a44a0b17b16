pub mod Laws
pub mod SaidLaws
pub mod TextLaws
pub mod WithdrawnLaws
