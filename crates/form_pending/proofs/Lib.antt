pub mod Laws
pub mod SayingLaws
