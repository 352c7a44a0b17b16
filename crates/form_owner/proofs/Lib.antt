pub mod Laws
pub mod OwnerLaws
