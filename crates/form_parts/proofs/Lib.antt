mod FedLaws
pub mod PartLaws
pub mod Laws
