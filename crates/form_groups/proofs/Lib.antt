mod Entries
pub mod Laws
mod Members
