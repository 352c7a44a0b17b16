pub mod Owned
pub mod Owners
