pub mod Ports
pub mod Memory
pub mod Real
pub mod Written
pub mod Shelf
