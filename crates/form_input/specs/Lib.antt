pub mod Limits
pub mod Lines
pub mod Input
pub mod Moved
pub mod Words
