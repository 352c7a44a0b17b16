pub mod Bytes
pub mod Readers
pub mod Runs
pub mod References
pub mod Characters
pub mod Attributes
pub mod Kept
pub mod Ahead
