pub mod Bytes
pub mod Front
pub mod Integers
pub mod LineEnds
pub mod Utf16
pub mod Whitespace
