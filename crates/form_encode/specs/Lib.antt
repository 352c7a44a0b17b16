pub mod Pairs
pub mod Urlencoded
pub mod PlainText
pub mod Multipart
pub mod Boundaries
pub mod Scanning
