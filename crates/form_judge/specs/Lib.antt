pub mod Beginning
pub mod Controls
pub mod Flags
pub mod Patterns
