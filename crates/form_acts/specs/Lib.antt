pub mod Acts
pub mod Clicking
pub mod Nearness
pub mod Refusals
pub mod Soundness
