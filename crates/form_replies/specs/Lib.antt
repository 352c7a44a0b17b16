pub mod Replies
pub mod PageLines
pub mod Stops
pub mod Saying
pub mod Withdrawn
