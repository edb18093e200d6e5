pub mod Answered
pub mod Saying
