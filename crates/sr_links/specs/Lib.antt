pub mod Steps
pub mod Honest
pub mod Queried
pub mod Outs
pub mod Answers
pub mod Brought
pub mod Counts
