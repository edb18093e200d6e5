pub mod Known
pub mod Joined
pub mod Steps
