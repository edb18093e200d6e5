pub mod Stored
pub mod Inserts
pub mod Added
pub mod Steps
pub mod Turns
pub mod ByKey
