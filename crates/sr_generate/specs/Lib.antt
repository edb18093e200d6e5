pub mod Script
pub mod Taken
