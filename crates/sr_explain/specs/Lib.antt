pub mod Explained
pub mod Telling
