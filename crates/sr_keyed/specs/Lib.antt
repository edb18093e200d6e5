pub mod Keyed
pub mod Entries
pub mod Places
