pub mod Entries
pub mod Going
pub mod Right
pub mod Telling
