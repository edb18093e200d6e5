mod Columns
pub mod First
mod Joining
