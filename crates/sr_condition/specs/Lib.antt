pub mod Suits
pub mod Ranges
pub mod Said
