pub mod Touched
pub mod Holders
pub mod Named
pub mod Worked
