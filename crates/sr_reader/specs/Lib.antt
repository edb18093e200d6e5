pub mod Read
pub mod Cutting
pub mod LineSeen
pub mod Lined
pub mod Meaning
