pub mod Tells
pub mod Sizes
pub mod Agree
