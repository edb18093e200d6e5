pub mod Within
pub mod Loading
pub mod Filling
