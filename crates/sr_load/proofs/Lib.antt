pub mod Digits
pub mod Taking
pub mod Rows
pub mod Texts
pub mod Files
