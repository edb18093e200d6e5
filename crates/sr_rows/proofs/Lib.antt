pub mod Order
pub mod Places
pub mod Parts
pub mod Elements
