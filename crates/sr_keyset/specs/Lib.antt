pub mod Told
pub mod Lines
pub mod Plans
pub mod Follows
pub mod SetUp
pub mod Laws
