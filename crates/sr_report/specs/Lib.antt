pub mod Texts
pub mod Plans
pub mod Steps
pub mod Laws
