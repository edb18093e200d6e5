pub mod Regions
pub mod Halves
pub mod Applied
pub mod Entering
pub mod Laws
pub mod Coming
pub mod Giving
