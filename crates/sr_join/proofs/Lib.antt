pub mod Answered
pub mod Both
pub mod Chains
pub mod Finds
pub mod Halves
pub mod Lists
pub mod Shows
