pub mod Forms
pub mod Numbers
pub mod Cuts
pub mod Loads
pub mod Simple
pub mod Ranges
