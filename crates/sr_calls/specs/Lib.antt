pub mod Short
pub mod ClientEnds
pub mod Runs
pub mod Honest
pub mod Started
