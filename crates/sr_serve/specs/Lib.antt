pub mod Execs
pub mod Runs
pub mod Address
pub mod Bounds
pub mod ServerEnds
