pub mod Lines
pub mod Scripts
pub mod Runs
pub mod Headline
pub mod Example
pub mod EvictedClass
pub mod Outcomes
pub mod Versions
