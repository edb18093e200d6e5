pub mod Reading
pub mod Readers
pub mod Exact
pub mod Blind
pub mod OneSaying
