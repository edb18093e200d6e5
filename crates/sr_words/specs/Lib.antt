pub mod Forms
pub mod Words
pub mod Reads
pub mod Seen
pub mod Ranges
pub mod Examples
