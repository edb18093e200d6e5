pub mod Distinct
pub mod Ends
pub mod Marking
pub mod SameClass
