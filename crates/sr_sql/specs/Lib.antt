pub mod Views
pub mod Next
pub mod Seen
pub mod Rules
pub mod Refusals
