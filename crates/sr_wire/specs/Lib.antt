pub mod Kinds
pub mod Spelling
pub mod Reading
pub mod Limits
pub mod Views
pub mod Bodies
pub mod Examples
pub mod Laws
