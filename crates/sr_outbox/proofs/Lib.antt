pub mod Pieces
pub mod Notices
pub mod Found
pub mod Messages
