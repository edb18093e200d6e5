pub mod Causes
pub mod Fails
pub mod Files
pub mod Pieces
pub mod Told
