pub mod Stream
pub mod Laws
pub mod Fetching
pub mod Frames
pub mod Taken
