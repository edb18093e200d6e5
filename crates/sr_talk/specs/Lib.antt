pub mod Moves
pub mod Reading
pub mod Serving
pub mod Talked
pub mod Rounds
