pub mod Writable
pub mod Writes
pub mod LexedAgain
pub mod Again
pub mod ReadAgain
