pub mod Least
pub mod Again
pub mod Numbers
pub mod Leaving
pub mod Pushing
