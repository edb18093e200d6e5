pub mod Members
pub mod Deciding
mod Bits
pub mod Suiting
pub mod Narrowing
pub mod Listed
pub mod Passing
pub mod Low
pub mod Asking
pub mod Writing
pub mod OnTables
