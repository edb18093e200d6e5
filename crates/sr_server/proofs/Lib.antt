pub mod Entries
pub mod Slots
pub mod Standing
pub mod Fitting
pub mod Served
pub mod Serving
pub mod Taking
pub mod Sending
