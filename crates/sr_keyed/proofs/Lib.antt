pub mod Order
pub mod Entries
pub mod Replaced
pub mod Between
pub mod Values
pub mod PlaceOrder
pub mod Found
