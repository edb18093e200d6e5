pub mod Stores
mod Regions
