pub mod Items
pub mod Left
pub mod Noticed
