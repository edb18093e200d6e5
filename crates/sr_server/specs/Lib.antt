pub mod Servers
pub mod Noticed
pub mod Outboxes
