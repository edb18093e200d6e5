pub mod Subscription
