pub mod Show
pub mod Relay
pub mod steps
