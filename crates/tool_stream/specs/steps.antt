pub mod Shown
pub mod Keeping
pub mod Sending
pub mod Relaying
