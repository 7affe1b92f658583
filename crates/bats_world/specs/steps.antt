pub mod Places
pub mod Inside
pub mod Relays
pub mod Ends
