pub mod Rule
pub mod Mixer
pub mod Relay
pub mod steps
