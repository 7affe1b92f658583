pub mod Receiving
pub mod Reception
pub mod Telling
pub mod Lines
