pub mod Clearing
pub mod Below
