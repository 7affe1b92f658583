pub mod Walked
pub mod Came
pub mod Kept
