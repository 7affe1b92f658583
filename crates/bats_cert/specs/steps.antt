pub mod Saying
pub mod Parts
pub mod Taken
pub mod Written
