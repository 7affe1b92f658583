pub mod Completed
pub mod Kept
pub mod Reduced
pub mod steps
