pub mod Reading
pub mod ReadsRecords
pub mod Walk
pub mod Keeping
pub mod steps
