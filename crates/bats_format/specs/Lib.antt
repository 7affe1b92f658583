pub mod Reader
pub mod Filling
pub mod Taking
