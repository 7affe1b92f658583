pub mod Field
pub mod Bytes
pub mod Rows
pub mod Combinations
pub mod Triangular
