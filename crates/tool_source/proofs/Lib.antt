pub mod Endings
pub mod Counts
pub mod Sourcing
