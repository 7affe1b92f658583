pub mod Reduction
pub mod Marked
pub mod Entries
pub mod IsBasis
pub mod Verdicts
pub mod Slots
