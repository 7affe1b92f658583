mod ClearLemmas
pub mod Completing
mod ColumnLemmas
mod ReductionLemmas
pub mod ResultLemmas
mod UnusedLemmas
