pub mod AddLemmas
pub mod DoubleLemmas
pub mod SumLemmas
pub mod ProductLemmas
pub mod PowerLemmas
pub mod InverseLemmas
pub mod RowLemmas
pub mod SearchLemmas
pub mod LinearRows
pub mod CombinationLemmas
mod Examples
