pub mod Unchosen
pub mod DistinctContributors
mod SortedNumbers
mod KeyLemmas
pub mod DegreeTables
mod BatchParts
