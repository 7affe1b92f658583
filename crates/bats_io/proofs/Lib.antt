pub mod Appended
pub mod ReadLemmas
