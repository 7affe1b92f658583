pub mod Agreements
pub mod TermLemmas
