pub mod Playing
pub mod Hops
pub mod Solving
