pub mod Basis
pub mod Held
pub mod Offers
pub mod steps
