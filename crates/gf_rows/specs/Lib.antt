pub mod HalfProducts
pub mod Multiples
pub mod Operation
pub mod Plan
pub mod Matrix
pub mod Performed
pub mod Equations
pub mod Spends
