pub mod Usage
pub mod PromisesKept
