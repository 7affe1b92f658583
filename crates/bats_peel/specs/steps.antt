pub mod Local
pub mod Fixing
pub mod Search
pub mod Order
pub mod Parts
pub mod Work
