pub mod Peeled
pub mod OneSet
pub mod steps
