pub mod Decoder
pub mod SolvingPlan
pub mod steps
