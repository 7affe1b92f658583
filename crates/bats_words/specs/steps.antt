pub mod Rules
pub mod Matched
pub mod Named
