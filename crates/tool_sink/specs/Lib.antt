pub mod Answers
pub mod Sink
pub mod Check
pub mod steps
