pub mod Replay
pub mod Trial
pub mod steps
