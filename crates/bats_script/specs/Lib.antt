pub mod Trial
pub mod ScriptValues
pub mod Script
pub mod Sound
pub mod steps
