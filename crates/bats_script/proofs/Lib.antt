pub mod TrialKeys
pub mod ValueLemmas
pub mod EachLemmas
pub mod ScriptLemmas
pub mod SoundScripts
mod Examples
