pub mod Received
pub mod Left
pub mod Eliminated
pub mod Replayed
pub mod Answered
pub mod SymbolRows
