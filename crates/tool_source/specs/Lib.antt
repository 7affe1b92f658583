pub mod FileSession
pub mod Source
pub mod steps
