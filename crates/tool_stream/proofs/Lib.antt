pub mod ShowLines
pub mod ShowWalks
pub mod KeptItems
pub mod SentBatches
pub mod SentNumbers
pub mod RelayWalks
