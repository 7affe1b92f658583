pub mod ReceivedInputs
pub mod ToldEndings
pub mod CheckLines
pub mod SinkKept
