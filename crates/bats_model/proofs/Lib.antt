pub mod SystematicBatches
pub mod EachBatch
pub mod SymbolValues
pub mod NewPackets
pub mod KeptSpans
pub mod RisingNumbers
pub mod PacketRows
pub mod KeptAgreement
pub mod RightAnswers
pub mod Files
pub mod EachList
pub mod UnitVectors
pub mod PlainAgreement
mod Examples
