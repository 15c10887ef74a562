pub mod Asked
pub mod InitProducerId
pub mod EndTxn
pub mod AddPartitions
pub mod AddOffsets
pub mod TxnOffsetCommit
pub mod Marks
