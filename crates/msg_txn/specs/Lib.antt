pub mod InitProducerId
pub mod AddPartitions
pub mod AddOffsets
pub mod EndTxn
pub mod TxnOffsetCommit
pub mod FindCoordinator
