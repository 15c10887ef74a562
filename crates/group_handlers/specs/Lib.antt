pub mod Members
pub mod FindCoordinator
pub mod OffsetCommit
pub mod OffsetFetch
