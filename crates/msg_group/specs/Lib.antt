pub mod JoinGroup
pub mod SyncGroup
pub mod Heartbeat
pub mod LeaveGroup
pub mod OffsetCommit
pub mod OffsetFetch
