pub mod TrailLimit
pub mod Histories
pub mod Kept
pub mod Joined
