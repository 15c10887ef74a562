pub mod Counts
pub mod Logged
pub mod TrailDelta
