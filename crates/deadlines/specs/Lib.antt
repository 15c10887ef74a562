pub mod Limits
pub mod Progress
pub mod Timed
