pub mod Steps
pub mod Acknowledged
pub mod Committed
pub mod ReadBack
pub mod OverATrail
pub mod Offsets
pub mod WrongSteps
