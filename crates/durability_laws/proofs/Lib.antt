pub mod Acknowledged
pub mod Committed
pub mod OverATrail
pub mod Offsets
pub mod WrongSteps
pub mod WrongOffsets
