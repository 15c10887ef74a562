pub mod Check
pub mod Lines
pub mod Opened
pub mod Order
pub mod Printed
pub mod Replay
