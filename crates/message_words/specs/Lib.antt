pub mod FaultPlace
pub mod Reading
