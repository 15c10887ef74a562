pub mod FaultPlaces
pub mod Responses
