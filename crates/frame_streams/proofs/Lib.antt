pub mod Bytes
pub mod Fronts
pub mod Responses
pub mod Streaming
pub mod Wrote
