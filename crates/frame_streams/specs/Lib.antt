pub mod Frames
pub mod Readers
pub mod Reads
pub mod Responses
pub mod Streaming
