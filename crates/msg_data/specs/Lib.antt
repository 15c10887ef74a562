pub mod Strings
pub mod Metadata
pub mod Isolation
pub mod ListOffsets
pub mod Produce
pub mod Fetch
