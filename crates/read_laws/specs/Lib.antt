pub mod Fetches
pub mod WrongFetches
pub mod ListOffsets
pub mod WrongListOffsets
