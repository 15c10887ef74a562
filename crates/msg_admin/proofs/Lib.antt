pub mod Served
pub mod Sizes
pub mod Headers
pub mod Readings
pub mod Replies
pub mod MessageLaws
pub mod Unsupported
pub mod Decoded
