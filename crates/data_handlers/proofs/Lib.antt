pub mod Given
pub mod Topics
pub mod Rows
