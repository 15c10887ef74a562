pub mod Told
pub mod Rows
pub mod ReadOnly
