pub mod Counting
pub mod Served
