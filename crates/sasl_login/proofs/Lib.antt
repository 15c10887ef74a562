pub mod Compared
pub mod Found
pub mod Longest
pub mod Plain
pub mod Short
pub mod Versions
