pub mod Added
pub mod Adds
pub mod Cut
pub mod StagedParts
pub mod Waived
pub mod Rows
