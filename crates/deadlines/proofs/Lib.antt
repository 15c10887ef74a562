pub mod Cuts
pub mod Least
