pub mod Names
pub mod Fault
