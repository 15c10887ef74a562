pub mod Asked
pub mod Kept
pub mod LastColon
pub mod Named
pub mod Refused
