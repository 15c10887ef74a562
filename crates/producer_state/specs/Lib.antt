pub mod Sequences
pub mod State
pub mod Laws
