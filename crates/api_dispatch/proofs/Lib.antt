pub mod Wholes
pub mod Counts
pub mod Generations
pub mod Bounds
pub mod Told
