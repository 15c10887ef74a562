pub mod Ticks
pub mod Logins
pub mod Step
pub mod Bounds
pub mod Questions
pub mod Refusals
