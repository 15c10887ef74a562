pub mod Clocks
pub mod Lengths
pub mod Own
pub mod Sessions
pub mod Stays
pub mod Unread
