pub mod Settle
pub mod Ends
pub mod Faults
