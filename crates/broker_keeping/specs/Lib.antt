pub mod ControlCommand
pub mod NearlyFull
