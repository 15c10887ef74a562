pub mod Trail
pub mod Line
