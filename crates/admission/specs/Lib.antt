pub mod Quota
pub mod Kept
pub mod Pace
pub mod Peers
pub mod PaceLaws
