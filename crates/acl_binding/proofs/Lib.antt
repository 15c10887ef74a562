pub mod Rising
pub mod Same
pub mod Numbers
pub mod Decided
pub mod Relations
pub mod Kept
