pub mod Tables
pub mod Numbers
pub mod Batches
pub mod AclWords
pub mod Versions
pub mod OtherFrames
