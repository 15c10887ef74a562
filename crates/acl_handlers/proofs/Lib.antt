pub mod AclParts
pub mod BookBounds
pub mod Groups
