pub mod Escapes
pub mod Counts
pub mod Equality
pub mod Acl
pub mod Data
pub mod Group
pub mod Login
pub mod Txn
