pub mod Fields
pub mod Rows
pub mod Users
pub mod Document
