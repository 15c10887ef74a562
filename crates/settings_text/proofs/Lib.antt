pub mod Tables
pub mod UserNames
