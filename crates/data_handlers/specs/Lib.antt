pub mod Metadata
pub mod Sent
pub mod Judged
pub mod SentLaws
pub mod BudgetLaws
pub mod Produce
pub mod Fetch
pub mod ListOffsets
