pub mod Rules
pub mod Laws
pub mod Replies
pub mod NullLists
pub mod Runs
pub mod Wrong
