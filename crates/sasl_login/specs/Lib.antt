pub mod Compared
pub mod Listed
pub mod ListedLaws
pub mod LoginMessage
pub mod Logins
pub mod Plain
