pub mod Logins
pub mod Refused
