pub mod Numbers
pub mod Noting
pub mod Judging
pub mod Table
pub mod Accepting
pub mod Again
pub mod Fencing
pub mod Rows
