pub mod Codes
pub mod Weave
pub mod Rule
pub mod Walk
pub mod Steps
pub mod Woven
pub mod Alike
pub mod Headline
