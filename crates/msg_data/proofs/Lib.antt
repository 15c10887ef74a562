pub mod StringLaws
pub mod ReplyStrings
