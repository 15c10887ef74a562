pub mod ReplyStrings
