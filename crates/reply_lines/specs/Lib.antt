pub mod ReplyLines
