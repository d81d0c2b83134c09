pub mod EndedText
pub mod ReplyLine
pub mod Serving
