pub mod Decoding
pub mod Encodings
pub mod ErrorText
pub mod Heads
pub mod Laws
pub mod Layouts
pub mod Reading
pub mod Writing
