pub mod Positions
pub mod Encodings
