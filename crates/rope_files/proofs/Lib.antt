pub mod Decodings
pub mod Files
pub mod Fronts
pub mod Heads
pub mod Kept
pub mod Unpaired
pub mod Writings
