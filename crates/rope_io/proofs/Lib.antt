pub mod Buffers
pub mod Exact
pub mod Readings
pub mod Writings
