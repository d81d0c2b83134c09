-- The owners in one thread.
pub mod Owning
pub mod Sole
pub mod Shared
