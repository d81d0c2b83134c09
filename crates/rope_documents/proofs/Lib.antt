pub mod Batches
pub mod Insides
pub mod Clamped
pub mod Sending
pub mod Ended
pub mod Listed
