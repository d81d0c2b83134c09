pub mod Owning
pub mod Sole
pub mod Shared
pub mod Local
