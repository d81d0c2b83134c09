pub mod Failing
pub mod Laws
pub mod ReadErrorText
pub mod Reading
pub mod Watching
pub mod Writing
