pub mod Contents
pub mod Results
pub mod RunLaws
pub mod Steps
