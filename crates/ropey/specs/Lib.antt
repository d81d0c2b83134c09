pub mod View
pub mod Edited
pub mod Building
pub mod Texts
pub mod Compared
pub mod Counted
