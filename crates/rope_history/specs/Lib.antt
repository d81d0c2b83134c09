pub mod Versions
pub mod Texts
pub mod Views
pub mod Marking
pub mod MarkLists
pub mod MarkViews
