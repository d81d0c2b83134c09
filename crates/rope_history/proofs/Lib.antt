pub mod TextLaws
pub mod VersionLaws
pub mod StandsLaws
pub mod MarkLaws
pub mod OrderLaws
