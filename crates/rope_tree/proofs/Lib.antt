pub mod LastCalls
pub mod LeafCounts
mod AppendLaws
pub mod RowLaws
pub mod PartLaws
pub mod CutLaws
pub mod EmptyTrees
pub mod FormLaws
pub mod ListedLaws
pub mod KeptLaws
pub mod LossLaws
pub mod ChildLaws
pub mod LookupDescent
pub mod FoundLaws
pub mod ConvertedLaws
pub mod Gathered
pub mod InsertRoots
pub mod BuildLaws
pub mod FrontLaws
pub mod PieceLaws
pub mod SplitLaws
pub mod LeafSplits
mod SettledLaws
mod FrontSides
mod BackSides
pub mod MoveLaws
pub mod PaddingLaws
pub mod RemovedLaws
pub mod UnevenLaws
mod FirstLaws
mod LeafMerges
pub mod RemovedLists
