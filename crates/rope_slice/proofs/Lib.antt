pub mod Excerpts
pub mod ExcerptLines
pub mod LeafLines
pub mod Measured
pub mod Places
pub mod ExcerptLaws
pub mod Edges
pub mod Clips
pub mod ClippedChunks
pub mod ChunkParts
pub mod LeafParts
pub mod FoundChunks
pub mod Kept
mod KnownPlaces
mod ChunksAt
pub mod PartsBetween
pub mod InChunks
pub mod LeafPlaces
pub mod ChunkStarts
pub mod ByteCursors
pub mod CharCursors
pub mod LeafStarts
mod BreakStarts
pub mod PathLaws
pub mod Points
pub mod Spans
pub mod LineSteps
pub mod LineEnds
pub mod LineMoves
pub mod PiecesAhead
pub mod Carets
pub mod CaretSteps
pub mod CaretsBack
mod AsciiChunks
pub mod Taken
pub mod Comparing
pub mod Feeding
pub mod Showing
pub mod Lanes
pub mod Ends
