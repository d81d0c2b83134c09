-- The text copied and the text ahead are the text.
use Rattle.std.proofs.Common.{◌≡◌, ◌++◌, length}
use Rattle.rope_text.specs.Sides.{ahead}
use Rattle.std.specs.Str.{encode_utf8_all}
use Rattle.std.specs.String.{string_bytes}
use Rattle.rope_slice.specs.Slice.{text_of}
use Rattle.rope_slice.specs.Rest.{bytes_ahead}
use Rattle.rope_slice.proofs.slice.RopeSlice.try_to_string.Given as goal

abbrev pub invariant-loop-chunk : goal.invariant-loop-chunk
invariant-loop-chunk l =
    (string_bytes l.text ++ bytes_ahead l.chunk-iterator ≡ encode_utf8_all (text_of l.self))

abbrev pub decreases-loop-chunk : goal.decreases-loop-chunk
decreases-loop-chunk l = length (ahead l.chunk-iterator)
