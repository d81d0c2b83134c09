-- The text written and the text ahead are the text.
use Rattle.std.proofs.Common.{length}
use Rattle.rope_text.specs.Sides.{ahead}
use Rattle.std.specs.Str.{encode_utf8_all}
use Rattle.rope_slice.specs.Slice.{text_of}
use Rattle.rope_slice.specs.Rest.{bytes_ahead}
use Rattle.rope_slice.proofs.Showing.{IsShowing}
use Rattle.rope_slice.proofs.text_out.RopeSliceDisplay.fmt.Given as goal

abbrev pub invariant-loop-chunk : goal.invariant-loop-chunk
invariant-loop-chunk g l =
    IsShowing g.W.Write.write_str_gives l.initial.f l.f (encode_utf8_all (text_of l.self))
    (bytes_ahead l.chunk-iterator)

abbrev pub decreases-loop-chunk : goal.decreases-loop-chunk
decreases-loop-chunk g l = length (ahead l.chunk-iterator)
