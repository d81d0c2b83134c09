use Rattle.std.proofs.Common.{◌≡◌, ◌++◌, length, map}
use Rattle.std.specs.Str.{chars}
use Rattle.std.specs.String.{string_bytes}
use Rattle.rope_text.specs.Sides.{ahead}
use Rattle.rope_slice.specs.Slice.{chunks_of}
use Rattle.rope_script.proofs.shown.chunk_texts.Given as goal

abbrev pub invariant-loop-texts : goal.invariant-loop-texts
invariant-loop-texts l = map (λ s. chars (string_bytes s)) l.texts.items ++ ahead l.chunks
    ≡ chunks_of l.part

abbrev pub decreases-loop-texts : goal.decreases-loop-texts
decreases-loop-texts l = length (ahead l.chunks)
