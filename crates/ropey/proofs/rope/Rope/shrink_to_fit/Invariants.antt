-- The texts passed in and the chunks ahead are the text.
use Rattle.std.proofs.Common.{◌≡◌, ◌++◌, length}
use Rattle.std.specs.List.{concat}
use Rattle.rope_text.specs.Sides.{ahead}
use Rattle.ropey.proofs.rope.Rope.shrink_to_fit.Given as goal

abbrev pub invariant-loop-chunk : goal.invariant-loop-chunk
invariant-loop-chunk l = record {
  text : l.builder.text ++ concat (ahead l.chunk-iterator) ≡ l.fn.self.text;
  breaks : l.builder.breaks ≡ l.fn.self.breaks;
}

abbrev pub decreases-loop-chunk : goal.decreases-loop-chunk
decreases-loop-chunk l = length (ahead l.chunk-iterator)
