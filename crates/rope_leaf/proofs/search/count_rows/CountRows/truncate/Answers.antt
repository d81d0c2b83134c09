use Rattle.std.proofs.Common.{◌≤◌, take, sym, ap, ◌∙◌, arith}
use Rattle.std.proofs.lemmas.List.FromFn.{take-map-range_with_len}
use Rattle.rope_leaf.specs.CountRows.{counts_at}
use Rattle.rope_leaf.proofs.CountsKept.{many}
use Rattle.rope_leaf.proofs.search.count_rows.CountRows.truncate.Goals.{After-self-1}
use Rattle.rope_leaf.proofs.search.count_rows.CountRows.truncate.Goals as goal

fewer : (c : After-self-1) → c.args.len ≤ c.self.inside.len
fewer c = omega (arith, c.requires, many c.self.inside c.args.self.now c.self.view_is)

pub invariant_of-self : goal.invariant_of-self
invariant_of-self c = record {
  few = omega (arith, c.self.invariant.few, fewer c);
  bytes = c.self.invariant.bytes;
  chars = c.self.invariant.chars;
  pairs = c.self.invariant.pairs;
  breaks = c.self.invariant.breaks;
  below = λ k lt. c.self.invariant.below k (omega (arith, lt, fewer c));
}

pub returns : goal.returns
returns c =
    sym (take-map-range_with_len (counts_at c.self.inside) 0 c.self.inside.len c.args.len (fewer c))
    ∙ ap (take c.args.len) c.self.view_is
