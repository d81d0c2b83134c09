use Rattle.std.proofs.Common.{◌≡◌, ◌≤◌, ℕ, ◌+◌, ◌-◌, take, count_by}
use Rattle.rope_text.specs.declared.line_breaks.LineBreaks.TheVariants.{Unicode}
use Rattle.rope_text.specs.Bits.{ones_below}
use Rattle.rope_text.specs.Runs.{multibyte_begin, multibyte_of, places}
use Rattle.rope_text.proofs.lanes.multibyte_in.Given as goal

abbrev pub invariant-loop-begins : goal.invariant-loop-begins
invariant-loop-begins l = record {
  within : l.i ≤ l.at + 64;
  marked : (m : ℕ) → ones_below l.begins m
      ≡ count_by (multibyte_begin l.bytes) (take m (places l.i ((l.at + 64) - l.i)));
  counted : l.total + multibyte_of Unicode l.bytes l.i ((l.at + 64) - l.i)
      ≡ multibyte_of Unicode l.bytes l.at 64;
}

abbrev pub decreases-loop-begins : goal.decreases-loop-begins
decreases-loop-begins l = (l.at + 64) - l.i
