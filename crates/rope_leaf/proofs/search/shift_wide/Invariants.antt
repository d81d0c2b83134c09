use Rattle.std.proofs.Common.{◌≡◌, ℕ, ◌<◌, ◌≤◌, length, get_or}
use Rattle.rope_text.specs.declared.text_info.TextInfo.{TextInfo}
use Rattle.rope_text.specs.TextInfo.{info_sum}
use Rattle.rope_leaf.proofs.search.shift_wide.Given as goal

abbrev pub invariant-loop-j : goal.invariant-loop-j
invariant-loop-j l = record {
  len : length l.totals ≡ length l.initial.totals;
  before : (k : ℕ) (d : TextInfo) → k < l.from → get_or l.totals k d ≡ get_or l.initial.totals k d;
  done : (k : ℕ) (d : TextInfo) → l.from ≤ k → k < l.j
      → info_sum (get_or l.totals k d) l.old ≡ info_sum (get_or l.initial.totals k d) l.new;
  left : (k : ℕ) (d : TextInfo) → l.j ≤ k → get_or l.totals k d ≡ get_or l.initial.totals k d;
}
