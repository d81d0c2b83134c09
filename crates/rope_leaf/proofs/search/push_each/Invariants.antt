use Rattle.std.proofs.Common.{◌≡◌, ℕ, ◌+◌, ◌-◌, ◌<◌, ◌≤◌, length, get_or}
use Rattle.rope_text.specs.declared.text_info.TextInfo.{TextInfo}
use Rattle.rope_text.specs.TextInfo.{info_sum}
use Rattle.rope_leaf.proofs.search.push_each.Given as goal

abbrev pub invariant-loop-place : goal.invariant-loop-place
invariant-loop-place l = record {
  from : l.from ≤ l.place;
  len : length l.totals ≡ length l.initial.totals + (l.place - l.from);
  before : (j : ℕ) (d : TextInfo) → j < length l.initial.totals
      → get_or l.totals j d ≡ get_or l.initial.totals j d;
  following : (j : ℕ) (d : TextInfo) → j < l.place - l.from
      → info_sum (get_or l.totals (length l.initial.totals + j) d) l.old
      ≡ info_sum (get_or l.others (l.from + j) d) l.new;
}
