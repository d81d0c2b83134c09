use Rattle.std.proofs.Common.{◌≡◌, ℕ, ◌+◌, ◌<◌, length, get_or}
use Rattle.rope_text.specs.declared.text_info.TextInfo.{TextInfo}
use Rattle.rope_text.specs.TextInfo.{info_sum}
use Rattle.rope_leaf.proofs.search.append_wide.Given as goal

abbrev pub invariant-loop-other : goal.invariant-loop-other
invariant-loop-other l = record {
  len : length l.totals.items ≡ length l.initial.totals.items + l.other-index;
  before : (j : ℕ) (d : TextInfo) → j < length l.initial.totals.items
      → get_or l.totals.items j d ≡ get_or l.initial.totals.items j d;
  following : (j : ℕ) (d : TextInfo) → j < l.other-index
      → info_sum (get_or l.totals.items (length l.initial.totals.items + j) d) l.old
      ≡ info_sum (get_or l.others j d) l.new;
}
