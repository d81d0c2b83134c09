use Rattle.std.proofs.Common.{◌≡◌, ℕ, ◌+◌, ◌%◌, ◌^◌, ◌<◌, ◌≤◌, get_or, length}
use Rattle.rope_leaf.proofs.search.count_rows.add_half.Given as goal

abbrev pub invariant-loop-k : goal.invariant-loop-k
invariant-loop-k l = record {
  len : length l.counts ≡ 24;
  before : (j : ℕ) → j < l.from → get_or l.counts j 0 ≡ get_or l.initial.counts j 0;
  under : (j : ℕ) → j < l.start → get_or l.counts j 0 ≡ get_or l.initial.counts j 0;
  done : (j : ℕ) → l.from ≤ j → l.start ≤ j → j < l.start + l.k
      → get_or l.counts j 0 ≡ (get_or l.initial.counts j 0 + l.more) % 2 ^ 32;
  left : (j : ℕ) → l.start + l.k ≤ j → get_or l.counts j 0 ≡ get_or l.initial.counts j 0;
}
