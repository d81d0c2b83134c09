-- Either width holds the totals that the contract speaks of.
use Rattle.std.proofs.Common.{rules, ◌≡◌, ◌^◌, List, ◌++◌, length, drop, sym, ap, subst, ◌∙◌, arith}
use Rattle.std.specs.List.{refill}
use Rattle.std.proofs.lemmas.List.{take-append-le, take_all}
use Rattle.rope_text.specs.declared.text_info.TextInfo.{TextInfo}
use Rattle.rope_leaf.specs.Change.{no_counts}
use Rattle.rope_leaf.specs.Narrow.{AreNarrow, IsBelow, IsBelowWith}
use Rattle.rope_leaf.specs.RunningTotals.{FitFrom, SameBefore, ChangedFrom}
use Rattle.rope_leaf.specs.Search.{IsSmall}
use Rattle.rope_leaf.specs.TotalsShape.{totals_in}
use Rattle.rope_leaf.proofs.search.Totals.grow.Goals.{in-Narrow, in-Wide}
use Rattle.rope_leaf.proofs.search.Totals.grow.Goals as goal

-- small totals and counts have sums of 64 bits
small_sum : (total more : TextInfo) → IsSmall total → IsBelow (2 ^ 63) more
    → IsBelowWith (2 ^ 64) total no_counts more
small_sum total more s b = record {
  bytes = omega (arith, s.bytes, b.bytes);
  chars = omega (arith, s.bytes, s.chars, b.chars);
  pairs = omega (arith, s.bytes, s.chars, s.pairs, b.pairs);
  breaks = omega (arith, s.bytes, s.chars, s.breaks, b.breaks);
}

pub retotal-requires-clause-fits : goal.retotal-requires-clause-fits
retotal-requires-clause-fits c =
    subst (λ l. AreNarrow l → FitFrom (2 ^ 32) c.args.place l no_counts c.args.more.now)
    (sym c.self.view_is ∙ ap totals_in c.in-Narrow.is) c.requires.fits

pub grow_wide-requires : goal.grow_wide-requires
grow_wide-requires c =
    let seen : c.as_mut_slice.result.now ≡ c.args.self.now = search rules in
    record {
      fits = rw seen
          (λ j d from within. small_sum _ _ (c.requires.small j d within) c.requires.more);
    }

-- a slice as long as the list that lent it becomes the list
refilled : (xs ws : List TextInfo) → length ws ≡ length xs → refill (length xs) xs ws ≡ ws
refilled xs ws long =
    take-append-le (length xs) ws (drop (length ws) xs) (omega arith)
    ∙ take_all (length xs) ws (omega arith)

pub returns-clause-len : goal.returns-clause-len
returns-clause-len c = elim c.match-self.branch [
  | in-Narrow w ↦
      let same = sym (ap totals_in w.in-Narrow.is) ∙ c.self.view_is in
      rw w.self-inside-is (w.retotal.ensures.len ∙ ap length same)
  | in-Wide w ↦
      let now =
      refilled w.deref_mut.result.now.items w.grow_wide.new.totals
      (w.grow_wide.ensures.len ∙ ap length w.as_mut_slice.ensures.value) in
      let same : w.as_mut_slice.result.now ≡ c.args.self.now = w.as_mut_slice.ensures.value
      ∙ (rw w.deref_mut.ensures.value (sym (ap totals_in w.in-Wide.is) ∙ c.self.view_is)) in
      rw (w.self-inside-is, now) (w.grow_wide.ensures.len ∙ ap length same)
]

pub returns-clause-before : goal.returns-clause-before
returns-clause-before c = elim c.match-self.branch [
  | in-Narrow w ↦
      let same = sym (ap totals_in w.in-Narrow.is) ∙ c.self.view_is in
      rw w.self-inside-is (subst (λ l. SameBefore c.args.place l w.retotal.new.self) same
      w.retotal.ensures.before)
  | in-Wide w ↦
      let now =
      refilled w.deref_mut.result.now.items w.grow_wide.new.totals
      (w.grow_wide.ensures.len ∙ ap length w.as_mut_slice.ensures.value) in
      let same : w.as_mut_slice.result.now ≡ c.args.self.now = w.as_mut_slice.ensures.value
      ∙ (rw w.deref_mut.ensures.value (sym (ap totals_in w.in-Wide.is) ∙ c.self.view_is)) in
      rw (w.self-inside-is, now) (subst (λ l. SameBefore c.args.place l w.grow_wide.new.totals) same
      w.grow_wide.ensures.before)
]

pub returns-clause-after : goal.returns-clause-after
returns-clause-after c = elim c.match-self.branch [
  | in-Narrow w ↦
      let same = sym (ap totals_in w.in-Narrow.is) ∙ c.self.view_is in
      rw w.self-inside-is (subst (λ l. ChangedFrom c.args.place l w.retotal.new.self no_counts
      c.args.more.now) same w.retotal.ensures.after)
  | in-Wide w ↦
      let now =
      refilled w.deref_mut.result.now.items w.grow_wide.new.totals
      (w.grow_wide.ensures.len ∙ ap length w.as_mut_slice.ensures.value) in
      let same : w.as_mut_slice.result.now ≡ c.args.self.now = w.as_mut_slice.ensures.value
      ∙ (rw w.deref_mut.ensures.value (sym (ap totals_in w.in-Wide.is) ∙ c.self.view_is)) in
      rw (w.self-inside-is, now) (subst (λ l. ChangedFrom c.args.place l w.grow_wide.new.totals
      no_counts c.args.more.now) same w.grow_wide.ensures.after)
]
