use Rattle.std.proofs.Common.{◌≡◌, ℕ, ◌+◌, ◌<◌, ◌≤◌, inl, inr, [], ◌∷◌, length, ◌∙◌, arith}
use Rattle.std.proofs.lemmas.Bool.{cases_lt}
use Rattle.std.proofs.lemmas.List.{get_or_append_left, get_or_push, length-append}
use Rattle.rope_leaf.proofs.TotalLaws.{sum_at}
use Rattle.rope_leaf.proofs.search.append_wide.Goals as goal

pub loop-other-preserved : goal.loop-other-preserved
loop-other-preserved c =
    let was = c.loop-other.totals.items in
    let one = c.plus.result in
    let before = c.loop-other.invariant in
    let at : (j : ℕ) → j < c.loop-other.other-index + 1 → c.loop-other.other-index ≤ j
    → j ≡ c.loop-other.other-index = λ j lt ge. omega (arith, lt, ge) in
    rw c.push.ensures.items record {
      len = omega (arith, length-append was (one ∷ []), before.len);
      before = λ j d lt. get_or_append_left was (one ∷ []) d j (omega (arith, before.len))
          ∙ before.before j d lt;
      following = λ j d lt. elim (cases_lt j c.loop-other.other-index) [
        | inl l ↦ rw (get_or_append_left was (one ∷ []) d (length c.args.totals.now.items + j)
            (omega (arith, before.len))) (before.following j d l)
        | inr ge ↦ rw (get_or_push was one d (length c.args.totals.now.items + j)
            (omega (arith, before.len)))
            (rw (at j lt ge) (sum_at _ c.loop-other.other-index d _ c.args.old c.args.new
            c.minus.result one (omega (
              arith,
              c.loop-other-test.true,
              c.loop-other.auto.other-index-end,
            )) c.minus.ensures.sum c.plus.ensures.sum))
      ];
    }
