use Rattle.std.proofs.Common.{◌≡◌, ◌-◌, ◌<◌, ◌≤◌, ℕ, length, IsTrue, ⊎_elim, ap, arith}
use Rattle.std.proofs.lemmas.Bool.{cases_lt}
use Rattle.rope_text.specs.Cuts.{distance, is_cut}
use Rattle.rope_text.proofs.Nearest.{right_is_nearer, left_is_nearer, left_is_only}
use Rattle.rope_text.proofs.crlf.nearest_internal_break.Goals.{else-at-gt0-via-then-at-gt0+then-at-text+else-is_break, else-at-gt0-via-then-at-gt0+else-at-text, else-at-gt0-via-else-at-gt0, After-next_break-right, then-right-text-via-then-right-text, then-right-text-via-else-right-text+then-at-left}
use Rattle.rope_text.proofs.crlf.nearest_internal_break.Goals as goal

-- no cut inside is at the position itself
before : (c : After-next_break-right) (k : ℕ) → 0 < k → k < length c.args.text.now
    → IsTrue (is_cut c.args.text.now k) → k ≤ c.args.at → k ≤ c.prev_break-left.result
before c k some inside cut up =
    ⊎_elim (λ (less : k < c.args.at). c.prev_break-left.ensures.nearest k less cut)
    (λ (more : c.args.at ≤ k).
    let same : k ≡ c.args.at = omega arith in
    elim c.else-at-gt0.branch [
      | else-at-gt0-via-then-at-gt0+then-at-text+else-is_break w ↦
          absurd (grind (
            arith,
            ap (is_cut c.args.text.now) same,
            w.is_break.ensures.value,
            w.if-is_break.false,
          ))
      | else-at-gt0-via-then-at-gt0+else-at-text w ↦ absurd (omega (arith, w.if-at-text.false))
      | else-at-gt0-via-else-at-gt0 w ↦ absurd (omega (arith, w.if-at-gt0.false))
    ]) (cases_lt k c.args.at)

pub returns-then-left-eq0-clause-inside : goal.returns-then-left-eq0-clause-inside
returns-then-left-eq0-clause-inside c k some inside cut =
    let up = before (goal.at.returns-then-left-eq0-clause-inside c).After-next_break-right k some
    inside cut in
    let on = c.next_break-right.ensures.nearest k in
    ⊎_elim (λ (more : c.args.at < k). (omega arith, omega (arith, on more (omega arith) cut)))
    (λ (most : k ≤ c.args.at). absurd (omega (arith, up most))) (cases_lt c.args.at k)

pub returns-then-left-eq0-clause-nearest : goal.returns-then-left-eq0-clause-nearest
returns-then-left-eq0-clause-nearest c k some inside cut =
    let up = before (goal.at.returns-then-left-eq0-clause-nearest c).After-next_break-right k some
    inside cut in
    ⊎_elim (λ (more : c.args.at < k). omega (
      arith,
      c.next_break-right.ensures.nearest k more (omega arith) cut,
    )) (λ (most : k ≤ c.args.at). absurd (omega (arith, up most))) (cases_lt c.args.at k)

pub returns-then-right-text-clause-nearest : goal.returns-then-right-text-clause-nearest
returns-then-right-text-clause-nearest c k some inside cut =
    let up = before (goal.at.returns-then-right-text-clause-nearest c).After-next_break-right k some
    inside cut in
    elim c.then-right-text.branch [
      | then-right-text-via-then-right-text w ↦
          left_is_only _ _ c.next_break-right.result _ (omega arith)
          (omega (arith, w.if-right-text.true)) up
          (λ j. c.next_break-right.ensures.nearest k j (omega arith) cut)
      | then-right-text-via-else-right-text+then-at-left w ↦
          left_is_nearer _ _ c.next_break-right.result _ (omega arith) (omega arith)
          w.if-at-left.true up (λ j. c.next_break-right.ensures.nearest k j (omega arith) cut)
    ]

-- no cut after the left one is as near
left_is_last : (at left right k : ℕ) → left ≤ at → at - left < right - at → (k ≤ at → k ≤ left)
    → (at < k → right ≤ k) → distance at left ≡ distance at k → k ≤ left
left_is_last at left right k below near up on same =
    ⊎_elim (λ (h : at < k). absurd (omega (arith, on h))) (λ (h : k ≤ at). up h) (cases_lt at k)

none_after : (at left right k : ℕ) → k < right → (k ≤ at → k ≤ left) → (at < k → right ≤ k)
    → k ≤ left
none_after at left right k inside up on =
    ⊎_elim (λ (h : at < k). absurd (omega (arith, on h))) (λ (h : k ≤ at). up h) (cases_lt at k)

pub returns-then-right-text-clause-later : goal.returns-then-right-text-clause-later
returns-then-right-text-clause-later c k some inside cut same =
    let up = before (goal.at.returns-then-right-text-clause-later c).After-next_break-right k some
    inside cut in
    elim c.then-right-text.branch [
      | then-right-text-via-then-right-text w ↦
          none_after c.args.at c.prev_break-left.result c.next_break-right.result k
          (omega (arith, w.if-right-text.true)) up
          (λ j. c.next_break-right.ensures.nearest k j (omega arith) cut)
      | then-right-text-via-else-right-text+then-at-left w ↦
          left_is_last c.args.at c.prev_break-left.result c.next_break-right.result k (omega arith)
          w.if-at-left.true up (λ j. c.next_break-right.ensures.nearest k j (omega arith) cut) same
    ]

pub returns-clause-nearest : goal.returns-clause-nearest
returns-clause-nearest c k some inside cut =
    let up = before (goal.at.returns-clause-nearest c).After-next_break-right k some inside cut in
    right_is_nearer _ c.prev_break-left.result _ _ (omega arith) (omega arith) c.if-at-left.false up
    (λ j. c.next_break-right.ensures.nearest k j (omega arith) cut)
