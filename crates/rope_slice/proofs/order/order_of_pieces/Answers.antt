use Rattle.std.proofs.Common.{◌≡◌, ◌++◌, drop, length, take, sym, ap, ◌∙◌, nat_cmp, Equal, refl, arith, inl, inr, rules, tests, length-append}
use Rattle.std.proofs.lemmas.Bool.{cases_lt}
use Rattle.std.specs.Cmp.Lexicographic.{slice_cmp}
use Rattle.std.proofs.lemmas.Map.Lookups.{exact_bytes}
use Rattle.rope_text.proofs.ByteOrder.{slice_cmp_ends, slice_cmp_same, decided, left_open}
use Rattle.rope_slice.proofs.Comparing.{untied}
use Rattle.rope_slice.proofs.order.order_of_pieces.Goals.{After-are_same}
use Rattle.rope_slice.proofs.order.order_of_pieces.Goals as goal

pub returns-then-n-eq0 : goal.returns-then-n-eq0
returns-then-n-eq0 c =
    let i = c.pieces.invariant in
    c.cmp.ensures ∙ slice_cmp_ends c.pieces.x.now c.pieces.y.now c.pieces.lefts c.pieces.rights
    i.x_some i.y_some (elim (cases_lt 0 (length c.pieces.x.now)) [
      | inl some ↦ inr (omega (arith, c.min-n.ensures, c.if-n-eq0.true, some))
      | inr none ↦ inl (omega (arith, none))
    ]) ∙ i.same

fronts : (c : After-are_same)
    → slice_cmp nat_cmp c.split_at.result.0.now c.split_at-in-pieces.result.0.now
    ≡ slice_cmp nat_cmp (take c.min-n.result c.pieces.x.now) (take c.min-n.result c.pieces.y.now)
fronts c = ap (λ z. slice_cmp nat_cmp z c.split_at-in-pieces.result.0.now) c.split_at.ensures.front
    ∙ ap (slice_cmp nat_cmp (take c.min-n.result c.pieces.x.now)) c.split_at-in-pieces.ensures.front

pub returns-then-not-are_same : goal.returns-then-not-are_same
returns-then-not-are_same c =
    let i = c.pieces.invariant in
    let x = c.pieces.x.now in
    let y = c.pieces.y.now in
    let n = c.min-n.result in
    let front = c.split_at.result.0.now in
    let other = c.split_at-in-pieces.result.0.now in
    let apart : front ≡ other → ⊥ =
    λ same. grind (arith, c.are_same.ensures.1 same, c.if-not-are_same.true) in
    c.cmp-then-not-are_same.ensures
    ∙ decided (slice_cmp nat_cmp front other) x y c.pieces.lefts c.pieces.rights n
    (omega (arith, c.min-n.ensures)) (omega (arith, c.min-n.ensures))
    (fronts (goal.at.returns-then-not-are_same c).After-are_same)
    (untied (slice_cmp nat_cmp front other) (λ tie. apart (exact_bytes front other tie))) ∙ i.same

pub pieces-smaller : goal.pieces-smaller
pieces-smaller c =
    let x = c.pieces.x.now in
    let back = c.split_at.result.1.now in
    let left = c.pieces.lefts in
    let some : c.min-n.result ≡ 0 → ⊥ = search (rules, tests) in
    omega (
      arith,
      ap length c.filled-x.ensures.same,
      length-append back left,
      length-append x left,
      c.split_at.ensures.back_len,
      c.min-n.ensures,
      some,
    )

pub pieces-preserved : goal.pieces-preserved
pieces-preserved c =
    let i = c.pieces.invariant in
    let x = c.pieces.x.now in
    let y = c.pieces.y.now in
    let lefts = c.pieces.lefts in
    let rights = c.pieces.rights in
    let n = c.min-n.result in
    let front = c.split_at.result.0.now in
    let same = c.are_same.ensures.0 c.if-not-are_same.false in
    let tie : Equal ≡ slice_cmp nat_cmp (take n x) (take n y) = sym (slice_cmp_same front)
    ∙ ap (slice_cmp nat_cmp front) same ∙ fronts (goal.at.pieces-preserved c).After-are_same in
    let next_x = c.filled-x.ensures.same ∙ ap (λ z. z ++ lefts) c.split_at.ensures.back in
    let next_y = c.filled-y.ensures.same
    ∙ ap (λ z. z ++ rights) c.split_at-in-pieces.ensures.back in
    record {
      same = ap (λ z. slice_cmp nat_cmp z (c.filled-y.result.now ++ c.filled-y.new.pieces)) next_x
          ∙ ap (slice_cmp nat_cmp (drop n x ++ lefts)) next_y
          ∙ left_open Equal x y lefts rights n (omega (arith, c.min-n.ensures))
          (omega (arith, c.min-n.ensures)) tie refl ∙ i.same;
      x_some = c.filled-x.ensures.some;
      y_some = c.filled-y.ensures.some;
    }
