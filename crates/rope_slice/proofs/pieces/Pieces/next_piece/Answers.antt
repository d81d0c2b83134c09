use Rattle.std.proofs.Common.{◌≡◌, ◌<◌, ◌∷◌, ◌∙◌, List, ℕ, length, ap, subst, arith, All, refl}
use Rattle.std.specs.Str.{encode_utf8_all}
use Rattle.std.specs.List.{concat}
use Rattle.std.proofs.lemmas.List.Elements.{All-head, All-tail}
use Rattle.std.proofs.lemmas.Str.{length-le-encodes}
use Rattle.rope_slice.specs.Pieces.{after_descent}
use Rattle.rope_slice.proofs.PiecesAhead.{bytes_of, leaf_and_rest, none_left}
use Rattle.rope_slice.proofs.pieces.Pieces.next_piece.Goals.{After-as_bytes-bytes}
use Rattle.std.proofs.lemmas.List.{length-take}
use Rattle.rope_slice.proofs.pieces.Pieces.next_piece.Goals as goal

-- the leaves that were ahead are the one here and those ahead now
ahead : (c : After-as_bytes-bytes) → after_descent c.self.inside.descent ≡ c.step_on.new.self.here
    ∷ c.step_on.new.self.after
ahead c = ap after_descent c.in-Some.is ∙ c.if-not-step_on.ensures.moved.after

solid : (c : After-as_bytes-bytes)
    → All (λ leaf. 0 < length leaf) (c.step_on.new.self.here ∷ c.step_on.new.self.after)
solid c = subst (λ ls. All (λ (leaf : List ℕ). 0 < length leaf) ls) (ahead c) c.self.invariant

bytes_are : (c : After-as_bytes-bytes) → c.as_bytes-bytes.result.now
    ≡ encode_utf8_all c.step_on.new.self.here
bytes_are c =
    bytes_of c.leaf.result.now c.as_bytes-bytes.result.now c.as_bytes-bytes.ensures.utf8
    c.as_bytes-bytes.ensures.value ∙ ap encode_utf8_all c.leaf.ensures

pub invariant_of-self-2 : goal.invariant_of-self-2
invariant_of-self-2 c =
    All-tail (λ (leaf : List ℕ). 0 < length leaf) c.step_on.new.self.here c.step_on.new.self.after
    (solid (goal.at.invariant_of-self-2 c).After-as_bytes-bytes)

pub returns-clause-bytes : goal.returns-clause-bytes
returns-clause-bytes c =
    let e = (goal.at.returns-clause-bytes c).After-as_bytes-bytes in
    rw (← c.self.view_is, ahead e)
    (leaf_and_rest c.step_on.new.self.here c.step_on.new.self.after c.as_bytes-bytes.result.now
    c.self.inside.left c.min-count.result (bytes_are e) c.min-count.ensures)

pub returns-clause-some : goal.returns-clause-some
returns-clause-some c none =
    let e = (goal.at.returns-clause-some c).After-as_bytes-bytes in
    let here = c.step_on.new.self.here in
    let some =
    All-head (λ (leaf : List ℕ). 0 < length leaf) here c.step_on.new.self.after (solid e) in
    none_left c.as_bytes-bytes.result.now (encode_utf8_all (concat c.step_on.new.self.after))
    c.self.inside.left c.min-count.result c.min-count.ensures
    (omega (arith, some, length-le-encodes here, ap length (bytes_are e))) none

pub returns-then-self-eq0-clause-some : goal.returns-then-self-eq0-clause-some
returns-then-self-eq0-clause-some c = λ _. rw (← c.self.view_is, c.if-self-eq0.true) refl

pub invariant_of-self : goal.invariant_of-self
invariant_of-self c = c.self.invariant

pub returns-in_default-clause-bytes : goal.returns-in_default-clause-bytes
returns-in_default-clause-bytes c = c.self.view_is

pub invariant_of-self-then-not-step_on : goal.invariant_of-self-then-not-step_on
invariant_of-self-then-not-step_on c =
    rw c.if-not-step_on.ensures.stays (rw c.in-Some.is at c.self.invariant)

pub returns-then-not-step_on-clause-bytes : goal.returns-then-not-step_on-clause-bytes
returns-then-not-step_on-clause-bytes c =
    rw c.if-not-step_on.ensures.stays (rw c.in-Some.is at c.self.view_is)

pub overflow_sub-self : goal.overflow_sub-self
overflow_sub-self c = omega (arith, c.min-count.ensures)

pub slice_bounds-result-end-2 : goal.slice_bounds-result-end-2
slice_bounds-result-end-2 c =
    omega (
      arith,
      c.min-count.ensures,
      length-take c.min-count.result c.as_bytes-bytes.result.now,
    )
