use Rattle.std.proofs.Common.{◌≡◌, ℕ, List, length, sym, ap, ◌∙◌, arith}
use Rattle.std.specs.Bool.{OnTrue}
use Rattle.std.specs.Str.{chars, IsUtf8}
use Rattle.std.proofs.lemmas.Bool.{OnTrue_at, OnTrue_from, OnFalse_from}
use Rattle.rope_text.specs.Text.{byte_len}
use Rattle.rope_text.proofs.Walks.{byte_len-chars}
use Rattle.rope_slice.proofs.Spans.{in_order, no_next, no_prev, span_next, span_prev, span_after}
use Rattle.rope_slice.specs.Path.{IsNext}
use Rattle.rope_slice.specs.Span.{clipped_at, IsSpanFrom}
use Rattle.rope_slice.proofs.path.TreeSpan.step.Goals.{After-step, After-step-then-leaf-self}
use Rattle.rope_slice.proofs.path.TreeSpan.step.Goals as goal

-- backward
back : (c : After-step) → let s = c.self.inside in
    OnTrue c.step.result (IsSpanFrom c.step.new.self s.from s.to
    × IsNext (clipped_at c.step.new.self s.from s.to) (clipped_at s.path s.from s.to))
back c =
    let s = c.self.inside in
    OnTrue_from c.step.result _
    (λ e. span_prev c.step.new.self s.path s.from s.to c.self.invariant
    (OnTrue_at e c.step.ensures.moved) (omega (arith, c.if-self-start.true, c.start-start.ensures)))

pub invariant_of-self : goal.invariant_of-self
invariant_of-self c =
    let s = c.self.inside in
    let b = back (goal.at.invariant_of-self c).After-step in
    span_after s.path c.step.new.self s.from s.to c.step.result c.self.invariant
    (OnTrue_from c.step.result _ (λ e. (OnTrue_at e b).0)) c.step.ensures.stays

pub returns-then-self-start-clause-moved : goal.returns-then-self-start-clause-moved
returns-then-self-start-clause-moved c =
    let b = back (goal.at.returns-then-self-start-clause-moved c).After-step in
    rw (c.if-is_backward.true, ← c.self.view_is)
    (OnTrue_from c.step.result _ (λ e. (OnTrue_at e b).1))

pub returns-else-self-start-clause-ended : goal.returns-else-self-start-clause-ended
returns-else-self-start-clause-ended c =
    let s = c.self.inside in
    rw (c.if-is_backward.true, ← c.self.view_is)
    (OnFalse_from _ _ (λ _. no_prev s.path _ _ _ c.self.invariant
    (omega (arith, c.start-start.ensures, c.if-self-start.false))))

-- forward
size : (leaf here : List ℕ) → IsUtf8 leaf → chars leaf ≡ here → length leaf ≡ byte_len here
size leaf here u e = sym (byte_len-chars leaf u) ∙ ap byte_len e

pub overflow_sub-self-inside : goal.overflow_sub-self-inside
overflow_sub-self-inside c =
    omega (arith, c.start-start.ensures, in_order c.self.inside.path _ _ _ c.self.invariant)

on : (c : After-step-then-leaf-self) → let s = c.self.inside in
    OnTrue c.step-then-leaf-self.result (IsSpanFrom c.step-then-leaf-self.new.self s.from s.to
    × IsNext (clipped_at s.path s.from s.to)
    (clipped_at c.step-then-leaf-self.new.self s.from s.to))
on c =
    let s = c.self.inside in
    OnTrue_from c.step-then-leaf-self.result _
    (λ e. span_next s.path c.step-then-leaf-self.new.self s.from s.to c.self.invariant
    (OnTrue_at e c.step-then-leaf-self.ensures.moved)
    (omega (
      arith,
      size c.leaf.result.now s.path.here c.leaf.utf8 c.leaf.ensures,
      c.if-leaf-self.true,
      c.start-start.ensures,
    )))

pub invariant_of-self-then-leaf-self : goal.invariant_of-self-then-leaf-self
invariant_of-self-then-leaf-self c =
    let s = c.self.inside in
    let b = on (goal.at.invariant_of-self-then-leaf-self c).After-step-then-leaf-self in
    span_after s.path c.step-then-leaf-self.new.self s.from s.to c.step-then-leaf-self.result
    c.self.invariant (OnTrue_from c.step-then-leaf-self.result _ (λ e. (OnTrue_at e b).0))
    c.step-then-leaf-self.ensures.stays

pub returns-then-leaf-self-clause-moved : goal.returns-then-leaf-self-clause-moved
returns-then-leaf-self-clause-moved c =
    let b = on (goal.at.returns-then-leaf-self-clause-moved c).After-step-then-leaf-self in
    rw (c.if-is_backward.false, ← c.self.view_is)
    (OnTrue_from c.step-then-leaf-self.result _ (λ e. (OnTrue_at e b).1))

pub returns-else-leaf-self-clause-ended : goal.returns-else-leaf-self-clause-ended
returns-else-leaf-self-clause-ended c =
    let s = c.self.inside in
    let long = size c.leaf.result.now s.path.here c.leaf.utf8 c.leaf.ensures in
    rw (c.if-is_backward.false, ← c.self.view_is)
    (OnFalse_from _ _ (λ _. no_next s.path _ _ _ c.self.invariant
    (omega (arith, long, c.start-start.ensures, c.if-leaf-self.false))))
