use Rattle.std.proofs.Common.{◌≡◌, Bool, true, false, List, [], ◌∷◌, reverse, Option, Some, None, ap, ◌∙◌, subst}
use Rattle.std.specs.Bool.{MatchBool}
use Rattle.std.specs.Iterator.{YieldsFirstBy}
use Rattle.std.proofs.lemmas.List.{reverse-append}
use Rattle.rope_text.specs.Sides.{Sides, ahead, GoesLeft, GoesRight, GoesAhead, StepsAhead}
use Rattle.rope_text.proofs.SidesLaws.{goes_ahead}
use Rattle.rope_slice.specs.Slice.{content_of}
use Rattle.rope_slice.proofs.lines.LinesIterator.next.Goals.{After-step-2}
use Rattle.rope_slice.proofs.lines.LinesIterator.next.Goals as goal

module _ {A X : Type 0} (view : A → X) where
  yields : (left right : List X) (back : Bool) (r : Option A) (t : Sides X)
      → StepsAhead view (record { left = left; right = right; is_backward = back }) r t
      → YieldsFirstBy view ahead (record { left = left; right = right; is_backward = back }) r t
  yields left right true None t g = (ap reverse g.0, ap ahead g.1 ∙ ap reverse g.0)
  yields left right true (Some x) t g = rw (g.0, g.2) (reverse-append t.left (view x ∷ []))
  yields left right false None t g = (g.0, ap ahead g.1 ∙ g.0)
  yields left right false (Some x) t g = rw g.2 g.0

  goes : (s t : Sides X) (r : Option A) → StepsAhead view s r t → GoesAhead view s r t
  goes s t None steps = record { on = λ _. tt; keeps = tt; rests = λ _. tt; moves = steps }
  goes s t (Some x) steps = goes_ahead view s t x steps

  in_direction : (b : Bool) (s t : Sides X) (r : Option A) → b ≡ s.is_backward
      → MatchBool b (GoesLeft view s r t) (GoesRight view s r t) → StepsAhead view s r t
  in_direction b s t r same steps =
      subst (λ d. MatchBool d (GoesLeft view s r t) (GoesRight view s r t)) same steps

-- the call steps ahead
steps : (c : After-step-2)
    → StepsAhead (λ x. content_of x) c.args.self.now c.step-2.result c.step-2.new.self
steps c =
    in_direction (λ x. content_of x) c.step.inside.is_backward c.args.self.now c.step-2.new.self
    c.step-2.result (ap (λ s. s.is_backward) c.step.view_is) c.step-2.ensures

pub returns-clause-steps : goal.returns-clause-steps
returns-clause-steps c = yields (λ x. content_of x) _ _ _ _ _ (steps c)

pub returns-clause-goes : goal.returns-clause-goes
returns-clause-goes c = goes (λ x. content_of x) _ _ _ (steps c)
