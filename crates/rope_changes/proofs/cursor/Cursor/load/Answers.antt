use Rattle.std.proofs.Common.{◌+◌, ◌≤◌, ◌∷◌, inl, length, ap, sym, ◌∙◌, subst, arith, rules}
use Rattle.std.specs.Str.{chars}
use Rattle.rope_changes.specs.Change.{ops_of}
use Rattle.rope_changes.specs.Left.{left, AreChanging}
use Rattle.rope_changes.specs.Packed.{edit_of}
use Rattle.rope_changes.proofs.Lefts.{nothing_left}
use Rattle.rope_changes.proofs.cursor.Cursor.load.Goals.{In-Some}
use Rattle.rope_changes.proofs.cursor.Cursor.load.Goals as goal

all_changing : (c : In-Some) → AreChanging (edit_of c.in-Some.edit ∷ c.next.new.self)
all_changing c = subst AreChanging c.in-Some.ensures.0 c.self.invariant.changing

changing : (c : In-Some) → 1 ≤ c.in-Some.edit.kept + length (chars c.in-Some.edit.text.now)
    + c.in-Some.edit.deleted
changing c = omega (arith, (all_changing c).0)

pub invariant_of-self-2 : goal.invariant_of-self-2
invariant_of-self-2 c =
    let e = (goal.at.invariant_of-self-2 c).In-Some in
    record { counted = c.in-Some.ensures.1; changing = (all_changing e).1 }

pub returns-clause-left : goal.returns-clause-left
returns-clause-left c =
    sym (ap (λ es. ops_of es c.self.inside.rest) c.in-Some.ensures.0)
    ∙ sym (nothing_left c.self.inside.kept c.self.inside.deleted (chars c.self.inside.text.now) _
    (omega arith) (omega arith) (omega arith))
    ∙ ap left c.self.view_is

pub returns-clause-loaded : goal.returns-clause-loaded
returns-clause-loaded c = inl (changing (goal.at.returns-clause-loaded c).In-Some)

pub returns-clause-some : goal.returns-clause-some
returns-clause-some c =
    (λ _. changing (goal.at.returns-clause-some c).In-Some, λ _. search rules)
