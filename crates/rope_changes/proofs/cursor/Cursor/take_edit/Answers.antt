use Rattle.std.proofs.Common.{refl, ap, sym, ◌-◌, ◌∙◌, arith}
use Rattle.std.specs.Str.{chars}
use Rattle.rope_changes.specs.Change.{keeping, inserting, deleting, ops_of}
use Rattle.rope_changes.specs.Left.{Left, left}
use Rattle.rope_changes.proofs.Lefts.{edit_left}
use Rattle.rope_changes.proofs.cursor.Cursor.take_edit.Goals as goal

pub invariant_of-self : goal.invariant_of-self
unfolding chars
invariant_of-self c =
    record {
      counted = refl;
      changing = c.self.invariant.changing;
    }

pub returns-clause-passed : goal.returns-clause-passed
unfolding chars
returns-clause-passed c =
    let after = ops_of c.self.inside.later c.self.inside.rest in
    let kept = c.self.inside.kept in
    let some = c.self.inside.deleted in
    let count = c.args.count in
    sym (ap left c.self.view_is)
    ∙ edit_left kept some count (chars c.self.inside.text.now) after
    (ap (λ (x : Left). x.kept) c.self.view_is ∙ c.requires.kept)
    (omega (arith, ap (λ (x : Left). x.deleted) c.self.view_is))
    ∙ ap (λ (x : Left). inserting x.text (deleting count
    (keeping kept (deleting (some - count) after)))) c.self.view_is
