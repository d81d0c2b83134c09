use Rattle.std.proofs.Common.{refl, ap, sym, ◌∙◌}
use Rattle.std.specs.Str.{chars}
use Rattle.rope_changes.specs.Change.{keeping, inserting, deleting, ops_of}
use Rattle.rope_changes.specs.Left.{Left, left}
use Rattle.rope_changes.proofs.Lefts.{text_left}
use Rattle.rope_changes.proofs.cursor.Cursor.take_text.Goals as goal

pub invariant_of-self : goal.invariant_of-self
unfolding chars
invariant_of-self c =
    record {
      counted = refl;
      changing = c.self.invariant.changing;
    }

pub returns-clause-passed : goal.returns-clause-passed
unfolding chars
returns-clause-passed c =
    let after = deleting c.self.inside.deleted
    (ops_of c.self.inside.later c.self.inside.rest) in
    sym (ap left c.self.view_is)
    ∙ text_left c.self.inside.kept (chars c.self.inside.text.now) after
    (ap (λ (x : Left). x.kept) c.self.view_is ∙ c.requires)
    ∙ ap (λ (x : Left). inserting x.text (keeping c.self.inside.kept after)) c.self.view_is
