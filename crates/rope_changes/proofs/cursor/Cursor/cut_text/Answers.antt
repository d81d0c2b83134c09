use Rattle.std.proofs.Common.{ap, sym, ◌∙◌}
use Rattle.std.specs.Str.{chars}
use Rattle.rope_changes.specs.Change.{keeping, inserting, deleting, ops_of}
use Rattle.rope_changes.specs.Left.{Left, left}
use Rattle.rope_changes.proofs.NormalLaws.{inserting_more}
use Rattle.rope_changes.proofs.Lefts.{text_left}
use Rattle.rope_changes.proofs.cursor.Cursor.cut_text.Goals as goal

pub returns-clause-passed : goal.returns-clause-passed
returns-clause-passed c =
    let after = deleting c.self.inside.deleted
    (ops_of c.self.inside.later c.self.inside.rest) in
    let front = chars c.split_chars.result.0.now in
    let back = chars c.split_chars.result.1.now in
    sym (ap left c.self.view_is)
    ∙ ap (λ t. keeping c.self.inside.kept (inserting t after)) c.split_chars.ensures.parts
    ∙ ap (keeping c.self.inside.kept) (inserting_more front back after)
    ∙ text_left c.self.inside.kept front (inserting back after)
    (ap (λ (x : Left). x.kept) c.self.view_is ∙ c.requires.kept)
