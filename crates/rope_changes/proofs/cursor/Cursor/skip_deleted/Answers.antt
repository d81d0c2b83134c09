use Rattle.std.proofs.Common.{◌≡◌, ◌-◌, length, ap, sym, ◌∙◌, arith}
use Rattle.std.specs.Str.{chars}
use Rattle.rope_changes.specs.Change.{deleting, ops_of}
use Rattle.rope_changes.specs.Left.{Left, left}
use Rattle.rope_changes.proofs.NormalLaws.{deleting_split}
use Rattle.rope_changes.proofs.Lefts.{deletions_left}
use Rattle.rope_changes.proofs.cursor.Cursor.skip_deleted.Goals as goal

pub returns : goal.returns
returns c =
    let kept : c.self.inside.kept ≡ 0 = ap (λ (x : Left). x.kept) c.self.view_is
    ∙ c.requires.kept in
    let text : length (chars c.self.inside.text.now)
    ≡ 0 = ap (λ (x : Left). length x.text) c.self.view_is ∙ c.requires.inserted in
    let count = c.args.count in
    let some = c.self.inside.deleted in
    let after = ops_of
    c.self.inside.later c.self.inside.rest in
    sym (ap left c.self.view_is)
    ∙ deletions_left c.self.inside.kept some (chars c.self.inside.text.now) after kept text
    ∙ deleting_split some count after (omega (arith, ap (λ (x : Left). x.deleted) c.self.view_is))
    ∙ ap (deleting count)
    (sym (deletions_left c.self.inside.kept (some - count)
    (chars c.self.inside.text.now) after kept text))
