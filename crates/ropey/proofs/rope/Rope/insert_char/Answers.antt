-- The bytes of a character are the text of that character.
use Rattle.std.proofs.Common.{◌∙◌, ap, subst}
use Rattle.std.specs.Result.{OnOk, IfErr}
use Rattle.std.specs.Str.{chars}
use Rattle.ropey.specs.Edited.{IsInsert, IsInsertRefusal}
use Rattle.ropey.proofs.Ropes.{one_char}
use Rattle.ropey.proofs.rope.Rope.insert_char.Goals as goal

pub returns-clause-ok : goal.returns-clause-ok
returns-clause-ok c =
    let text = c.args.self.now.text in
    let one = ap chars c.encode_utf8.ensures.value ∙ one_char c.args.c c.ranges.c.0 in
    subst (λ new. OnOk c.insert.result (IsInsert text c.args.char_idx new c.insert.new.self.text))
    one c.insert.ensures.ok

pub returns-clause-refused : goal.returns-clause-refused
returns-clause-refused c =
    let one = ap chars c.encode_utf8.ensures.value ∙ one_char c.args.c c.ranges.c.0 in
    subst (λ new. IfErr c.insert.result (IsInsertRefusal c.args.self.now.text c.args.char_idx new))
    one c.insert.ensures.refused
