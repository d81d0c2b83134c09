-- No edits change nothing, and changes can be for the length of a rope.
use Rattle.std.proofs.Common.{◌∙◌, ◌<◌, ◌^◌, [], ap, arith}
use Rattle.std.proofs.lemmas.Str.{length-le-encodes}
use Rattle.rope_changes.specs.Change.{Change, before}
use Rattle.rope_changes.proofs.Prefixes.{keeping_before}
use Rattle.ropey_c.proofs.change_edits.apply_edits.Goals as goal

pub unreachable-requires : goal.unreachable-requires
unreachable-requires c =
    let text = c.args.rope.now.text in
    let short : c.len_chars.result < 2 ^ 63 =
    omega (
      arith,
      c.len_chars.ensures.value,
      c.len_chars.ensures.kept.content.fits,
      length-le-encodes text,
    ) in
    let wrong = c.in_default.ensures.ok short in cc

pub returns-then-status-ne-OK-clause-empty : goal.returns-then-status-ne-OK-clause-empty
returns-then-status-ne-OK-clause-empty c =
    λ none. absurd (c.if-status-ne-OK.true (c.replace_all-status.ensures.empty none).0)

pub returns-clause-empty : goal.returns-clause-empty
returns-clause-empty c = λ none.
    let is = (c.replace_all-status.ensures.empty none).1 ∙ c.in-Ok.ensures.keeps in
    let edits = ap (λ (x : Change). x.edits) is in
    let len = ap (λ (x : Change). before x) is ∙ keeping_before c.len_chars.result [] in
    c.apply.ensures.empty edits (omega (arith, len, c.len_chars.ensures.value))
