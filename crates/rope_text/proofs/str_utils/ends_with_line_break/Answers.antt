use Rattle.std.proofs.Common.{◌≡◌, ◌<◌, length, ◌∙◌, sym, arith}
use Rattle.std.proofs.lemmas.Bool.Decides.{nat_tests}
use Rattle.rope_text.proofs.LastBreakLaws.{last_place, last_ends, no_bytes}
use Rattle.rope_text.proofs.str_utils.ends_with_line_break.Goals as goal

pub returns-then-is_empty : goal.returns-then-is_empty
returns-then-is_empty c =
    let none : length c.args.text.now ≡ 0 = grind (arith, nat_tests) in
    sym (no_bytes c.args.breaks c.args.text.now c.utf8.text none)

pub returns : goal.returns
returns c =
    let text = c.args.text.now in
    let last = c.floor_char_boundary-last in
    let some : 0 < length text = grind (arith, nat_tests) in
    let place =
    last_place text last.result c.utf8.text some last.ensures.boundary last.ensures.bound
    last.ensures.nearest in
    rw c.as_bytes.ensures.value at c.is_mark.ensures
    ∙ last_ends c.args.breaks text last.result place.0 c.utf8.text place.1 place.2
