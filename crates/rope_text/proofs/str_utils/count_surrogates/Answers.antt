use Rattle.std.proofs.Common.{◌≡◌, ap, length, count_by, drop, arith}
use Rattle.std.proofs.Math.ListN.{drop_of_length-le}
use Rattle.std.specs.Str.{chars}
use Rattle.rope_text.specs.Bytes.{begins_pair}
use Rattle.rope_text.specs.Text.{surrogate_count}
use Rattle.rope_text.proofs.ByteLaws.{surrogate_count-chars}
use Rattle.rope_text.proofs.str_utils.count_surrogates.Goals as goal

pub returns : goal.returns
returns c =
    let bs = c.as_bytes.result.now in
    let none : count_by begins_pair (drop (length c.args.text.now) bs) ≡ 0 =
    ap (count_by begins_pair) (drop_of_length-le bs (omega (arith, c.as_bytes.ensures.len))) in
    let whole = surrogate_count-chars bs c.as_bytes.ensures.utf8 in
    let same = ap (λ xs. surrogate_count (chars xs)) c.as_bytes.ensures.value in
    omega (arith, c.count_marks.ensures)
