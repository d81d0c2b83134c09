use Rattle.std.proofs.Common.{◌≡◌, ◌<◌, true, false, length, take, ap, sym, ◌∙◌, arith}
use Rattle.std.specs.Prelude.{◌==◌}
use Rattle.std.specs.Str.{chars}
use Rattle.std.proofs.lemmas.Bool.Decides.{nat_tests}
use Rattle.std.proofs.lemmas.List.{take_all}
use Rattle.rope_text.specs.Text.{byte_len}
use Rattle.rope_text.specs.Breaks.{ends_in_cr}
use Rattle.rope_text.proofs.Walks.{byte_len-chars}
use Rattle.rope_text.proofs.LastBreakLaws.{last_cr}
use Rattle.rope_leaf.proofs.LeafTexts.{no_chars}
use Rattle.rope_leaf.proofs.leaf_edits.ends_in_cr.Goals as goal

pub returns-then-not-is_empty : goal.returns-then-not-is_empty
returns-then-not-is_empty c =
    let bs = c.as_bytes-bytes.result.now in
    let u = c.as_bytes-bytes.ensures.utf8 in
    let full : (length bs == 0) ≡ false = sym c.is_empty.ensures ∙ c.if-not-is_empty.true in
    let some : 0 < length bs = grind (arith, nat_tests) in
    let all : take (length (chars bs)) (chars bs) ≡ chars bs =
    take_all (length (chars bs)) (chars bs) (omega arith) in
    last_cr bs (length bs) (length (chars bs)) u (ap byte_len all ∙ byte_len-chars bs u) some
    (omega arith) ∙ ap ends_in_cr all
    ∙ ap (λ b. ends_in_cr (chars b)) c.as_bytes-bytes.ensures.value

pub returns-else-not-is_empty : goal.returns-else-not-is_empty
returns-else-not-is_empty c =
    let bs = c.as_bytes-bytes.result.now in
    let empty : (length bs == 0) ≡ true = sym c.is_empty.ensures ∙ c.if-not-is_empty.false in
    let none : length bs ≡ 0 = grind (arith, nat_tests) in
    rw c.if-not-is_empty.false
    (sym (ap (λ b. ends_in_cr (chars b)) (sym c.as_bytes-bytes.ensures.value)
    ∙ ap ends_in_cr (no_chars bs none)))
