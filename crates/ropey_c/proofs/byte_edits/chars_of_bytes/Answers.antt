use Rattle.std.proofs.Common.{◌≤◌, sym, subst}
use Rattle.rope_text.specs.Conversions.{byte_to_char}
use Rattle.ropey_c.proofs.Bytes.{chars_ordered}
use Rattle.ropey_c.proofs.byte_edits.chars_of_bytes.Goals as goal

pub returns-clause-ok : goal.returns-clause-ok
returns-clause-ok c =
    let fine = c.in_ok-try_byte_slice.ensures.ok.0 in
    let first = c.byte_to_char.ensures.value in
    let last = c.byte_to_char-2.ensures.value in
    let ordered = chars_ordered c.args.rope.now.text c.args.start c.args.end fine in (
      fine,
      first,
      last,
      subst (λ n. n ≤ c.byte_to_char-2.result) (sym first)
          (subst (λ n. byte_to_char c.args.rope.now.text c.args.start ≤ n) (sym last) ordered),
      c.byte_to_char-2.ensures.within,
    )
