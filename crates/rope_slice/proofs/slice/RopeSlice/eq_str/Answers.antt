use Rattle.std.proofs.Common.{◌∙◌, ap, length, nat_cmp, ◌++◌, arith}
use Rattle.std.specs.Cmp.Lexicographic.{slice_cmp}
use Rattle.std.specs.Str.{chars, encode_utf8_all}
use Rattle.std.proofs.lemmas.Bool.Decides.{nat_tests}
use Rattle.std.proofs.lemmas.Str.{encodes-chars}
use Rattle.rope_slice.specs.Slice.{text_of}
use Rattle.rope_slice.proofs.Comparing.{ties_tell}
use Rattle.rope_slice.proofs.slice.RopeSlice.eq_str.Goals as goal

pub returns-then-len_bytes-other : goal.returns-then-len_bytes-other
returns-then-len_bytes-other c =
    ties_tell (text_of c.args.self.now) (chars c.args.other.now) c.order_of_pieces.result
    c.is_eq.result
    (c.order_of_pieces.ensures
    ∙ ap (λ z. slice_cmp nat_cmp z (c.of_text.result.0.now ++ c.of_text.result.1))
    c.of.ensures.bytes ∙ ap (slice_cmp nat_cmp (encode_utf8_all (text_of c.args.self.now)))
    c.of_text.ensures.bytes)
    c.is_eq.ensures

pub returns-else-len_bytes-other : goal.returns-else-len_bytes-other
returns-else-len_bytes-other c = (
  λ h. absurd (c.if-len_bytes-other.false (grind (arith, nat_tests, h))),
  λ e. absurd (c.if-len_bytes-other.false (c.len_bytes.ensures.value
      ∙ ap (λ x. length (encode_utf8_all x)) e
      ∙ ap length (encodes-chars c.args.other.now c.utf8.other))),
)
