use Rattle.std.proofs.Common.{◌≡◌, ◌≤◌, ◌<◌, ℕ, List, take, count_by, nat_le, refl, arith}
use Rattle.std.specs.Str.{chars, IsUtf8, IsCharBoundary}
use Rattle.rope_text.specs.Bytes.{begins_pair}
use Rattle.rope_text.specs.Conversions.{byte_to_char}
use Rattle.rope_text.specs.Text.{surrogate_count}
use Rattle.rope_text.proofs.ByteLaws.{surrogate_count-chars}
use Rattle.rope_text.proofs.Blocks.{count_by-front, count_by-following}
use Rattle.rope_text.proofs.Fronts.{pairs_before, byte_place}
use Rattle.rope_text.proofs.str_utils.byte_to_surrogates_of.Goals as goal

-- the pairs before the last boundary up to the byte b
front : (bs : List ℕ) (b p : ℕ) → IsUtf8 bs → IsCharBoundary bs p → p ≤ b
    → ((k : ℕ) → p < k → k ≤ b → IsCharBoundary bs k → ⊥)
    → count_by begins_pair (take p bs) ≡ surrogate_count
    (take (byte_to_char (chars bs) b) (chars bs))
front bs b p u at fits last =
    rw (byte_place bs b p u at fits last) at (pairs_before bs (byte_to_char (chars bs) b) u)

pub returns-then-pair_count-eq0 : goal.returns-then-pair_count-eq0
returns-then-pair_count-eq0 c =
    let text = c.args.text.now in
    omega (
      arith,
      c.requires,
      c.if-pair_count-eq0.true,
      count_by-front (λ x. nat_le 0x1_0000 x) (chars text)
          (byte_to_char (chars text) c.args.byte_idx),
    )

pub overflow_sub-result : goal.overflow_sub-result
overflow_sub-result c =
    let text = c.args.text.now in
    let counted =
    count_by-following begins_pair c.as_bytes-bytes.result.now text c.floor_char_boundary-end.result
    _ _ c.as_bytes-bytes.ensures.value refl c.count_marks-else-end-bytes.ensures in
    omega (
      arith,
      c.requires,
      counted,
      surrogate_count-chars text c.utf8.text,
      count_by-front begins_pair text c.floor_char_boundary-end.result,
    )

pub returns-then-end-bytes : goal.returns-then-end-bytes
returns-then-end-bytes c =
    let text = c.args.text.now in
    let end = c.floor_char_boundary-end in
    let before =
    front text c.args.byte_idx end.result c.utf8.text end.ensures.boundary end.ensures.bound
    end.ensures.nearest in
    let counted = rw c.as_bytes-bytes.ensures.value at c.count_marks.ensures in
    omega (arith, counted, before, count_by-front begins_pair text end.result)

pub returns-else-end-bytes : goal.returns-else-end-bytes
returns-else-end-bytes c =
    let text = c.args.text.now in
    let end = c.floor_char_boundary-end in
    let before =
    front text c.args.byte_idx end.result c.utf8.text end.ensures.boundary end.ensures.bound
    end.ensures.nearest in
    let counted =
    count_by-following begins_pair c.as_bytes-bytes.result.now text end.result _ _
    c.as_bytes-bytes.ensures.value refl c.count_marks-else-end-bytes.ensures in
    omega (
      arith,
      c.requires,
      counted,
      before,
      surrogate_count-chars text c.utf8.text,
      count_by-front begins_pair text end.result,
    )
