use Rattle.std.proofs.Common.{◌≡◌, ◌+◌, ◌-◌, ◌<◌, ◌≤◌, ℕ, List, length, take, drop, ap, refl, arith}
use Rattle.std.proofs.lemmas.List.{take_all, length-drop}
use Rattle.std.specs.Str.{chars, IsUtf8, IsCharBoundary}
use Rattle.rope_text.specs.declared.line_breaks.LineBreaks.{LineBreaks}
use Rattle.rope_text.specs.Conversions.{byte_to_char, byte_to_line}
use Rattle.rope_text.specs.ByteBreaks.{byte_break_count}
use Rattle.rope_text.proofs.ByteBreakLaws.{break_count-chars, byte_break_count-past}
use Rattle.rope_text.proofs.ConversionLaws.{byte_to_line-byte_to_char}
use Rattle.rope_text.proofs.Fronts.{line_place, byte_place}
use Rattle.rope_text.proofs.str_utils.byte_to_line_of.Goals as goal

-- the breaks before the last boundary up to the byte b are those that end at or before it
front : (breaks : LineBreaks) (bs : List ℕ) (b p : ℕ) → IsUtf8 bs → IsCharBoundary bs p → p ≤ b
    → ((k : ℕ) → p < k → k ≤ b → IsCharBoundary bs k → ⊥)
    → byte_break_count breaks bs ≡ byte_to_line breaks (chars bs) b + byte_break_count breaks
    (drop p bs)
front breaks bs b p u at fits last =
    let line =
    rw (byte_place bs b p u at fits last) at (line_place breaks bs (byte_to_char (chars bs) b) u) in
    omega (arith, line, byte_to_line-byte_to_char breaks (chars bs) b)

-- the breaks from the byte p on
following : (breaks : LineBreaks) (bs text : List ℕ) (p counted n : ℕ) → bs ≡ text
    → n ≡ length (take (length bs - p) (drop p bs))
    → byte_break_count breaks (take (length bs - p) (drop p bs))
    ≡ counted + byte_break_count breaks (drop n (take (length bs - p) (drop p bs)))
    → counted ≡ byte_break_count breaks (drop p text)
following breaks bs text p counted n same size more =
    let rest : List ℕ = take (length bs - p) (drop p bs) in
    let all : rest ≡ drop p bs =
    take_all (length bs - p) (drop p bs) (omega (arith, length-drop p bs)) in
    omega (
      arith,
      more,
      byte_break_count-past breaks rest n (omega (arith, size)),
      ap (byte_break_count breaks) all,
      ap (λ xs. byte_break_count breaks (drop p xs)) same,
    )

pub overflow_sub-result : goal.overflow_sub-result
overflow_sub-result c =
    let text = c.args.text.now in
    let breaks = c.args.breaks in
    let to = c.floor_char_boundary-to in
    let before =
    front breaks text c.args.byte_idx to.result c.utf8.text to.ensures.boundary to.ensures.bound
    to.ensures.nearest in
    let counted =
    following breaks c.as_bytes-bytes.result.now text to.result _ _ c.as_bytes-bytes.ensures.value
    refl c.count_breaks_before-2.ensures in
    omega (arith, c.requires, counted, before, break_count-chars breaks text c.utf8.text)

pub returns-then-to-bytes : goal.returns-then-to-bytes
returns-then-to-bytes c =
    let text = c.args.text.now in
    let breaks = c.args.breaks in
    let to = c.floor_char_boundary-to in
    let before =
    front breaks text c.args.byte_idx to.result c.utf8.text to.ensures.boundary to.ensures.bound
    to.ensures.nearest in
    let counted = rw c.as_bytes-bytes.ensures.value at c.count_breaks_before.ensures in
    omega (arith, counted, before)

pub returns : goal.returns
returns c =
    let text = c.args.text.now in
    let breaks = c.args.breaks in
    let to = c.floor_char_boundary-to in
    let before =
    front breaks text c.args.byte_idx to.result c.utf8.text to.ensures.boundary to.ensures.bound
    to.ensures.nearest in
    let counted =
    following breaks c.as_bytes-bytes.result.now text to.result _ _ c.as_bytes-bytes.ensures.value
    refl c.count_breaks_before-2.ensures in
    omega (arith, c.requires, counted, before, break_count-chars breaks text c.utf8.text)
