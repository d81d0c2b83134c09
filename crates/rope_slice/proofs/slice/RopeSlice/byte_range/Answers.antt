use Rattle.std.proofs.Common.{◌≡◌, ◌+◌, ◌-◌, ◌<◌, ◌≤◌, ◌∙◌, ℕ, true, refl, sym, ap, arith, rules, inl, inr}
use Rattle.std.proofs.lemmas.Bool.{cases_lt}
use Rattle.std.proofs.lemmas.List.{length-take-le}
use Rattle.rope_text.specs.declared.text_info.TextInfo.{TextInfo}
use Rattle.rope_text.proofs.Measures.{IsMeasure-byte_len, size_le}
use Rattle.rope_slice.specs.declared.excerpt.Excerpt.{Excerpt}
use Rattle.std.proofs.lemmas.Str.{chars-nil}
use Rattle.rope_text.specs.Text.{byte_len}
use Rattle.rope_text.specs.Conversions.{byte_to_char}
use Rattle.rope_text.specs.Cutting.{single_chunk}
use Rattle.rope_text.specs.Edit.{is_char_boundary}
use Rattle.rope_text.specs.LineParts.{part_between}
use Rattle.rope_text.proofs.ByteSlices.{boundary_is, byte_to_char-mono}
use Rattle.rope_text.proofs.ClipLaws.{slice_range_empty, clip_empty}
use Rattle.rope_text.proofs.ConversionLaws.{byte_to_char-le-length}
use Rattle.rope_leaf.specs.Tree.{text}
use Rattle.rope_slice.specs.Edge.{IsExcerpt, start_info, end_info}
use Rattle.rope_slice.specs.Slice.{content_of, text_of, chunks_of}
use Rattle.rope_slice.specs.Excerpt as of_excerpt
use Rattle.rope_slice.specs.Plain as of_plain
use Rattle.rope_slice.proofs.ChunkParts.{chars_of_part}
use Rattle.rope_slice.proofs.Clips.{part_of_part, clip_of_clip, single_chunk-clip}
use Rattle.rope_slice.proofs.LeafPlaces.{cut_of_boundary, boundary_of_cut}
use Rattle.rope_slice.proofs.Measured.{measured}
use Rattle.rope_slice.proofs.PartsBetween.{same_content}
use Rattle.rope_slice.proofs.slice.RopeSlice.byte_range.Goals as goal

pub returns-then-from-to-clause-some : goal.returns-then-from-to-clause-some
returns-then-from-to-clause-some c =
    let own = text_of c.args.self.now in
    let i = byte_to_char own c.args.from in
    let j = byte_to_char own c.args.to in
    let none : j ≤ i = omega (arith, ap (byte_to_char own) c.if-from-to.true) in
    let part = c.from_str_with.ensures.text ∙ chars-nil ∙ sym (slice_range_empty own i j none) in
    let chunks = c.from_str_with.ensures.chunks ∙ ap single_chunk chars-nil
    ∙ sym (clip_empty (chunks_of c.args.self.now) i j none) in
    same_content _ (part_between (content_of c.args.self.now) i j) part chunks (search rules)

-- the counts at the two ends of a part of an excerpt's bytes
module _ (s : Excerpt) (start end : TextInfo) (from to : ℕ) (some : from < to)
    (from_cut : is_char_boundary (of_excerpt.text_of s) from ≡ true)
    (to_cut : is_char_boundary (of_excerpt.text_of s) to ≡ true)
    (start_is : start ≡ start_info s.node.now.breaks (text s.node.now)
    (s.start.chars + byte_to_char (of_excerpt.text_of s) from))
    (end_is : end ≡ end_info s.node.now.breaks (text s.node.now)
    (s.start.chars + byte_to_char (of_excerpt.text_of s) to)) where
  inside : byte_to_char (of_excerpt.text_of s) to ≤ s.end.chars - s.start.chars
  inside = let m = measured _ _ _ _ s.is_excerpt in
      omega (arith, byte_to_char-le-length (of_excerpt.text_of s) to, m.chars)

  start_chars : start.chars ≡ s.start.chars + byte_to_char (of_excerpt.text_of s) from
  start_chars = ap (λ x. x.chars) start_is

  end_chars : end.chars ≡ s.start.chars + byte_to_char (of_excerpt.text_of s) to
  end_chars =
      let m = measured _ _ _ _ s.is_excerpt in
      ap (λ x. x.chars) end_is
      ∙ length-take-le (s.start.chars + byte_to_char (of_excerpt.text_of s) to) (text s.node.now)
      (omega (arith, inside, m.some, m.within))

  ordered : byte_to_char (of_excerpt.text_of s) from < byte_to_char (of_excerpt.text_of s) to
  ordered =
      let own = of_excerpt.text_of s in
      elim (cases_lt (byte_to_char own from) (byte_to_char own to)) [
        | inl less ↦ less
        | inr not ↦ absurd (omega (
          arith,
          boundary_is own from from_cut,
          boundary_is own to to_cut,
          size_le byte_len IsMeasure-byte_len own (byte_to_char own to) (byte_to_char own from) not,
        ))
      ]

  excerpt_is : IsExcerpt s.node.now.breaks (text s.node.now) start end
  excerpt_is =
      let m = measured _ _ _ _ s.is_excerpt in
      record {
        some = omega (arith, start_chars, end_chars, ordered);
        within = omega (arith, end_chars, inside, m.some, m.within);
        start_is = start_is ∙ ap (start_info s.node.now.breaks (text s.node.now)) (sym start_chars);
        end_is = end_is ∙ ap (end_info s.node.now.breaks (text s.node.now)) (sym end_chars);
      }

pub invariant_of-result : goal.invariant_of-result
invariant_of-result c =
    let a = c.in_ok-start-in-InTree in
    let b = c.in_ok-end-in-InTree in
    record {
      is_low = c.in-InTree.excerpt.is_low;
      is_excerpt =
          excerpt_is c.in-InTree.excerpt a.start b.end c.args.from c.args.to
          (omega (arith, c.if-from-to.false, c.requires.ordered)) (a.ensures.whole.0 refl)
          (b.ensures.whole.0 refl) a.ensures.some b.ensures.some;
    }

pub returns-in_ok-end-in-InTree-clause-some : goal.returns-in_ok-end-in-InTree-clause-some
returns-in_ok-end-in-InTree-clause-some c =
    let a = c.in_ok-start-in-InTree in
    let b = c.in_ok-end-in-InTree in
    let s = c.in-InTree.excerpt in
    let less : c.args.from < c.args.to = omega (arith, c.if-from-to.false, c.requires.ordered) in
    let from_cut = a.ensures.whole.0 refl in
    let to_cut = b.ensures.whole.0 refl in
    let i = byte_to_char (of_excerpt.text_of s) c.args.from in
    let j = byte_to_char (of_excerpt.text_of s) c.args.to in
    let within =
    inside s a.start b.end c.args.from c.args.to less from_cut to_cut a.ensures.some
    b.ensures.some in
    let start =
    start_chars s a.start b.end c.args.from c.args.to less from_cut to_cut a.ensures.some
    b.ensures.some in
    let end =
    end_chars s a.start b.end c.args.from c.args.to less from_cut to_cut a.ensures.some
    b.ensures.some in
    let part =
    part_of_part (text s.node.now) s.start.chars s.end.chars i j a.start.chars b.end.chars within
    start end in
    let chunks =
    clip_of_clip s.node.now.leaves s.start.chars s.end.chars i j a.start.chars b.end.chars within
    start end in
    rw c.in-InTree.is (same_content _ (part_between (of_excerpt.content_of s) i j) part chunks refl)

-- of a plain text
pub returns-then-not-is_char_boundary-clause-whole :
    goal.returns-then-not-is_char_boundary-clause-whole
returns-then-not-is_char_boundary-clause-whole c = (
  (λ h. absurd (cc)),
  (λ h. c.if-not-is_char_boundary.ensures.test.1
      (cut_of_boundary c.as_str-text.result.now (of_plain.text_of c.in-Alone.plain) c.args.from
      c.as_str-text.utf8 c.as_str-text.ensures (rw c.in-Alone.is at h).0)),
)

pub returns-then-not-is_char_boundary-2-clause-whole :
    goal.returns-then-not-is_char_boundary-2-clause-whole
returns-then-not-is_char_boundary-2-clause-whole c = (
  (λ h. absurd (cc)),
  (λ h. c.if-not-is_char_boundary-2.ensures.test.1
      (cut_of_boundary c.as_str-text.result.now (of_plain.text_of c.in-Alone.plain) c.args.to
      c.as_str-text.utf8 c.as_str-text.ensures (rw c.in-Alone.is at h).1)),
)

pub returns-else-not-is_char_boundary-2-clause-whole :
    goal.returns-else-not-is_char_boundary-2-clause-whole
returns-else-not-is_char_boundary-2-clause-whole c =
    let first =
    boundary_of_cut c.as_str-text.result.now (of_plain.text_of c.in-Alone.plain) c.args.from
    c.as_str-text.utf8 c.as_str-text.ensures (c.if-not-is_char_boundary.ensures.test.0 refl) in
    let last =
    boundary_of_cut c.as_str-text.result.now (of_plain.text_of c.in-Alone.plain) c.args.to
    c.as_str-text.utf8 c.as_str-text.ensures (c.if-not-is_char_boundary-2.ensures.test.0 refl) in
    ((λ h. rw c.in-Alone.is (first, last)), (λ h. refl))

pub returns-else-not-is_char_boundary-2-clause-some :
    goal.returns-else-not-is_char_boundary-2-clause-some
returns-else-not-is_char_boundary-2-clause-some c =
    let plain = c.in-Alone.plain in
    let own = of_plain.text_of plain in
    let first =
    boundary_of_cut c.as_str-text.result.now own c.args.from c.as_str-text.utf8
    c.as_str-text.ensures (c.if-not-is_char_boundary.ensures.test.0 refl) in
    let last =
    boundary_of_cut c.as_str-text.result.now own c.args.to c.as_str-text.utf8 c.as_str-text.ensures
    (c.if-not-is_char_boundary-2.ensures.test.0 refl) in
    let i = byte_to_char own c.args.from in
    let j = byte_to_char own c.args.to in
    let part =
    chars_of_part c.as_str-text.result.now own c.range.result.now i j c.args.from c.args.to
    c.as_str-text.utf8 c.as_str-text.ensures
    (byte_to_char-mono own c.args.from c.args.to c.requires.ordered)
    (sym (boundary_is own c.args.from first)) (sym (boundary_is own c.args.to last))
    c.range.ensures.value in
    let text = c.from_str_with-in-Alone.ensures.text ∙ part in
    let chunks = c.from_str_with-in-Alone.ensures.chunks ∙ ap single_chunk part
    ∙ single_chunk-clip own i j in
    rw c.in-Alone.is (same_content _ (part_between (of_plain.content_of plain) i j) text chunks
    c.from_str_with-in-Alone.ensures.breaks)
