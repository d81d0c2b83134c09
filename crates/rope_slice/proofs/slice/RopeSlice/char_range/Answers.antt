use Rattle.std.proofs.Common.{rules, ◌≡◌, ◌+◌, ◌-◌, ◌≤◌, ◌∙◌, ap, sym, arith, drop, length, refl}
use Rattle.std.specs.List.{slice_range}
use Rattle.std.specs.Str.{chars}
use Rattle.std.proofs.lemmas.List.{length-take-le}
use Rattle.std.proofs.lemmas.Str.{chars-nil}
use Rattle.rope_text.specs.Cutting.{single_chunk}
use Rattle.rope_text.proofs.ClipLaws.{slice_range_empty, clip_empty}
use Rattle.rope_text.proofs.TextParts.{chars_front, chars_back}
use Rattle.rope_leaf.specs.Tree.{text}
use Rattle.rope_slice.specs.Slice.{text_of, chunks_of}
use Rattle.rope_slice.specs.Edge.{start_info, end_info}
use Rattle.rope_slice.specs.Plain as plain
use Rattle.rope_slice.specs.Excerpt as excerpt
use Rattle.rope_slice.proofs.Clips.{part_of_part, clip_of_clip}
use Rattle.rope_slice.proofs.Measured.{measured}
use Rattle.rope_slice.proofs.slice.RopeSlice.char_range.Goals.{After-end_of, After-range}
use Rattle.rope_slice.proofs.slice.RopeSlice.char_range.Goals as goal

pub returns-then-start-end-clause-text : goal.returns-then-start-end-clause-text
returns-then-start-end-clause-text c = c.from_str_with.ensures.text ∙ chars-nil
    ∙ sym (slice_range_empty (text_of c.args.self.now) c.args.start c.args.end (omega arith))

pub returns-then-start-end-clause-chunks : goal.returns-then-start-end-clause-chunks
returns-then-start-end-clause-chunks c = c.from_str_with.ensures.chunks ∙ ap single_chunk chars-nil
    ∙ sym (clip_empty (chunks_of c.args.self.now) c.args.start c.args.end (omega arith))

-- of a tree's text
within : (c : After-end_of) → c.args.end ≤ length (excerpt.text_of c.in-InTree.excerpt)
within c = rw c.in-InTree.is at c.requires.within

from : (c : After-end_of) → c.start_of.result.chars ≡ c.in-InTree.excerpt.start.chars + c.args.start
from c = ap (λ x. x.chars) c.start_of.ensures

to : (c : After-end_of) → c.end_of.result.chars ≡ c.in-InTree.excerpt.start.chars + c.args.end
to c =
    let s = c.in-InTree.excerpt in
    let m = measured _ _ _ _ s.is_excerpt in
    ap (λ x. x.chars) c.end_of.ensures
    ∙ length-take-le (s.start.chars + c.args.end) (text s.node.now) (omega (arith, within c))

pub returns-after-end-start-le-MAX_BYTES-clause-text :
    goal.returns-after-end-start-le-MAX_BYTES-clause-text
returns-after-end-start-le-MAX_BYTES-clause-text c =
    let e = (goal.at.returns-after-end-start-le-MAX_BYTES-clause-text c).After-end_of in
    let s = c.in-InTree.excerpt in
    let m = measured _ _ _ _ s.is_excerpt in
    rw c.in-InTree.is
    (part_of_part (text s.node.now) s.start.chars s.end.chars c.args.start c.args.end
    c.start_of.result.chars c.end_of.result.chars (omega (arith, within e)) (from e) (to e))

pub returns-after-end-start-le-MAX_BYTES-clause-chunks :
    goal.returns-after-end-start-le-MAX_BYTES-clause-chunks
returns-after-end-start-le-MAX_BYTES-clause-chunks c =
    let e = (goal.at.returns-after-end-start-le-MAX_BYTES-clause-chunks c).After-end_of in
    let s = c.in-InTree.excerpt in
    let m = measured _ _ _ _ s.is_excerpt in
    rw c.in-InTree.is
    (clip_of_clip s.node.now.leaves s.start.chars s.end.chars c.args.start c.args.end
    c.start_of.result.chars c.end_of.result.chars (omega (arith, within e)) (from e) (to e))

-- of a plain text
part : (c : After-range) → chars c.range.result.now
    ≡ slice_range (plain.text_of c.in-Alone.plain) c.args.start c.args.end
part c =
    let text = plain.text_of c.in-Alone.plain in
    chars_front c.range_from-rest.result.now c.range.result.now (drop c.args.start text)
    (c.args.end - c.args.start) c.char_to_byte_idx-len.result c.range_from-rest.utf8
    (chars_back c.as_str-text.result.now c.range_from-rest.result.now text c.args.start
    c.char_to_byte_idx.result c.as_str-text.utf8 c.as_str-text.ensures
    c.char_to_byte_idx.ensures.value c.range_from-rest.ensures.value)
    c.char_to_byte_idx-len.ensures.value c.range.ensures.value

pub returns-in-Alone-clause-text : goal.returns-in-Alone-clause-text
returns-in-Alone-clause-text c =
    rw c.in-Alone.is (c.from_str_with-in-Alone.ensures.text
    ∙ part (goal.at.returns-in-Alone-clause-text c).After-range)

pub returns-in-Alone-clause-chunks : goal.returns-in-Alone-clause-chunks
returns-in-Alone-clause-chunks c =
    rw c.in-Alone.is (c.from_str_with-in-Alone.ensures.chunks
    ∙ ap single_chunk (part (goal.at.returns-in-Alone-clause-chunks c).After-range) ∙ search rules)

pub in_one_leaf-requires-clause-within : goal.in_one_leaf-requires-clause-within
in_one_leaf-requires-clause-within c = rw c.in-InTree.is at c.requires.within

pub returns-in-Some-clause-text : goal.returns-in-Some-clause-text
returns-in-Some-clause-text c =
    rw c.in-InTree.is (c.from_str_with-in-Some.ensures.text ∙ sym c.in-Some.ensures.text)

pub returns-in-Some-clause-chunks : goal.returns-in-Some-clause-chunks
returns-in-Some-clause-chunks c =
    rw c.in-InTree.is (c.from_str_with-in-Some.ensures.chunks ∙ sym c.in-Some.ensures.chunks)

pub returns-in-Some-clause-breaks : goal.returns-in-Some-clause-breaks
returns-in-Some-clause-breaks c =
    rw c.in-InTree.is (c.from_str_with-in-Some.ensures.breaks ∙ c.line_breaks-in-Some.ensures)

pub start_of-requires : goal.start_of-requires
start_of-requires c =
    let own : c.args.end ≤ length (excerpt.text_of c.in-InTree.excerpt) =
    rw c.in-InTree.is at c.requires.within in
    omega (arith, own, c.if-start-end.false, c.requires.ordered)

pub end_of-requires : goal.end_of-requires
end_of-requires c = rw c.in-InTree.is at c.requires.within

pub invariant_of-result : goal.invariant_of-result
invariant_of-result c =
    let s = c.in-InTree.excerpt in
    let m = measured _ _ _ _ s.is_excerpt in
    record {
      is_low = s.is_low;
      is_excerpt = record {
        some = omega (arith, from c, to c, c.if-start-end.false, c.requires.ordered);
        within = omega (arith, to c, within c, m.chars, m.within);
        start_is =
            c.start_of.ensures ∙ ap (start_info s.node.now.breaks (text s.node.now)) (sym (from c));
        end_is =
            c.end_of.ensures ∙ ap (end_info s.node.now.breaks (text s.node.now)) (sym (to c));
      };
    }

pub returns-after-end-start-le-MAX_BYTES-clause-breaks :
    goal.returns-after-end-start-le-MAX_BYTES-clause-breaks
returns-after-end-start-le-MAX_BYTES-clause-breaks c = rw c.in-InTree.is refl

pub returns-in-Alone-clause-breaks : goal.returns-in-Alone-clause-breaks
returns-in-Alone-clause-breaks c = rw c.in-Alone.is c.from_str_with-in-Alone.ensures.breaks
