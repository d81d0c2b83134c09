use Rattle.std.proofs.Common.{◌≡◌, ℕ, ◌+◌, ◌-◌, ◌<◌, ◌≤◌, ◌++◌, List, length, take, drop, refl, sym, ap, ap₂, subst, ◌∙◌, arith}
use Rattle.std.specs.List.{remove_range}
use Rattle.std.specs.Str.{chars, IsUtf8, IsCharBoundary}
use Rattle.std.proofs.lemmas.List.{take-append-drop, drop-drop, length-append, length-drop}
use Rattle.std.proofs.lemmas.Str.{chars-append, IsUtf8-take}
use Rattle.rope_text.specs.Text.{byte_len}
use Rattle.rope_text.specs.TextInfo.{info_of}
use Rattle.rope_text.specs.Edit.{removed}
use Rattle.rope_leaf.specs.Removal.{KeepsEnds}
use Rattle.rope_text.proofs.Measures.{size_le, IsMeasure-byte_len}
use Rattle.rope_text.proofs.Apart.{some_char}
use Rattle.rope_leaf.proofs.RemovalEnds.{ends_kept}
use Rattle.rope_text.proofs.TextParts.{chars_front, chars_back}
use Rattle.rope_text.proofs.Walks.{byte_len-chars}
use Rattle.rope_leaf.proofs.leaf_edits.take_out.Goals.{After-as_str-text, After-range_from-back, After-shared_breaks-meeting, After-remove_bytes}
use Rattle.rope_leaf.proofs.Infos.{small_info}
use Rattle.rope_leaf.proofs.CountLaws.{Uncounts, uncounts, shared_le}
use Rattle.rope_leaf.proofs.RemovalLaws.{byte_len-removed}
use Rattle.rope_leaf.proofs.leaf_edits.take_out.Goals as goal

-- the three slices of a text, split at the bytes of two characters
record IsParted (cs front part back : List ℕ) (start end : ℕ) : Type 0 where
  front_is : chars front ≡ take start cs
  back_is : chars back ≡ drop end cs
  whole : chars front ++ (chars part ++ chars back) ≡ cs
  some : 1 ≤ length (chars part)

split_is : (bs cs front part back : List ℕ) (start end from to : ℕ) → IsUtf8 bs → IsUtf8 part
    → chars bs ≡ cs → from ≡ byte_len (take start cs) → to ≡ byte_len (take end cs) → start < end
    → end ≤ length cs
    → front ≡ take (from - 0) bs → part ≡ take (to - from) (drop from bs) → back ≡ drop to bs
    → IsParted cs front part back start end
split_is bs cs front part back start end from to u v same from_is to_is order within front_cut
    part_cut back_cut =
    let first : from ≡ byte_len (take start (chars bs)) = from_is
    ∙ ap (λ l. byte_len (take start l)) (sym same) in
    let last : to ≡ byte_len (take end (chars bs)) = to_is
    ∙ ap (λ l. byte_len (take end l)) (sym same) in
    let le : from ≤ to =
    omega (
      arith,
      first,
      last,
      size_le byte_len IsMeasure-byte_len (chars bs) start end
          (omega arith),
    ) in
    let f : chars front ≡ take start cs =
    chars_front bs front cs start from u same first front_cut in
    let b : chars back ≡ drop end cs = chars_back bs back cs end to u same last back_cut in
    let rest : chars (drop from bs) ≡ drop start cs =
    chars_back bs (drop from bs) cs start from u same first refl in
    let sum : from + (to - from) ≡ to = omega arith in
    let following : drop (to - from) (drop from bs) ≡ back = drop-drop (to - from) from bs
    ∙ ap (λ n. drop n bs) sum ∙ sym back_cut in
    let both : chars part ++ chars back ≡ drop start cs =
    sym (chars-append part back v)
    ∙ ap chars (ap₂ (λ x y. x ++ y) part_cut (sym following)
    ∙ take-append-drop (to - from) (drop from bs)) ∙ rest in
    record {
      front_is = f;
      back_is = b;
      whole = ap₂ (λ x y. x ++ y) f both ∙ take-append-drop start cs;
      some = omega (
        arith,
        ap length both,
        length-append (chars part) (chars back),
        ap length b,
        length-drop start cs,
        length-drop end cs,
      );
    }

-- the byte offsets, by the characters of the bytes
from_place : (c : After-as_str-text) → c.byte_range-from.result.0
    ≡ byte_len (take c.args.start (chars c.as_str-text.result.now))
from_place c = c.byte_range-from.ensures.from
    ∙ ap (λ l. byte_len (take c.args.start l)) (sym c.as_str-text.ensures.chars)

to_place : (c : After-as_str-text) → c.byte_range-from.result.1
    ≡ byte_len (take c.args.end (chars c.as_str-text.result.now))
to_place c = c.byte_range-from.ensures.to
    ∙ ap (λ l. byte_len (take c.args.end l)) (sym c.as_str-text.ensures.chars)

from_boundary : (c : After-as_str-text)
    → IsCharBoundary c.as_str-text.result.now c.byte_range-from.result.0
from_boundary c =
    subst (λ bs. IsCharBoundary bs c.byte_range-from.result.0) (sym c.as_str-text.ensures.bytes)
    c.byte_range-from.ensures.from_boundary

to_boundary : (c : After-as_str-text)
    → IsCharBoundary c.as_str-text.result.now c.byte_range-from.result.1
to_boundary c =
    subst (λ bs. IsCharBoundary bs c.byte_range-from.result.1) (sym c.as_str-text.ensures.bytes)
    c.byte_range-from.ensures.to_boundary

parts : (c : After-range_from-back)
    → IsParted c.args.leaf.now c.range-front.result.now c.range-part.result.now
    c.range_from-back.result.now c.args.start c.args.end
parts c =
    split_is c.as_str-text.result.now c.args.leaf.now c.range-front.result.now
    c.range-part.result.now c.range_from-back.result.now c.args.start c.args.end
    c.byte_range-from.result.0 c.byte_range-from.result.1
    c.as_str-text.utf8 c.range-part.utf8 c.as_str-text.ensures.chars c.byte_range-from.ensures.from
    c.byte_range-from.ensures.to c.requires.ordered c.requires.within
    c.range-front.ensures.value c.range-part.ensures.value c.range_from-back.ensures.value

pub range-front-requires-clause-end_boundary : goal.range-front-requires-clause-end_boundary
range-front-requires-clause-end_boundary c =
    from_boundary (goal.at.range-front-requires-clause-end_boundary c).After-as_str-text

pub range-part-requires-clause-start_boundary : goal.range-part-requires-clause-start_boundary
range-part-requires-clause-start_boundary c =
    λ _. from_boundary (goal.at.range-part-requires-clause-start_boundary c).After-as_str-text

pub range-part-requires-clause-end_boundary : goal.range-part-requires-clause-end_boundary
range-part-requires-clause-end_boundary c =
    to_boundary (goal.at.range-part-requires-clause-end_boundary c).After-as_str-text

pub range_from-back-requires : goal.range_from-back-requires
range_from-back-requires c = λ _. to_boundary (goal.at.range_from-back-requires c).After-as_str-text

-- the counts of the leaf less those of the removed slice
less : (c : After-shared_breaks-meeting)
    → IsParted c.args.leaf.now c.range-front.result.now c.range-part.result.now
    c.range_from-back.result.now c.args.start c.args.end
    → Uncounts c.args.breaks (chars c.range-front.result.now) (chars c.range_from-back.result.now)
    c.args.info c.of_short-less.result (c.shared_breaks.result + c.shared_breaks-2.result)
    c.shared_breaks-meeting.result
less c p =
    uncounts c.args.breaks (chars c.range-front.result.now) (chars c.range-part.result.now)
    (chars c.range_from-back.result.now) c.args.info c.of_short-less.result c.shared_breaks.result
    c.shared_breaks-2.result c.shared_breaks-meeting.result
    p.some (c.requires.info ∙ ap (info_of c.args.breaks) (sym p.whole)) c.of_short-less.ensures
    c.shared_breaks.ensures c.shared_breaks-2.ensures c.shared_breaks-meeting.ensures

pub overflow_add-met : goal.overflow_add-met
overflow_add-met c =
    let front = chars c.range-front.result.now in
    let part = chars c.range-part.result.now in
    let back = chars c.range_from-back.result.now in
    let one = shared_le c.args.breaks front part in
    let two = shared_le c.args.breaks part back in
    omega (arith, one, two, c.shared_breaks.ensures, c.shared_breaks-2.ensures)

pub overflow_sub-left : goal.overflow_sub-left
overflow_sub-left c =
    (less (goal.at.overflow_sub-left c).After-shared_breaks-meeting
    (parts (goal.at.overflow_sub-left c).After-range_from-back)).bytes_le

pub overflow_sub-left-2 : goal.overflow_sub-left-2
overflow_sub-left-2 c =
    (less (goal.at.overflow_sub-left-2 c).After-shared_breaks-meeting
    (parts (goal.at.overflow_sub-left-2 c).After-range_from-back)).chars_le

pub overflow_sub-left-3 : goal.overflow_sub-left-3
overflow_sub-left-3 c =
    (less (goal.at.overflow_sub-left-3 c).After-shared_breaks-meeting
    (parts (goal.at.overflow_sub-left-3 c).After-range_from-back)).pairs_le

pub overflow_add-left : goal.overflow_add-left
overflow_add-left c =
    let small =
    small_info c.args.breaks c.args.leaf.now (omega (arith, c.as_str-text.ensures.fits)) in
    omega (
      arith,
      small.breaks,
      small.chars,
      ap (λ i. i.bytes) c.requires.info,
      ap (λ i. i.break_count) c.requires.info,
      c.as_str-text.ensures.fits,
      (less (goal.at.overflow_add-left c).After-shared_breaks-meeting
          (parts (goal.at.overflow_add-left c).After-range_from-back)).met_le,
    )

pub overflow_sub-left-4 : goal.overflow_sub-left-4
overflow_sub-left-4 c =
    (less (goal.at.overflow_sub-left-4 c).After-shared_breaks-meeting
    (parts (goal.at.overflow_sub-left-4 c).After-range_from-back)).breaks_le

pub overflow_sub-left-5 : goal.overflow_sub-left-5
overflow_sub-left-5 c =
    (less (goal.at.overflow_sub-left-5 c).After-shared_breaks-meeting
    (parts (goal.at.overflow_sub-left-5 c).After-range_from-back)).meeting_le

-- the rest is the text without the characters
left_text : (c : After-remove_bytes) → c.remove_bytes.new.self
    ≡ removed c.args.leaf.now c.args.start c.args.end
left_text c =
    let e = (goal.at.After-remove_bytes c).After-as_str-text in
    let bs = c.as_str-text.result.now in
    let range = c.byte_range-from.result in
    let u = c.as_str-text.utf8 in
    let front =
    chars_front bs (take range.0 bs) c.args.leaf.now c.args.start range.0 u
    c.as_str-text.ensures.chars (from_place e) (ap (λ n. take n bs) (omega arith)) in
    let back =
    chars_back bs (drop range.1 bs) c.args.leaf.now c.args.end range.1 u c.as_str-text.ensures.chars
    (to_place e) refl in
    c.remove_bytes.ensures.value
    ∙ ap (λ l. chars (remove_range l range.0 range.1)) (sym c.as_str-text.ensures.bytes)
    ∙ chars-append (take range.0 bs) (drop range.1 bs) (IsUtf8-take bs range.0 u (from_boundary e))
    ∙ ap₂ (λ x y. x ++ y) front back

pub returns-clause-text : goal.returns-clause-text
returns-clause-text c = left_text (goal.at.returns-clause-text c).After-remove_bytes

pub returns-clause-fits : goal.returns-clause-fits
returns-clause-fits c =
    omega (
      arith,
      ap byte_len (left_text (goal.at.returns-clause-fits c).After-remove_bytes),
      byte_len-removed c.args.leaf.now c.args.start c.args.end (omega (arith, c.requires.ordered)),
      c.as_str-text.ensures.fits,
    )

pub returns-clause-scalars : goal.returns-clause-scalars
returns-clause-scalars c = c.remove_bytes.ensures.scalars

pub returns-clause-info : goal.returns-clause-info
returns-clause-info c =
    let p = parts (goal.at.returns-clause-info c).After-range_from-back in
    (less (goal.at.returns-clause-info c).After-shared_breaks-meeting p).whole
    ∙ ap (info_of c.args.breaks) (ap₂ (λ x y. x ++ y) p.front_is p.back_is)

-- the bytes of the rest
kept_bytes : (c : After-range_from-back)
    → byte_len (removed c.args.leaf.now c.args.start c.args.end)
    ≡ length c.range-front.result.now + length c.range_from-back.result.now
kept_bytes c =
    let p = parts c in
    let front = byte_len-chars c.range-front.result.now c.range-front.utf8 in
    let back = byte_len-chars c.range_from-back.result.now c.range_from-back.utf8 in
    omega (
      arith,
      front,
      back,
      ap byte_len p.front_is,
      ap byte_len p.back_is,
      IsMeasure-byte_len.joined (take c.args.start c.args.leaf.now)
          (drop c.args.end c.args.leaf.now),
    )

pub returns-then-front-back-clause-when : goal.returns-then-front-back-clause-when
returns-then-front-back-clause-when c = λ s.
    let kept = kept_bytes (goal.at.returns-then-front-back-clause-when c).After-range_from-back in
    absurd (omega (arith, kept, s.some, s.enough, c.if-front-back.true, c.max.ensures))

pub returns-then-not-keeps_ends-clause-when : goal.returns-then-not-keeps_ends-clause-when
returns-then-not-keeps_ends-clause-when c = λ s.
    let p = parts (goal.at.returns-then-not-keeps_ends-clause-when c).After-range_from-back in
    let yes =
    c.keeps_ends.ensures.when (rw (p.front_is, p.back_is) s.first)
    (rw (p.front_is, p.back_is) s.last) in
    absurd (cc)

-- no CR or LF becomes an end of the leaf
kept_ends : (c : After-remove_bytes)
    → KeepsEnds (chars c.range-front.result.now
    ++ (chars c.range-part.result.now ++ chars c.range_from-back.result.now))
    (chars c.range-front.result.now ++ chars c.range_from-back.result.now)
kept_ends c =
    let e = (goal.at.After-remove_bytes c).After-range_from-back in
    let p = parts e in
    let front = chars c.range-front.result.now in
    let back = chars c.range_from-back.result.now in
    let yes = c.if-not-keeps_ends.false in
    let bytes = kept_bytes e in
    let some = some_char (removed c.args.leaf.now c.args.start c.args.end)
    (omega (arith, bytes, c.if-front-back.false, c.max.ensures)) in
    let both : front ++ back ≡ removed c.args.leaf.now c.args.start c.args.end =
    ap₂ (λ x y. x ++ y) p.front_is p.back_is in
    ends_kept front (chars c.range-part.result.now) back (omega (arith, ap length both, some))
    (c.keeps_ends.ensures.first yes) (c.keeps_ends.ensures.last yes)

pub returns-clause-ends : goal.returns-clause-ends
returns-clause-ends c =
    let p = parts (goal.at.returns-clause-ends c).After-range_from-back in
    subst (λ x. KeepsEnds x (removed c.args.leaf.now c.args.start c.args.end)) p.whole
    (subst (KeepsEnds (chars c.range-front.result.now
    ++ (chars c.range-part.result.now ++ chars c.range_from-back.result.now)))
    (ap₂ (λ x y. x ++ y) p.front_is p.back_is)
    (kept_ends (goal.at.returns-clause-ends c).After-remove_bytes))

pub returns-clause-least : goal.returns-clause-least
returns-clause-least c =
    omega (arith, kept_bytes (goal.at.returns-clause-least c).After-range_from-back)
