use Rattle.std.proofs.Common.{◌≡◌, ◌++◌, ap, ap₂, sym, subst, take, drop, length, ◌∙◌, take-append-drop, arith}
use Rattle.std.specs.Str.{chars, IsCharBoundary}
use Rattle.rope_text.specs.Text.{byte_len}
use Rattle.rope_text.specs.TextInfo.{info_of}
use Rattle.rope_text.proofs.TextParts.{chars_front, chars_back, byte_len_boundary}
use Rattle.rope_text.proofs.AsciiTexts.{ascii_front}
use Rattle.rope_text.specs.Edit.{inserted}
use Rattle.rope_leaf.proofs.InsertTrees.{inserted_is}
use Rattle.rope_leaf.proofs.NodeTexts.{inserted_chars}
use Rattle.rope_leaf.proofs.leaf_edits.put_in.Goals.{After-range_from, Joined-info, then-info, else-info}
use Rattle.rope_leaf.proofs.leaf_edits.put_in.Goals as goal

-- in a text with as many bytes as characters, the byte index is the character index
place_is : (c : Joined-info) → c.if-info.place
    ≡ byte_len (take c.args.at (chars c.as_str-text.result.now))
place_is c = elim c.if-info.branch [
  | then-info w ↦
      let cs = chars c.as_str-text.result.now in
      let ascii : byte_len cs ≡ length cs =
      omega (
        arith,
        w.if-info.true,
        ap (λ i. i.bytes) c.requires.info,
        ap (λ i. i.chars) c.requires.info,
        ap length c.as_str-text.ensures.chars,
        ap byte_len c.as_str-text.ensures.chars,
      ) in
      omega (
        arith,
        w.place-is,
        c.requires.within,
        ap length c.as_str-text.ensures.chars,
        ascii_front cs ascii c.args.at,
      )
  | else-info w ↦ w.place-is ∙ w.char_to_byte_idx_of-place.ensures.value
]

boundary : (c : Joined-info) → IsCharBoundary c.as_str-text.result.now c.if-info.place
boundary c =
    subst (IsCharBoundary c.as_str-text.result.now) (sym (place_is c))
    (byte_len_boundary c.as_str-text.result.now c.args.at c.as_str-text.utf8)

pub range-requires-clause-end_boundary : goal.range-requires-clause-end_boundary
range-requires-clause-end_boundary c =
    boundary (goal.at.range-requires-clause-end_boundary c).Joined-info

pub range_from-requires : goal.range_from-requires
range_from-requires c = λ _. boundary (goal.at.range_from-requires c).Joined-info

pub insert_bytes-requires-clause-boundary : goal.insert_bytes-requires-clause-boundary
insert_bytes-requires-clause-boundary c =
    subst (λ bs. IsCharBoundary bs c.if-info.place) c.as_str-text.ensures.bytes
    (boundary (goal.at.insert_bytes-requires-clause-boundary c).Joined-info)

front : (c : After-range_from) → c.if-info.place
    ≡ byte_len (take c.args.at (chars c.as_str-text.result.now))
    → chars c.range.result.now ≡ take c.args.at c.args.leaf.now
front c place =
    chars_front c.as_str-text.result.now _ _ c.args.at _ c.as_str-text.utf8
    c.as_str-text.ensures.chars place c.range.ensures.value

back : (c : After-range_from) → c.if-info.place
    ≡ byte_len (take c.args.at (chars c.as_str-text.result.now))
    → chars c.range_from.result.now ≡ drop c.args.at c.args.leaf.now
back c place =
    chars_back c.as_str-text.result.now _ _ c.args.at _ c.as_str-text.utf8
    c.as_str-text.ensures.chars place c.range_from.ensures.value

pub info_between-info-requires-clause-info : goal.info_between-info-requires-clause-info
info_between-info-requires-clause-info c =
    let e = (goal.at.info_between-info-requires-clause-info c).After-range_from in
    let place = place_is (goal.at.info_between-info-requires-clause-info c).Joined-info in
    c.requires.info ∙ ap (info_of c.args.breaks)
    (sym (ap₂ (λ x y. x ++ y) (front e place) (back e place)
    ∙ take-append-drop c.args.at c.args.leaf.now))

pub returns-clause-info : goal.returns-clause-info
returns-clause-info c =
    let e = (goal.at.returns-clause-info c).After-range_from in
    let place = place_is (goal.at.returns-clause-info c).Joined-info in
    let s = c.args.added.now in
    c.info_between-info.ensures
    ∙ ap (info_of c.args.breaks)
    (ap₂ (λ x y. x ++ (chars c.as_str-added.result.now ++ y)) (front e place) (back e place)
    ∙ ap (λ x. take c.args.at c.args.leaf.now ++ (x ++ drop c.args.at c.args.leaf.now))
    c.as_str-added.ensures.chars ∙ sym (inserted_is c.args.leaf.now c.args.at s))

pub returns-clause-text : goal.returns-clause-text
returns-clause-text c =
    c.insert_bytes.ensures.value
    ∙ inserted_chars c.as_str-text.result.now c.args.leaf.now _ c.as_str-added.result.now c.args.at
    c.if-info.place c.as_str-text.utf8 c.as_str-added.utf8 c.as_str-text.ensures.chars
    c.as_str-text.ensures.bytes (place_is (goal.at.returns-clause-text c).Joined-info)
    ∙ ap (inserted c.args.leaf.now c.args.at) c.as_str-added.ensures.chars

pub returns-clause-fits : goal.returns-clause-fits
returns-clause-fits c =
    omega (
      arith,
      c.insert_bytes.ensures.len,
      ap length c.as_str-added.ensures.bytes,
      c.requires.fits,
    )
