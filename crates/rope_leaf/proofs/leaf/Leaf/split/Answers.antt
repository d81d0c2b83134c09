use Rattle.std.proofs.Common.{◌≡◌, ◌≤◌, [], length, take, drop, refl, sym, ap, ap₂, ◌∙◌, arith}
use Rattle.std.proofs.lemmas.List.{length-take-le}
use Rattle.std.proofs.lemmas.Str.{scalars-chars}
use Rattle.std.specs.Str.{chars}
use Rattle.rope_text.specs.Text.{byte_len}
use Rattle.rope_text.specs.TextInfo.{info_of}
use Rattle.rope_text.proofs.Walks.{byte_len-chars}
use Rattle.rope_leaf.specs.Tree.{text, leaf_tree}
use Rattle.rope_leaf.specs.LeafTree.{IsLeafNode}
use Rattle.rope_leaf.proofs.GrownLaws.{leaf_is_tree}
use Rattle.rope_leaf.proofs.InsertLeaves.{text_of_leaf}
use Rattle.rope_leaf.proofs.PartTexts.{AreCut, are_cut}
use Rattle.rope_leaf.proofs.leaf.Leaf.split.Goals.{After-range_from-back, After-infos_of_parts}
use Rattle.rope_leaf.proofs.leaf.Leaf.split.Goals as goal

module _ (c : After-range_from-back) where
  leaf_is : c.known_text-leaf.result ≡ text c.args.self.now
  leaf_is =
      sym (text_of_leaf c.args.self.now.breaks c.args.self.now c.known_text-leaf.result
      c.known_text-leaf.ensures.is)

  cut : AreCut c.as_str-text.result.now c.range-front.result.now c.range_from-back.result.now
      c.known_text-leaf.result c.args.at
  cut =
      are_cut c.as_str-text.result.now c.range-front.result.now c.range_from-back.result.now
      c.known_text-leaf.result c.args.at c.char_to_byte_idx-place.result c.as_str-text.utf8
      c.as_str-text.ensures.chars c.char_to_byte_idx-place.ensures.value
      c.range-front.ensures.value c.range_from-back.ensures.value c.requires.some
      (rw leaf_is c.requires.within)

  front_is : chars c.range-front.result.now ≡ take c.args.at (text c.args.self.now)
  front_is = cut.front ∙ ap (take c.args.at) leaf_is

  back_is : chars c.range_from-back.result.now ≡ drop c.args.at (text c.args.self.now)
  back_is = cut.back ∙ ap (drop c.args.at) leaf_is

  front_bytes : byte_len (take c.args.at (text c.args.self.now)) ≡ length c.range-front.result.now
  front_bytes = sym (ap byte_len front_is)
      ∙ byte_len-chars c.range-front.result.now c.range-front.utf8

  back_bytes : byte_len (drop c.args.at (text c.args.self.now))
      ≡ length c.range_from-back.result.now
  back_bytes = sym (ap byte_len back_is)
      ∙ byte_len-chars c.range_from-back.result.now c.range_from-back.utf8

  fits : length c.as_str-text.result.now ≤ 984
  fits =
      omega (
        arith,
        byte_len-chars c.as_str-text.result.now c.as_str-text.utf8,
        ap byte_len c.as_str-text.ensures.chars,
        c.known_text-leaf.ensures.fits,
      )

  front_leaf : IsLeafNode (leaf_tree c.args.self.now.breaks (take c.args.at (text c.args.self.now)))
  front_leaf = rw (sym front_is) (record {
    flat = refl;
    tree = leaf_is_tree c.args.self.now.breaks [] (chars c.range-front.result.now)
        (omega (
          arith,
          byte_len-chars c.range-front.result.now c.range-front.utf8,
          ap length c.range-front.ensures.value,
          length-take-le c.char_to_byte_idx-place.result c.as_str-text.result.now
              (omega (arith, c.range-front.ensures.len)),
          fits,
        ))
        (scalars-chars c.range-front.result.now c.range-front.utf8);
  })

at_is : (c : After-infos_of_parts) → c.infos_of_parts.result.0.chars ≡ c.args.at
at_is c =
    let k = (goal.at.After-infos_of_parts c).After-range_from-back in
    ap (λ i. i.chars) c.infos_of_parts.ensures.front ∙ ap length (front_is k)
    ∙ length-take-le c.args.at (text c.args.self.now) (omega (arith, c.requires.within))

pub infos_of_parts-requires-clause-info : goal.infos_of_parts-requires-clause-info
infos_of_parts-requires-clause-info c =
    let k = (goal.at.infos_of_parts-requires-clause-info c).After-range_from-back in
    c.info-info.ensures ∙ ap₂ info_of (sym c.line_breaks-breaks.ensures)
    (sym (leaf_is k) ∙ sym (cut k).whole)

pub keep-requires-clause-len : goal.keep-requires-clause-len
keep-requires-clause-len c =
    let k = (goal.at.keep-requires-clause-len c).After-range_from-back in
    let e = at_is (goal.at.keep-requires-clause-len c).After-infos_of_parts in
    c.char_to_byte_idx-place.ensures.value
    ∙ ap₂ (λ n t. byte_len (take n t)) (sym e) (leaf_is k)

pub keep-requires-clause-info : goal.keep-requires-clause-info
keep-requires-clause-info c =
    let k = (goal.at.keep-requires-clause-info c).After-range_from-back in
    let e = at_is (goal.at.keep-requires-clause-info c).After-infos_of_parts in
    c.infos_of_parts.ensures.front ∙ ap₂ info_of c.line_breaks-breaks.ensures
    (front_is k ∙ ap (λ n. take n (text c.args.self.now)) (sym e))

pub returns-clause-front : goal.returns-clause-front
returns-clause-front c =
    let e = at_is (goal.at.returns-clause-front c).After-infos_of_parts in
    c.keep.ensures ∙ ap (λ n. leaf_tree c.args.self.now.breaks (take n (text c.args.self.now))) e

pub returns-clause-back : goal.returns-clause-back
returns-clause-back c =
    let k = (goal.at.returns-clause-back c).After-range_from-back in
    c.in_ok-following.ensures ∙ ap₂ leaf_tree c.line_breaks-breaks.ensures (back_is k)

pub returns-clause-leaf : goal.returns-clause-leaf
returns-clause-leaf c =
    rw c.in_ok-following.ensures (record {
      flat = refl;
      tree = leaf_is_tree c.line_breaks-breaks.result [] (chars c.range_from-back.result.now)
          (omega (
            arith,
            byte_len-chars c.range_from-back.result.now c.range_from-back.utf8,
            c.range_from-back.ensures.len,
            fits (goal.at.returns-clause-leaf c).After-range_from-back,
          ))
          (scalars-chars c.range_from-back.result.now c.range_from-back.utf8);
    })

pub returns-clause-own_leaf : goal.returns-clause-own_leaf
returns-clause-own_leaf c =
    let e = at_is (goal.at.returns-clause-own_leaf c).After-infos_of_parts in
    rw (c.keep.ensures, e) (front_leaf (goal.at.returns-clause-own_leaf c).After-range_from-back)

pub returns-clause-long_back : goal.returns-clause-long_back
returns-clause-long_back c =
    let k = (goal.at.returns-clause-long_back c).After-range_from-back in
    omega (
      arith,
      back_bytes k,
      c.saturating_add-else-saturating_add-lt-MIN_TWO_LEAVES_BYTES.ensures,
      c.if-saturating_add-lt-MIN_TWO_LEAVES_BYTES-2.false,
    )
