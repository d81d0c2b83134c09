use Rattle.std.proofs.Common.{◌≡◌, ◌++◌, take, drop, sym, ap, ap₂, ◌∙◌, arith}
use Rattle.std.specs.Str.{chars}
use Rattle.std.proofs.lemmas.List.{append_assoc}
use Rattle.std.proofs.lemmas.Result.{IfOk-weaker}
use Rattle.rope_text.specs.Text.{byte_len}
use Rattle.rope_text.specs.Edit.{inserted}
use Rattle.rope_text.proofs.Measures.{IsMeasure-byte_len, size_parts}
use Rattle.rope_text.proofs.TextParts.{chars_front, chars_back}
use Rattle.rope_text.proofs.Walks.{byte_len-chars}
use Rattle.rope_leaf.specs.Tree.{text}
use Rattle.rope_leaf.proofs.InsertLeaves.{text_of_leaf}
use Rattle.rope_leaf.proofs.InsertTrees.{inserted_is}
use Rattle.rope_join.proofs.long_edits.insert_into_leaf.Goals.{After-range, After-range_from, In_ok-append-3}
use Rattle.rope_join.proofs.long_edits.insert_into_leaf.Goals as goal

front : (c : After-range) → chars c.range.result.now ≡ take c.args.at c.args.leaf.now
front c =
    chars_front c.as_str-text.result.now c.range.result.now c.args.leaf.now c.args.at
    c.char_to_byte_idx-place.result c.as_str-text.utf8 c.as_str-text.ensures.chars
    (c.char_to_byte_idx-place.ensures.value
    ∙ ap (λ s. byte_len (take c.args.at s)) (sym c.as_str-text.ensures.chars)) c.range.ensures.value

back : (c : After-range_from) → chars c.range_from.result.now ≡ drop c.args.at c.args.leaf.now
back c = chars_back c.as_str-text.result.now c.range_from.result.now c.args.leaf.now c.args.at
    c.char_to_byte_idx-place.result c.as_str-text.utf8 c.as_str-text.ensures.chars
    (c.char_to_byte_idx-place.ensures.value
    ∙ ap (λ s. byte_len (take c.args.at s)) (sym c.as_str-text.ensures.chars))
    c.range_from.ensures.value

leaf_text : (c : After-range) → text c.args.node.now ≡ c.args.leaf.now
leaf_text c = text_of_leaf c.args.node.now.breaks c.args.node.now c.args.leaf.now c.requires.leaf

pub append-requires-2 : goal.append-requires-2
append-requires-2 c =
    let e = (goal.at.append-requires-2 c).After-range in
    omega (
      arith,
      c.requires.fits,
      ap byte_len (c.in_ok-append.ensures.ok
          ∙ ap (λ z. z ++ chars c.range.result.now) c.new-builder.ensures.text ∙ front e),
      ap byte_len (leaf_text e),
      size_parts byte_len IsMeasure-byte_len c.args.leaf.now c.args.at,
    )

pub append-requires-3 : goal.append-requires-3
append-requires-3 c =
    let e = (goal.at.append-requires-3 c).After-range in
    let f = (goal.at.append-requires-3 c).After-range_from in
    omega (
      arith,
      c.requires.fits,
      ap byte_len (c.in_ok-append.ensures.ok
          ∙ ap (λ z. z ++ chars c.range.result.now) c.new-builder.ensures.text ∙ front e),
      ap byte_len c.in_ok-append-2.ensures.ok,
      IsMeasure-byte_len.joined c.append.new.self.text (chars c.args.added.now),
      byte_len-chars c.args.added.now c.utf8.added,
      byte_len-chars c.range_from.result.now c.range_from.utf8,
      ap byte_len (back f),
      ap byte_len (leaf_text e),
      size_parts byte_len IsMeasure-byte_len c.args.leaf.now c.args.at,
    )

-- the text that is built
built : (c : In_ok-append-3) → c.append-3.new.self.text ≡ take c.args.at c.args.leaf.now
    ++ (chars c.args.added.now ++ drop c.args.at c.args.leaf.now)
built c =
    let e = (goal.at.In_ok-append-3 c).After-range in
    let f = (goal.at.In_ok-append-3 c).After-range_from in
    let first = c.in_ok-append.ensures.ok
    ∙ ap (λ z. z ++ chars c.range.result.now) c.new-builder.ensures.text ∙ front e in
    let second = c.in_ok-append-2.ensures.ok ∙ ap (λ z. z ++ chars c.args.added.now) first in
    c.in_ok-append-3.ensures.ok ∙ ap₂ (λ y z. y ++ z) second (back f)
    ∙ append_assoc (take c.args.at c.args.leaf.now) (chars c.args.added.now)
    (drop c.args.at c.args.leaf.now)

pub returns-clause-text : goal.returns-clause-text
returns-clause-text c =
    let e = (goal.at.returns-clause-text c).After-range in
    let b = (goal.at.returns-clause-text c).In_ok-append-3 in
    IfOk-weaker c.finish.result _ _ (λ node is. is ∙ built b
    ∙ sym (inserted_is c.args.leaf.now c.args.at (chars c.args.added.now))
    ∙ ap (λ z. inserted z c.args.at (chars c.args.added.now)) (sym (leaf_text e)))
    c.finish.ensures.text

-- two nodes for each leaf: those that the new text fills, and at most three more
pub returns-clause-made : goal.returns-clause-made
returns-clause-made c =
    let b = (goal.at.returns-clause-made c).In_ok-append-3 in
    let added = chars c.args.added.now in
    let following = drop c.args.at c.args.leaf.now in
    omega (
      arith,
      c.finish.ensures.made,
      ap byte_len (built b),
      IsMeasure-byte_len.joined (take c.args.at c.args.leaf.now) (added ++ following),
      IsMeasure-byte_len.joined added following,
      byte_len-chars c.args.added.now c.utf8.added,
      size_parts byte_len IsMeasure-byte_len c.args.leaf.now c.args.at,
      c.as_str-text.ensures.fits,
    )
