use Rattle.std.proofs.Common.{◌≡◌, ◌+◌, ◌-◌, ap, get_or, sym, ◌∙◌, arith, Some, take, drop, length-drop, slice_get, subst}
use Rattle.std.specs.Str.{chars, IsCharBoundary}
use Rattle.rope_text.specs.Text.{byte_len}
use Rattle.std.proofs.lemmas.Option.{get_or_from_slice_get}
use Rattle.std.proofs.lemmas.List.{get_or-drop}
use Rattle.rope_text.proofs.TextParts.{chars_back}
use Rattle.rope_tree.proofs.FoundLaws.{found_char}
use Rattle.rope_tree.proofs.lookup.char_at.Goals.{After-range_from}
use Rattle.rope_tree.proofs.lookup.char_at.Goals as goal

rest : (c : After-range_from) → chars c.range_from.result.now
    ≡ drop (c.args.char_idx - c.leaf_at-found.result.before.chars) c.leaf_at-found.result.leaf
rest c = chars_back c.as_str-leaf.result.now c.range_from.result.now c.leaf_at-found.result.leaf
    (c.args.char_idx - c.leaf_at-found.result.before.chars) c.char_to_byte_idx-at.result
    c.as_str-leaf.utf8 c.as_str-leaf.ensures.chars (c.char_to_byte_idx-at.ensures.value
    ∙ ap (λ s. byte_len (take (c.args.char_idx - c.leaf_at-found.result.before.chars) s))
    (sym c.as_str-leaf.ensures.chars)) c.range_from.ensures.value

pub first_char-requires : goal.first_char-requires
first_char-requires c =
    let f = found_char c.args.char_idx c.args.node.now c.leaf_at-found.result.leaf
    c.leaf_at-found.result.before c.leaf_at-found.ensures.found in
    rw (rest c) (omega (
      arith,
      length-drop (c.args.char_idx - c.leaf_at-found.result.before.chars)
          c.leaf_at-found.result.leaf,
      f.0,
    ))

pub returns-clause-value : goal.returns-clause-value
returns-clause-value c =
    let k = c.args.char_idx - c.leaf_at-found.result.before.chars in
    let leaf = c.leaf_at-found.result.leaf in
    let f = found_char c.args.char_idx c.args.node.now leaf c.leaf_at-found.result.before
    c.leaf_at-found.ensures.found in
    let first : slice_get (drop k leaf) 0 ≡ Some c.first_char.result =
    subst (λ cs. slice_get cs 0 ≡ Some c.first_char.result)
    (rest (goal.at.returns-clause-value c).After-range_from) c.first_char.ensures in
    let same : get_or leaf k 0 ≡ c.first_char.result =
    (let e : k ≡ k + 0 = omega arith in ap (λ n. get_or leaf n 0) e) ∙ sym (get_or-drop k leaf 0 0)
    ∙ get_or_from_slice_get (drop k leaf) 0 c.first_char.result 0 first in
    f.1 ∙ ap (λ x. Some x) same

pub range_from-requires : goal.range_from-requires
range_from-requires c =
    λ some. subst (λ bs. IsCharBoundary bs c.char_to_byte_idx-at.result)
    (sym c.as_str-leaf.ensures.bytes) c.char_to_byte_idx-at.ensures.boundary
