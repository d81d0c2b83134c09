use Rattle.std.proofs.Common.{refl, ◌≡◌, ◌≤◌, ◌+◌, ◌-◌, ◌∙◌, length, take, drop, sym, ap, arith}
use Rattle.std.specs.Str.{chars}
use Rattle.std.proofs.lemmas.List.{length-drop}
use Rattle.rope_text.specs.Cutting.{single_chunk}
use Rattle.rope_text.specs.Text.{byte_len}
use Rattle.rope_text.proofs.TextParts.{chars_front, chars_back}
use Rattle.rope_leaf.specs.Tree.{text}
use Rattle.rope_leaf.specs.declared.search.Unit.TheVariants.{Char}
use Rattle.rope_tree.proofs.FoundLaws.{found_char}
use Rattle.rope_slice.specs.Excerpt.{text_of, chunks_of}
use Rattle.rope_slice.specs.InChunk.{IsInChunk}
use Rattle.rope_slice.proofs.InChunks.{in_found, in_clip}
use Rattle.rope_slice.proofs.Measured.{measured}
use Rattle.rope_slice.proofs.excerpt.Excerpt.in_one_leaf.Goals.{After-leaf_at-found, After-range}
use Rattle.rope_slice.proofs.excerpt.Excerpt.in_one_leaf.Goals as goal

pub overflow_sub-found : goal.overflow_sub-found
overflow_sub-found c =
    let f = c.leaf_at-found.ensures.found in
    let within =
    (found_char c.place-place.result c.args.self.now.node.now c.leaf_at-found.result.leaf
    c.leaf_at-found.result.before f).0 in
    omega (arith, within, ap (λ x. x.chars) c.leaf_at-found.ensures.inside)

-- the rest of the leaf from the first character on, and the number of characters requested
held_is : (c : After-range) → chars c.range_from-held.result.now
    ≡ drop (c.place-place.result - c.leaf_at-found.result.before.chars) c.leaf_at-found.result.leaf
held_is c =
    chars_back c.as_str.result.now c.range_from-held.result.now c.leaf_at-found.result.leaf
    (c.place-place.result - c.leaf_at-found.result.before.chars) c.char_to_byte_idx.result
    c.as_str.utf8 c.as_str.ensures.chars
    (c.char_to_byte_idx.ensures.value
    ∙ ap (λ s. byte_len (take (c.place-place.result - c.leaf_at-found.result.before.chars) s))
    (sym c.as_str.ensures.chars)) c.range_from-held.ensures.value

part_is : (c : After-range) → chars c.range.result.now
    ≡ take (c.args.end - c.args.start) (chars c.range_from-held.result.now)
part_is c =
    chars_front c.range_from-held.result.now c.range.result.now (chars c.range_from-held.result.now)
    (c.args.end - c.args.start) c.char_to_byte_idx-2.result c.range_from-held.utf8 refl
    c.char_to_byte_idx-2.ensures.value c.range.ensures.value

lies : (c : After-range)
    → IsInChunk (text_of c.args.self.now) (chunks_of c.args.self.now) c.args.start
    (chars c.range_from-held.result.now)
lies c =
    let s = c.args.self.now in
    let f = c.leaf_at-found.ensures.found in
    let m = measured _ _ _ _ s.is_excerpt in
    let within =
    (found_char c.place-place.result s.node.now c.leaf_at-found.result.leaf
    c.leaf_at-found.result.before f).0 in
    in_clip (text s.node.now) s.node.now.leaves s.start.chars s.end.chars c.args.start
    (chars c.range_from-held.result.now)
    (in_found Char c.place-place.result s.node.now c.leaf_at-found.result.leaf
    c.leaf_at-found.result.before f (c.place-place.result - c.leaf_at-found.result.before.chars)
    (s.start.chars + c.args.start) (chars c.range_from-held.result.now)
    (omega (arith, within)) (omega (arith, c.place-place.ensures.value, f.not_past)) (held_is c))
    (omega (arith, m.some)) m.within

count_in : (c : After-range)
    → c.args.end - c.args.start ≤ length (chars c.range_from-held.result.now)
count_in c =
    omega (
      arith,
      ap length (held_is c),
      length-drop
          (c.place-place.result - c.leaf_at-found.result.before.chars) c.leaf_at-found.result.leaf,
      ap (λ x. x.chars) c.leaf_at-found.ensures.inside,
      c.if-count-found.false,
    )

pub returns-clause-text : goal.returns-clause-text
returns-clause-text c =
    let here = (goal.at.returns-clause-text c).After-range in
    let on : c.args.start + (c.args.end - c.args.start) ≡ c.args.end =
    omega (arith, c.requires.some) in
    rw on at ((lies here).text_is (c.args.end - c.args.start) (count_in here)
    (omega (arith, c.requires.some, c.requires.within))) ∙ sym (part_is here)

pub returns-clause-chunks : goal.returns-clause-chunks
returns-clause-chunks c =
    let here = (goal.at.returns-clause-chunks c).After-range in
    let on : c.args.start + (c.args.end - c.args.start) ≡ c.args.end =
    omega (arith, c.requires.some) in
    rw on at ((lies here).chunks_are (c.args.end - c.args.start) (count_in here)
    (omega (arith, c.requires.some, c.requires.within))) ∙ ap single_chunk (sym (part_is here))

pub leaf_at-found-requires-clause-within : goal.leaf_at-found-requires-clause-within
leaf_at-found-requires-clause-within c =
    let m = measured _ _ _ _ c.args.self.now.is_excerpt in
    omega (arith, c.place-place.ensures.value, c.requires.some, c.requires.within)

pub overflow_sub-skip : goal.overflow_sub-skip
overflow_sub-skip c = c.leaf_at-found.ensures.found.not_past
