use Rattle.std.proofs.Common.{◌≡◌, ◌+◌, ◌<◌, ◌∙◌, drop, ap, sym, arith, Some, slice_get, get_or, length, length-drop, ℕ, List, ◌-◌, ◌≤◌}
use Rattle.std.specs.Str.{chars}
use Rattle.std.proofs.lemmas.List.{get_or-drop}
use Rattle.std.proofs.lemmas.Option.{slice_get-get_or}
use Rattle.rope_text.proofs.TextParts.{chars_back}
use Rattle.rope_slice.specs.Plain.{text_of}
use Rattle.rope_slice.proofs.slice.RopeSlice.char.Goals.{After-range_from}
use Rattle.std.specs.List.{slice_range}
use Rattle.std.proofs.lemmas.List.{get_or-take}
use Rattle.rope_leaf.specs.Tree.{text}
use Rattle.rope_slice.specs.Excerpt as tree
use Rattle.rope_slice.proofs.Excerpts.{length_part}
use Rattle.rope_slice.proofs.Measured.{measured}
use Rattle.rope_slice.proofs.slice.RopeSlice.char.Goals as goal

-- of a plain text
rest : (c : After-range_from) → chars c.range_from.result.now
    ≡ drop c.args.char_idx (text_of c.in-Alone.plain)
rest c = chars_back c.as_str-text.result.now c.range_from.result.now (text_of c.in-Alone.plain)
    c.args.char_idx c.char_to_byte_idx.result c.as_str-text.utf8 c.as_str-text.ensures
    c.char_to_byte_idx.ensures.value c.range_from.ensures.value

fits : (c : After-range_from) → c.args.char_idx < length (text_of c.in-Alone.plain)
fits c = rw c.in-Alone.is at c.requires

pub first_char-requires : goal.first_char-requires
first_char-requires c =
    omega (
      arith,
      fits c,
      ap length (rest c),
      length-drop c.args.char_idx (text_of c.in-Alone.plain),
    )

pub returns-in-Alone : goal.returns-in-Alone
returns-in-Alone c =
    let i = c.args.char_idx in
    let e = (goal.at.returns-in-Alone c).After-range_from in
    let t = text_of c.in-Alone.plain in
    let long = length-drop i t in
    rw c.in-Alone.is
    (slice_get-get_or t i 0 (fits e)
    ∙ ap (λ x. Some x) ((let n : i ≡ i + 0 = omega arith in ap (λ n. get_or t n 0) n)
    ∙ sym (get_or-drop i t 0 0))
    ∙ sym (slice_get-get_or (drop i t) 0 0 (omega (arith, fits e)))
    ∙ ap (λ cs. slice_get cs 0) (sym (rest e)) ∙ c.first_char.ensures)

-- of a tree's text
char_of_part : (t : List ℕ) (a b i : ℕ) → b ≤ length t → i < b - a
    → slice_get (slice_range t a b) i ≡ slice_get t (a + i)
char_of_part t a b i within less =
    slice_get-get_or (slice_range t a b) i 0 (omega (arith, length_part t a b within))
    ∙ ap (λ x. Some x) (get_or-take (b - a) (drop a t) i 0 less ∙ get_or-drop a t i 0)
    ∙ sym (slice_get-get_or t (a + i) 0 (omega arith))

pub char_at-requires-clause-within : goal.char_at-requires-clause-within
char_at-requires-clause-within c =
    let m = measured _ _ _ _ c.in-InTree.excerpt.is_excerpt in
    let own : c.args.char_idx < length (tree.text_of c.in-InTree.excerpt) =
    rw c.in-InTree.is at c.requires in
    omega (arith, c.place-place.ensures.value)

pub returns-in-InTree : goal.returns-in-InTree
returns-in-InTree c =
    let s = c.in-InTree.excerpt in
    let m = measured _ _ _ _ s.is_excerpt in
    let own : c.args.char_idx < length (tree.text_of s) = rw c.in-InTree.is at c.requires in
    rw c.in-InTree.is
    (char_of_part (text s.node.now) s.start.chars s.end.chars c.args.char_idx m.within
    (omega (arith, own, m.chars)) ∙ ap (slice_get (text s.node.now))
    (sym c.place-place.ensures.value) ∙ c.char_at.ensures.value)
