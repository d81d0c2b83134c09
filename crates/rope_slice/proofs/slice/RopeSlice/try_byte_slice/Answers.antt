use Rattle.std.proofs.Common.{◌≡◌, Bool, true, false, not, ◌||◌, refl, rules, arith}
use Rattle.rope_text.specs.Edit.{is_char_boundary}
use Rattle.rope_text.proofs.ByteSlices.{split_char}
use Rattle.rope_slice.specs.Slice.{text_of}
use Rattle.rope_slice.proofs.slice.RopeSlice.try_byte_slice.Goals as goal

one_is_not : (x y : Bool) → ((x ≡ true) × (y ≡ true) → false ≡ true) → (not x || not y) ≡ true
one_is_not true true h = absurd (let never = h (refl, refl) in cc)
one_is_not true false h = refl
one_is_not false y h = refl

pub returns-clause-refused : goal.returns-clause-refused
returns-clause-refused g c =
    let text = text_of c.args.self.now in
    let inside =
    one_is_not (is_char_boundary text c.unwrap_or-from.result)
    (is_char_boundary text c.unwrap_or-to.result) c.in-None.ensures.whole.1 in
    search (split_char, rules)

pub byte_range-requires-clause-within : goal.byte_range-requires-clause-within
byte_range-requires-clause-within g c =
    omega (arith, c.max.ensures, c.if-max-len.false, c.len_bytes-len.ensures.value)
