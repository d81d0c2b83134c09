use Rattle.std.proofs.Common.{◌≡◌, ◌<◌, ◌∙◌, Some, slice_get, ap, sym, arith, length}
use Rattle.std.specs.Str.{encode_utf8_all}
use Rattle.rope_text.specs.Text.{byte_len}
use Rattle.rope_leaf.specs.Tree.{text}
use Rattle.rope_slice.specs.Excerpt.{text_of}
use Rattle.rope_slice.proofs.Measured.{measured}
use Rattle.rope_slice.proofs.ExcerptLaws.{excerpt_byte}
use Rattle.std.proofs.lemmas.Option.{slice_get-get_or}
use Rattle.std.proofs.lemmas.Str.{encodes-chars}
use Rattle.rope_slice.specs.Plain as plain
use Rattle.rope_slice.proofs.slice.RopeSlice.byte.Goals.{After-byte_at, After-as_bytes-bytes}
use Rattle.rope_slice.proofs.slice.RopeSlice.byte.Goals as goal

value : (c : After-byte_at)
    → slice_get (encode_utf8_all (text_of c.in-InTree.excerpt)) c.args.byte_idx
    ≡ Some c.byte_at.result
value c =
    sym (excerpt_byte _ _ _ _ c.in-InTree.excerpt.is_excerpt c.args.byte_idx
    (rw c.in-InTree.is at c.requires))
    ∙ ap (slice_get (encode_utf8_all (text c.in-InTree.excerpt.node.now)))
    (sym c.place-place.ensures.value) ∙ c.byte_at.ensures.value

pub byte_at-requires-clause-within : goal.byte_at-requires-clause-within
byte_at-requires-clause-within c =
    let m = measured _ _ _ _ c.in-InTree.excerpt.is_excerpt in
    let fits : c.args.byte_idx < byte_len (text_of c.in-InTree.excerpt) =
    rw c.in-InTree.is at c.requires in
    omega (arith, c.place-place.ensures.value)

pub returns-in-InTree : goal.returns-in-InTree
returns-in-InTree c = rw c.in-InTree.is (value (goal.at.returns-in-InTree c).After-byte_at)

-- of a plain text
bytes_are : (c : After-as_bytes-bytes) → encode_utf8_all (plain.text_of c.in-Alone.plain)
    ≡ c.as_bytes-bytes.result.now
bytes_are c = ap encode_utf8_all (sym c.as_str.ensures)
    ∙ encodes-chars c.as_str.result.now c.as_str.utf8 ∙ sym c.as_bytes-bytes.ensures.value

fits : (c : After-as_bytes-bytes) → c.args.byte_idx < length c.as_bytes-bytes.result.now
fits c = let own : c.args.byte_idx < byte_len (plain.text_of c.in-Alone.plain) =
    rw c.in-Alone.is at c.requires in omega (arith, own, ap length (bytes_are c))

pub bounds-bytes-byte_idx : goal.bounds-bytes-byte_idx
bounds-bytes-byte_idx c = fits (goal.at.bounds-bytes-byte_idx c).After-as_bytes-bytes

pub returns-in-Alone : goal.returns-in-Alone
returns-in-Alone c =
    let e = (goal.at.returns-in-Alone c).After-as_bytes-bytes in
    rw c.in-Alone.is (ap (λ bs. slice_get bs c.args.byte_idx) (bytes_are e)
    ∙ slice_get-get_or c.as_bytes-bytes.result.now c.args.byte_idx 0 (fits e))
