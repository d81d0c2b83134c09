-- Steps of a cursor over bytes.
use Rattle.std.proofs.Common.{All, Some, subst, Bool, true, false, if◌then◌else◌, refl, length-take, ◌≡◌, ℕ, ◌+◌, ◌-◌, ◌<◌, ◌≤◌, List, [], ◌∷◌, ◌++◌, length, take, drop, get_or, ap, sym, ◌∙◌, arith, append_assoc, length-append}
use Rattle.std.proofs.lemmas.List.{take-append-drop, append-nil, take_all, drop_all, drop_more, take_more}
use Rattle.std.proofs.lemmas.Str.{encodes-append}
use Rattle.std.specs.Bool.{MatchBool}
use Rattle.std.specs.List.{concat}
use Rattle.std.specs.Str.{encode_utf8_all}
use Rattle.rope_text.specs.Text.{byte_len}
use Rattle.rope_text.proofs.Measures.{IsMeasure-byte_len}
use Rattle.rope_text.proofs.CuttingLaws.{concat-append}
use Rattle.rope_text.proofs.SidesLaws.{sides_ext}
use Rattle.rope_text.proofs.Apart.{some_char}
use Rattle.rope_text.specs.Sides.{Sides, GoesLeft, GoesRight}
use Rattle.rope_slice.specs.Path.{Place, IsNext, IsBeside, leaves}
use Rattle.rope_slice.specs.Point.{IsChunkAt}
use Rattle.rope_slice.specs.Bytes.{at_byte, IsByteCursor}
use Rattle.rope_slice.proofs.Points.{here_solid, AreSolid_same, chunk_bytes, chunk_some}
use Rattle.rope_slice.proofs.Spans.{leaves_next}

-- a cursor with a byte to the left, or to the right, in its chunk, with the items of another cursor
pub record IsReady (is_left back : Bool) (old : Sides ℕ) (p : Place) (chunk : List ℕ)
    (at before total : ℕ) : Type 0 where
  pub cursor : IsByteCursor p chunk at before total
  pub some : MatchBool is_left (0 < at) (at < length chunk)
  pub same : at_byte p chunk at back ≡ old

-- the bytes before the next chunk, and those from it on
module _ (p q : Place) (chunk next : List ℕ) (n : IsNext p q) (h : IsChunkAt p chunk)
    (k : IsChunkAt q next) where
  pub bytes_before : encode_utf8_all (concat q.before) ≡ encode_utf8_all (concat p.before) ++ chunk
  bytes_before =
      ap (λ x. encode_utf8_all (concat x)) n.before
      ∙ ap encode_utf8_all (concat-append p.before (p.here ∷ [])
      ∙ ap (λ x. concat p.before ++ x) (append-nil p.here))
      ∙ encodes-append (concat p.before) p.here
      ∙ ap (λ x. encode_utf8_all (concat p.before) ++ x) (chunk_bytes p chunk h)

  pub bytes_after : encode_utf8_all (concat p.after) ≡ next ++ encode_utf8_all (concat q.after)
  bytes_after =
      ap (λ x. encode_utf8_all (concat x)) n.after ∙ encodes-append q.here (concat q.after)
      ∙ ap (λ x. x ++ encode_utf8_all (concat q.after)) (chunk_bytes q next k)

  pub length_before : length (encode_utf8_all (concat q.before))
      ≡ length (encode_utf8_all (concat p.before)) + length chunk
  length_before = ap length bytes_before ∙ length-append (encode_utf8_all (concat p.before)) chunk

  length_after : length (encode_utf8_all (concat p.after))
      ≡ length next + length (encode_utf8_all (concat q.after))
  length_after = ap length bytes_after ∙ length-append next (encode_utf8_all (concat q.after))

  -- past the last byte of a chunk a cursor is before the first one of the next
  page_left : (at to : ℕ) → at ≡ length chunk → to ≡ 0
      → encode_utf8_all (concat p.before) ++ take at chunk ≡ encode_utf8_all (concat q.before)
      ++ take to next
  page_left at to e z =
      let before = encode_utf8_all (concat p.before) in
      ap (λ x. before ++ x) (take_all at chunk (omega (arith, e))) ∙ sym bytes_before
      ∙ sym (append-nil (encode_utf8_all (concat q.before)))
      ∙ ap (λ i. encode_utf8_all (concat q.before) ++ take i next) (sym z)

  page_right : (at to : ℕ) → at ≡ length chunk → to ≡ 0
      → drop at chunk ++ encode_utf8_all (concat p.after) ≡ drop to next
      ++ encode_utf8_all (concat q.after)
  page_right at to e z =
      ap (λ x. x ++ encode_utf8_all (concat p.after)) (drop_all at chunk (omega (arith, e)))
      ∙ bytes_after ∙ ap (λ i. drop i next ++ encode_utf8_all (concat q.after)) (sym z)

  pub page : (at to : ℕ) (back : Bool) → at ≡ length chunk → to ≡ 0
      → at_byte p chunk at back ≡ at_byte q next to back
  page at to back e z = sides_ext _ _ (page_left at to e z) (page_right at to e z) refl

  -- the cursor there, and back, where it is not at the end of all the bytes
  pub ready_next : (at to before total : ℕ) (back : Bool) → IsByteCursor p chunk at before total
      → at ≡ length chunk → (before + at ≡ total → ⊥) → to ≡ 0
      → IsReady false back (at_byte p chunk at back) q next to (before + at - to) total
  ready_next at to before total back c e more z =
      let some : 0 < total = omega (arith, c.total_is, c.within, more) in
      let solid = AreSolid_same p q total (leaves_next p q n) c.solid in
      let first : 0 < length next = chunk_some q next k (here_solid q total solid some) in
      record {
        cursor = record {
          chunk_is = k;
          within = omega (arith, z);
          before_is = omega (arith, c.before_is, length_before, e, z);
          total_is = omega (arith, c.total_is, length_after, e, z);
          solid = solid;
        };
        some = omega (arith, z, first);
        same = sym (page at to back e z);
      }

  pub ready_prev : (at to before total : ℕ) (back : Bool) → IsByteCursor q next at before total
      → at ≡ 0 → (before + at ≡ 0 → ⊥) → to ≡ length chunk
      → IsReady true back (at_byte q next at back) p chunk to (before + at - to) total
  ready_prev at to before total back c z more e =
      let some : 0 < total = omega (arith, c.total_is, z, more) in
      let solid = AreSolid_same q p total (sym (leaves_next p q n)) c.solid in
      let last : 0 < length chunk = chunk_some p chunk h (here_solid p total solid some) in
      record {
        cursor = record {
          chunk_is = h;
          within = omega (arith, e);
          before_is = omega (arith, c.before_is, length_before, e, z);
          total_is = omega (arith, c.total_is, c.before_is, length_before, length_after, e, z);
          solid = solid;
        };
        some = omega (arith, e, last);
        same = page to at back e z;
      }

-- it has a byte on that side in its chunk
pub ready_here : (is_left back : Bool) (p : Place) (chunk : List ℕ) (at before total : ℕ)
    → IsByteCursor p chunk at before total → (at ≡ (if is_left then 0 else length chunk) → ⊥)
    → IsReady is_left back (at_byte p chunk at back) p chunk at before total
ready_here true back p chunk at before total c more =
    record { cursor = c; some = omega (arith, more); same = refl }
ready_here false back p chunk at before total c more =
    record { cursor = c; some = omega (arith, c.within, more); same = refl }

pub ready_beside : (is_left back : Bool) (p q : Place) (chunk next : List ℕ) → IsBeside is_left p q
    → IsChunkAt q next → (at to before total : ℕ) → IsByteCursor p chunk at before total
    → at ≡ (if is_left then 0 else length chunk)
    → (before + at ≡ (if is_left then 0 else total) → ⊥) → to ≡ (if is_left then length next else 0)
    → IsReady is_left back (at_byte p chunk at back) q next to (before + at - to) total
ready_beside true back p q chunk next n k at to before total c e more t =
    ready_prev q p next chunk n k c.chunk_is at to before total back c e more t
ready_beside false back p q chunk next n k at to before total c e more t =
    ready_next p q chunk next n c.chunk_is k at to before total back c e more t

-- the bytes of a chunk are among those before its end
pub before_room : (is_left : Bool) (p q : Place) (next : List ℕ) → IsBeside is_left p q
    → IsChunkAt q next → (chunk : List ℕ) (at to before total : ℕ)
    → IsByteCursor p chunk at before total
    → to ≡ (if is_left then length next else 0) → to ≤ before + at
before_room true p q next n k chunk at to before total c t =
    omega (arith, t, c.before_is, length_before q p next chunk n k c.chunk_is)
before_room false p q next n k chunk at to before total c t = omega (arith, t)

-- the byte to the left, passed, and the one to the right
module _ (back : Bool) (old : Sides ℕ) (p : Place) (chunk : List ℕ) (at before total : ℕ) where
  pub left_some : (is_left : Bool) → is_left ≡ true
      → IsReady is_left back old p chunk at before total → 0 < at
  left_some is_left e r = subst (λ (b : Bool). MatchBool b (0 < at) (at < length chunk)) e r.some

  pub right_some : (is_left : Bool) → is_left ≡ false
      → IsReady is_left back old p chunk at before total → at < length chunk
  right_some is_left e r = subst (λ (b : Bool). MatchBool b (0 < at) (at < length chunk)) e r.some

  pub goes_left : (is_left : Bool) → is_left ≡ true
      → IsReady is_left back old p chunk at before total
      → GoesLeft (λ x. x) old (Some (get_or chunk (at - 1) 0)) (at_byte p chunk (at - 1) back)
  goes_left is_left e r =
      let some = left_some is_left e r in
      let within = r.cursor.within in
      let one : at - 1 + 1 ≡ at = omega (arith, some) in
      let enc = encode_utf8_all (concat p.before) in
      let left : enc ++ take at chunk ≡ (enc ++ take (at - 1) chunk) ++ get_or chunk (at - 1) 0
      ∷ [] =
      ap (λ x. enc ++ x) (ap (λ i. take i chunk) (sym one)
      ∙ take_more chunk (at - 1) 0 (omega (arith, some, within)))
      ∙ sym (append_assoc enc (take (at - 1) chunk) (get_or chunk (at - 1) 0 ∷ [])) in
      let right : drop (at - 1) chunk ++ encode_utf8_all (concat p.after) ≡ get_or chunk (at - 1) 0
      ∷ (drop at chunk ++ encode_utf8_all (concat p.after)) =
      ap (λ x. x ++ encode_utf8_all (concat p.after))
      (drop_more chunk (at - 1) 0 (omega (arith, some, within))
      ∙ ap (λ i. get_or chunk (at - 1) 0 ∷ drop i chunk) one) in
      rw (← r.same) (left, right, refl)

  pub goes_right : (is_left : Bool) → is_left ≡ false
      → IsReady is_left back old p chunk at before total
      → GoesRight (λ x. x) old (Some (get_or chunk at 0)) (at_byte p chunk (at + 1) back)
  goes_right is_left e r =
      let some = right_some is_left e r in
      let right = ap (λ x. x ++ encode_utf8_all (concat p.after)) (drop_more chunk at 0 some) in
      let enc = encode_utf8_all (concat p.before) in
      let left : enc ++ take (at + 1) chunk ≡ (enc ++ take at chunk) ++ get_or chunk at 0 ∷ [] =
      ap (λ x. enc ++ x) (take_more chunk at 0 some)
      ∙ sym (append_assoc enc (take at chunk) (get_or chunk at 0 ∷ [])) in
      rw (← r.same) (right, left, refl)

-- a cursor at a byte of a text that consists of leaves
module _ (text : List ℕ) (p : Place) (whole : concat (leaves p) ≡ text) (chunk : List ℕ)
    (h : IsChunkAt p chunk) (at : ℕ) where
  parts : text ≡ concat p.before ++ (p.here ++ concat p.after)
  parts = sym whole ∙ concat-append p.before (p.here ∷ p.after)

  sizes : byte_len text ≡ byte_len (concat p.before) + (byte_len p.here + byte_len (concat p.after))
  sizes =
      ap byte_len parts ∙ IsMeasure-byte_len.joined (concat p.before) (p.here ++ concat p.after)
      ∙ ap (λ n. byte_len (concat p.before) + n) (IsMeasure-byte_len.joined p.here (concat p.after))

  same : byte_len p.here ≡ length chunk
  same = ap length (chunk_bytes p chunk h)

  pub items_at : (encode_utf8_all (concat p.before) ++ take at chunk)
      ++ (drop at chunk ++ encode_utf8_all (concat p.after)) ≡ encode_utf8_all text
  items_at =
      let before = encode_utf8_all (concat p.before) in
      let after = encode_utf8_all (concat p.after) in
      append_assoc before (take at chunk) (drop at chunk ++ after)
      ∙ ap (λ x. before ++ x) (sym (append_assoc (take at chunk) (drop at chunk) after)
      ∙ ap (λ x. x ++ after) (take-append-drop at chunk ∙ sym (chunk_bytes p chunk h))
      ∙ sym (encodes-append p.here (concat p.after)))
      ∙ sym (encodes-append (concat p.before) (p.here ++ concat p.after))
      ∙ ap encode_utf8_all (sym parts)

  pub place_at : (idx : ℕ) → byte_len (concat p.before) + at ≡ idx → at ≤ byte_len p.here
      → length (encode_utf8_all (concat p.before) ++ take at chunk) ≡ idx
  place_at idx e l =
      omega (
        arith,
        length-append (encode_utf8_all (concat p.before)) (take at chunk),
        length-take at chunk,
        same,
      )

  pub cursor_at : (before total : ℕ) → before ≡ byte_len (concat p.before) → at ≤ byte_len p.here
      → total ≡ byte_len text → (0 < length text → All (λ leaf. 0 < length leaf) (leaves p))
      → IsByteCursor p chunk at before total
  cursor_at before total e l all solid = record {
    chunk_is = h;
    within = omega (arith, same);
    before_is = e;
    total_is = omega (arith, sizes, same);
    solid = λ some. solid (some_char text (omega arith));
  }
