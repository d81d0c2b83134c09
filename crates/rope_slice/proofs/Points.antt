-- A character of a text between two of its bytes.
use Rattle.std.proofs.Common.{All, None, Bool, false, ◌≡◌, ℕ, ◌+◌, ◌-◌, ◌<◌, true, List, [], ◌∷◌, ◌++◌, length, take, drop, get_or, refl, ap, subst, sym, ◌∙◌, arith, append_assoc, length-append, length-take, length-drop}
use Rattle.std.proofs.lemmas.List.{append-nil, take-append-drop, take_at, drop_at, drop_more}
use Rattle.std.proofs.lemmas.Str.{encodes-chars, length-le-encodes, cons_from_encodes, chars_past_char, chars-append, encode_ascii, length-encode, len_utf8_bounds, IsUtf8-encode, IsUtf8-past_char, IsUtf8-take, IsUtf8-drop, IsCharBoundary-at_seam, IsCharBoundary-from_take, IsCharBoundary-before_ascii, chars-nil}
use Rattle.std.specs.Char.{encode_utf8, IsScalar}
use Rattle.std.specs.Str.{chars, IsUtf8, IsCharBoundary, all_scalars, encode_utf8_all}
use Rattle.rope_text.proofs.FirstBytes.{first_scalar}
use Rattle.std.specs.Bool.{MatchBool}
use Rattle.rope_text.specs.Sides.{Sides, GoesLeft, GoesRight}
use Rattle.rope_slice.specs.Path.{Place, leaves}
use Rattle.rope_slice.specs.Point.{IsCharBetween, IsChunkAt, AreSolid}
use Rattle.rope_slice.proofs.Spans.{some_leaf}

first_is_scalar : (bs ys : List ℕ) (c : ℕ) → IsUtf8 bs → bs ≡ encode_utf8 c ++ ys → IsScalar c
first_is_scalar bs ys c u e =
    let f = cons_from_encodes u.0 ys c (u.1.1 ∙ e) in
    first_scalar c f.0 (subst (λ cs. all_scalars cs ≡ true) f.1 u.1.0)

chars_of_one : (c : ℕ) → IsScalar c → chars (encode_utf8 c) ≡ c ∷ []
chars_of_one c k =
    chars_past_char (encode_utf8 c) [] c (IsUtf8-encode c k) (sym (append-nil (encode_utf8 c)))
    ∙ ap (λ x. c ∷ x) chars-nil

-- the bytes from a cut on begin with those of a character
pub char_between : (bs ys : List ℕ) (at end c : ℕ) → IsUtf8 bs → IsCharBoundary bs at
    → drop at bs ≡ encode_utf8 c ++ ys → end ≡ at + length (encode_utf8 c)
    → IsCharBetween bs at end c
char_between bs ys at end c u cut h e =
    let xs = take at bs in
    let text : IsUtf8 (drop at bs) = IsUtf8-drop bs at u cut in
    let scalar : IsScalar c = first_is_scalar (drop at bs) ys c text h in
    let later : IsUtf8 ys = IsUtf8-past_char (drop at bs) ys c text h in
    let whole : bs ≡ (xs ++ encode_utf8 c) ++ ys = sym (take-append-drop at bs)
    ∙ ap (λ x. xs ++ x) h ∙ sym (append_assoc xs (encode_utf8 c) ys) in
    let size : length (xs ++ encode_utf8 c) ≡ end =
    omega (arith, length-append xs (encode_utf8 c), length-take at bs, cut.0) in
    record {
      front = ap (λ x. chars (take end x)) whole
          ∙ ap chars (take_at (xs ++ encode_utf8 c) ys end size)
          ∙ chars-append xs (encode_utf8 c) (IsUtf8-take bs at u cut)
          ∙ ap (λ x. chars xs ++ x) (chars_of_one c scalar);
      rest = chars_past_char (drop at bs) ys c text h
          ∙ ap (λ x. c ∷ chars x) (sym (ap (drop end) whole
          ∙ drop_at (xs ++ encode_utf8 c) ys end size));
      start_cut = cut;
      end_cut =
          subst (IsCharBoundary bs) size
          (IsCharBoundary-at_seam bs (xs ++ encode_utf8 c) ys whole later);
      moves = omega (arith, length-encode c, (len_utf8_bounds c).0);
    }

-- and where they end with the text before them
pub char_between_rest : (bs ys : List ℕ) (at c : ℕ) → IsUtf8 bs → IsCharBoundary bs at
    → drop at bs ≡ encode_utf8 c ++ ys → IsCharBetween bs at (length bs - length ys) c
char_between_rest bs ys at c u cut h =
    char_between bs ys at (length bs - length ys) c u cut h
    (omega (arith, cut.0, ap length h, length-append (encode_utf8 c) ys, length-drop at bs))

-- a byte below 128 is a character of its own
pub ascii_after : (bs : List ℕ) (at : ℕ) → IsUtf8 bs → IsCharBoundary bs at → at < length bs
    → get_or bs at 0 < 128 → IsCharBetween bs at (at + 1) (get_or bs at 0)
ascii_after bs at u cut l low =
    let e : encode_utf8 (get_or bs at 0) ≡ get_or bs at 0 ∷ [] =
    encode_ascii (get_or bs at 0) low in
    char_between bs (drop (at + 1) bs) at (at + 1) (get_or bs at 0) u cut
    (drop_more bs at 0 l ∙ ap (λ x. x ++ drop (at + 1) bs) (sym e)) (omega (arith, ap length e))

pub ascii_before : (bs : List ℕ) (at : ℕ) → IsUtf8 bs → IsCharBoundary bs at → 0 < at
    → get_or bs (at - 1) 0 < 128 → IsCharBetween bs (at - 1) at (get_or bs (at - 1) 0)
ascii_before bs at u cut some low =
    let l : at - 1 < length bs = omega (arith, cut.0) in
    let same : at - 1 + 1 ≡ at = omega arith in
    subst (λ n. IsCharBetween bs (at - 1) n (get_or bs (at - 1) 0)) same
    (ascii_after bs (at - 1) u (IsCharBoundary-before_ascii bs (at - 1) l low) l low)

-- the bytes up to a cut end with those of a character
pub char_between_front : (bs xs : List ℕ) (at c : ℕ) → IsUtf8 bs → IsCharBoundary bs at → IsUtf8 xs
    → take at bs ≡ xs ++ encode_utf8 c → IsCharBetween bs (length xs) at c
char_between_front bs xs at c u cut text h =
    let whole : bs ≡ xs ++ (encode_utf8 c ++ drop at bs) = sym (take-append-drop at bs)
    ∙ ap (λ x. x ++ drop at bs) h ∙ append_assoc xs (encode_utf8 c) (drop at bs) in
    let before : take (length xs) bs ≡ xs = ap (take (length xs)) whole
    ∙ take_at xs (encode_utf8 c ++ drop at bs) (length xs) refl in
    let size : length xs + length (encode_utf8 c) ≡ at =
    omega (arith, ap length h, length-append xs (encode_utf8 c), length-take at bs, cut.0) in
    let start : IsCharBoundary bs (length xs) =
    IsCharBoundary-from_take bs (length xs) u (omega (arith, cut.0))
    (subst IsUtf8 (sym before) text) in
    char_between bs (drop at bs) (length xs) at c u start (ap (drop (length xs)) whole
    ∙ drop_at xs (encode_utf8 c ++ drop at bs) (length xs) refl) (sym size)

-- a leaf of a text that has items
pub here_solid : (p : Place) (total : ℕ) → AreSolid p total → 0 < total → 0 < length p.here
here_solid p total solid some = some_leaf p (solid some)

pub AreSolid_same : (p q : Place) (total : ℕ) → leaves q ≡ leaves p → AreSolid p total
    → AreSolid q total
AreSolid_same p q total e solid =
    λ some. subst (λ xs. All (λ leaf. 0 < length leaf) xs) (sym e) (solid some)

-- the bytes of a chunk are those of its characters
pub chunk_bytes : (p : Place) (bytes : List ℕ) → IsChunkAt p bytes → encode_utf8_all p.here ≡ bytes
chunk_bytes p bytes h = ap encode_utf8_all (sym h.here) ∙ encodes-chars bytes h.utf8

pub chunk_some : (p : Place) (bytes : List ℕ) → IsChunkAt p bytes → 0 < length p.here
    → 0 < length bytes
chunk_some p bytes h some =
    omega (arith, length-le-encodes p.here, ap length (chunk_bytes p bytes h))

-- where there is none on that side, it stays
pub stays_put : {X : Type 0} (is_left : Bool) (old new : Sides X) → new ≡ old
    → MatchBool is_left (old.left ≡ []) (old.right ≡ []) → {A : Type 0} (view : A → X)
    → MatchBool is_left (GoesLeft view old None new) (GoesRight view old None new)
stays_put true old new e none view = (none, e)
stays_put false old new e none view = (none, e)
