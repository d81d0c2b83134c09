-- The first leaf of two adjacent texts.
use Rattle.std.proofs.Common.{◌≡◌, ℕ, ◌+◌, ◌-◌, ◌<◌, ◌≤◌, ◌||◌, true, false, List, [], ◌++◌, length, take, drop, get_or, ap, ap₂, sym, ◌∙◌, arith, append_assoc}
use Rattle.std.specs.Prelude.{◌==◌}
use Rattle.std.specs.Str.{chars, IsUtf8}
use Rattle.std.proofs.Math.Seq.{take-append-add, drop-append-add}
use Rattle.std.proofs.lemmas.Bool.Decides.{nat_tests}
use Rattle.std.proofs.lemmas.List.{append-nil, length-append, length-take-le, get_or-take, take-take}
use Rattle.std.proofs.lemmas.Str.{IsUtf8-append}
use Rattle.rope_text.specs.Text.{byte_len}
use Rattle.rope_text.specs.Cuts.{is_cut, is_cut_between}
use Rattle.rope_text.specs.Cutting.{parts_crlf}
use Rattle.rope_text.proofs.CutOff.{IsCutOff, cut_off}
use Rattle.rope_text.proofs.Walks.{byte_len-chars}
use Rattle.rope_text.proofs.Apart.{some_char}
use Rattle.rope_leaf.proofs.HalfLaws.{apart_after}

-- the leaf, and the text after it
pub cut_whole : (bs : List ℕ) (r : ℕ) (leaf more whole : List ℕ) → IsCutOff bs r
    → leaf ≡ chars (take r bs) → more ≡ chars (drop r bs) → chars bs ≡ whole → leaf ++ more ≡ whole
cut_whole bs r leaf more whole off is_leaf is_more is_whole = ap₂ (λ x y. x ++ y) is_leaf is_more
    ∙ off.whole ∙ is_whole

pub cut_apart : (bs : List ℕ) (r : ℕ) (leaf more : List ℕ) → IsCutOff bs r
    → leaf ≡ chars (take r bs) → more ≡ chars (drop r bs) → parts_crlf leaf more ≡ false
cut_apart bs r leaf more off is_leaf is_more = ap₂ parts_crlf is_leaf is_more ∙ off.apart

inner_cut : (bs : List ℕ) (r : ℕ) → 0 < r → r < length bs
    → is_cut bs r ≡ is_cut_between (get_or bs (r - 1) 0) (get_or bs r 0)
inner_cut bs r some inside =
    let start : (r == 0) ≡ false = grind (arith, nat_tests) in
    let end : (r == length bs) ≡ false = grind (arith, nat_tests) in
    ap₂ (λ a b. (a || b) || is_cut_between (get_or bs (r - 1) 0) (get_or bs r 0)) start end

-- a legal split position in the front of a text is one in the text
cut_of_front : (bs : List ℕ) (n r : ℕ) → 0 < r → r < n → n ≤ length bs
    → is_cut (take n bs) r ≡ is_cut bs r
cut_of_front bs n r some inside within =
    inner_cut (take n bs) r some (omega (arith, length-take-le n bs within))
    ∙ ap₂ is_cut_between (get_or-take n bs (r - 1) 0 (omega arith)) (get_or-take n bs r 0 inside)
    ∙ sym (inner_cut bs r some (omega arith))

-- a leaf that has all of the first text
pub all_taken : (rest text : List ℕ) (r : ℕ) → length rest ≤ r
    → drop r (rest ++ text) ≡ drop (r - length rest) text
all_taken rest text r le =
    ap (λ k. drop k (rest ++ text)) (let e : r ≡ length rest + (r - length rest) = omega arith in e)
    ∙ drop-append-add rest text (r - length rest)

-- a text that continues
module _ (rest text front ahead : List ℕ) (p r : ℕ) (u : IsUtf8 rest) (v : IsUtf8 text)
    (within : p ≤ length text) (is_front : front ≡ take (p - 0) text)
    (is_ahead : ahead ≡ rest ++ (front ++ []))
    (some : 0 < r) (inside : r < length rest + p) (cut : is_cut ahead r ≡ true) where
  ahead_is : ahead ≡ take (length rest + p) (rest ++ text)
  ahead_is =
      is_ahead ∙ ap (λ x. rest ++ x) (append-nil front ∙ is_front
      ∙ ap (λ k. take k text) (omega arith)) ∙ sym (take-append-add rest text p)

  whole_len : length (rest ++ text) ≡ length rest + length text
  whole_len = length-append rest text

  ahead_len : length ahead ≡ length rest + p
  ahead_len = ap length ahead_is
      ∙ length-take-le (length rest + p) (rest ++ text) (omega (arith, whole_len))

  pub two_parts : IsCutOff (rest ++ text) r
  two_parts =
      let same =
      cut_of_front (rest ++ text) (length rest + p) r some (omega (arith, ahead_len))
      (omega (arith, whole_len)) in
      cut_off (rest ++ text) r (IsUtf8-append rest text u v) some
      (omega (arith, ahead_len, whole_len)) (sym same ∙ ap (λ bs. is_cut bs r) (sym ahead_is) ∙ cut)

  -- the leaf at the front
  pub leaf_part : take (r - 0) ahead ≡ take r (rest ++ text)
  leaf_part =
      ap₂ take (let e : r - 0 ≡ r = omega arith in e) ahead_is
      ∙ take-take r (length rest + p) (rest ++ text) (omega (arith, ahead_len))

-- a leaf that consists of the first text and a prefix of the second
module _ (bs : List ℕ) (r : ℕ) (rest leaf front : List ℕ) (off : IsCutOff bs r)
    (is_leaf : leaf ≡ rest ++ chars front) (is_front : front ≡ take (r - 0) bs) where
  leaf_chars : leaf ≡ rest ++ chars (take r bs)
  leaf_chars = is_leaf ∙ ap (λ x. rest ++ chars x) (is_front ∙ ap (λ k. take k bs) (omega arith))

  pub longer_whole : leaf ++ chars (drop r bs) ≡ rest ++ chars bs
  longer_whole = ap (λ x. x ++ chars (drop r bs)) leaf_chars
      ∙ append_assoc rest (chars (take r bs)) (chars (drop r bs)) ∙ ap (λ x. rest ++ x) off.whole

  -- the leaf has none of the second text
  pub same_apart : r ≡ 0 → parts_crlf rest (chars bs) ≡ false
      → parts_crlf leaf (chars (drop r bs)) ≡ false
  unfolding chars
  same_apart none apart =
      let same : leaf ≡ rest = leaf_chars ∙ ap (λ k. rest ++ chars (take k bs)) none
      ∙ append-nil rest in
      ap₂ (λ x k. parts_crlf x (chars (drop k bs))) same none ∙ apart

  pub longer_apart : 0 < r → r ≤ length bs → parts_crlf leaf (chars (drop r bs)) ≡ false
  longer_apart some within =
      let bytes : byte_len (chars (take r bs)) ≡ r = byte_len-chars (take r bs) off.front
      ∙ length-take-le r bs within in
      let taken : 1 ≤ length (chars (take r bs)) =
      some_char (chars (take r bs)) (omega (arith, bytes, some)) in
      ap (λ x. parts_crlf x (chars (drop r bs))) leaf_chars
      ∙ apart_after rest (chars (take r bs)) (chars (drop r bs)) taken off.apart
