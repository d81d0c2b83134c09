-- The counts of the texts that a rope may have.
use Rattle.std.proofs.Common.{ℕ, ◌*◌, ◌<◌, ◌≤◌, ◌^◌, List, [], ◌∷◌, length, cond, nat_le, nat_lt, length-append, arith}
use Rattle.std.specs.Char.{encode_utf8}
use Rattle.std.specs.Str.{encode_utf8_all}
use Rattle.std.proofs.lemmas.Bool.{cond_both, le-leb, lt-leb, ltb-true, ltb-false}
use Rattle.std.proofs.lemmas.List.Sums.{count_by-le-length, sum_by-append}
use Rattle.std.proofs.lemmas.Str.{length-le-encodes}
use Rattle.rope_text.specs.declared.line_breaks.LineBreaks.{LineBreaks}
use Rattle.rope_text.specs.declared.text_info.TextInfo.{TextInfo}
use Rattle.rope_text.specs.Text.{byte_len, surrogate_count}
use Rattle.rope_text.specs.TextInfo.{info_of, info_sum, HasSum}
use Rattle.rope_text.proofs.InfoLaws.{break_count-le-length}
use Rattle.rope_leaf.specs.Narrow.{IsBelow}
use Rattle.rope_leaf.specs.Counted.{AreWithin}
use Rattle.rope_leaf.specs.Search.{IsSmall}

-- the counts of a text of at most isize::MAX bytes
pub small_info : (breaks : LineBreaks) (text : List ℕ) → byte_len text < 2 ^ 63
    → IsSmall (info_of breaks text)
small_info breaks text fits = record {
  bytes = fits;
  chars = length-le-encodes text;
  pairs = count_by-le-length (λ c. nat_le 65536 c) text;
  breaks = break_count-le-length breaks text;
}

-- counts that may be summed
pub sum_of_small : (x y : TextInfo) → IsSmall x → IsSmall y → HasSum x y
sum_of_small x y a b = record {
  bytes = omega (arith, a.bytes, b.bytes);
  chars = omega (arith, a.bytes, a.chars, b.bytes, b.chars);
  pairs = omega (arith, a.bytes, a.chars, a.pairs, b.bytes, b.chars, b.pairs);
  breaks = omega (arith, a.bytes, a.chars, a.breaks, b.bytes, b.chars, b.breaks);
}

pub small_sum : (x y : TextInfo) → IsSmall (info_sum x y) → HasSum x y
small_sum x y a = record {
  bytes = omega (arith, a.bytes);
  chars = omega (arith, a.bytes, a.chars);
  pairs = omega (arith, a.bytes, a.chars, a.pairs);
  breaks = omega (arith, a.bytes, a.chars, a.breaks);
}

-- no count exceeds the bound
pub small_below : (info : TextInfo) → IsSmall info → IsBelow (2 ^ 63) info
small_below info s = record {
  bytes = s.bytes;
  chars = omega (arith, s.bytes, s.chars);
  pairs = omega (arith, s.bytes, s.chars, s.pairs);
  breaks = omega (arith, s.bytes, s.chars, s.breaks);
}

-- a character of two code units takes four bytes
four_bytes : (c : ℕ) → 4 * cond (nat_le 65536 c) 1 0 ≤ length (encode_utf8 c)
unfolding encode_utf8
four_bytes c =
    let P : List ℕ → Type 0 = λ bs. 4 * cond (nat_le 65536 c) 1 0 ≤ length bs in
    cond_both (nat_lt c 128) _ _ P (λ e. let h = ltb-true c 128 e in
    rw (lt-leb 65536 c (omega arith)) (omega arith))
    (λ _. cond_both (nat_lt c 2048) _ _ P (λ e. let h = ltb-true c 2048 e in
    rw (lt-leb 65536 c (omega arith)) (omega arith))
    (λ _. cond_both (nat_lt c 65536) _ _ P (λ e. let h = ltb-true c 65536 e in
    rw (lt-leb 65536 c h) (omega arith))
    (λ e. let h = ltb-false c 65536 e in rw (le-leb 65536 c h) (omega arith))))

pub pairs_in_bytes : (text : List ℕ) → 4 * surrogate_count text ≤ byte_len text
pairs_in_bytes [] = omega arith
pairs_in_bytes (c ∷ cs) =
    omega (
      arith,
      length-append (encode_utf8 c) (encode_utf8_all cs),
      four_bytes c,
      pairs_in_bytes cs,
      sum_by-append (λ c. cond (nat_le 65536 c) 1 0) (c ∷ []) cs,
    )

pub info_within : (breaks : LineBreaks) (text : List ℕ) (most : ℕ) → byte_len text ≤ most
    → AreWithin most (info_of breaks text)
info_within breaks text most fits =
    let chars = length-le-encodes text in
    let few = break_count-le-length breaks text in
    record {
      chars = omega (arith, chars, fits);
      pairs = omega (arith, pairs_in_bytes text, fits);
      breaks = omega (arith, chars, few, fits);
      bytes = fits;
    }
