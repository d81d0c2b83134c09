-- The texts of the example.
use Rattle.std.proofs.Common.{◌≡◌, ℕ, List, length, refl, ◌∙◌, sym, None, Some, codes}
use Rattle.std.specs.Str.{chars, encode_utf8_all}
use Rattle.std.proofs.lemmas.Str.{chars-encodes, encodes_same}
use Rattle.rope_text.specs.declared.line_breaks.LineBreaks.{LineBreaks}
use Rattle.rope_text.specs.declared.line_breaks.LineBreaks.TheVariants.{Unicode}
use Rattle.rope_text.specs.Breaks.{break_ends}
use Rattle.rope_text.specs.Lines.{line_count}
use lib.Utf8.{encode}
use Rattle.rope_text.specs.Edit.{inserted, removed, char_range_error}

abbrev pub first : List ℕ
first = codes "one\ntwo\nthree\n"

-- the bytes of the text are its characters
ascii : encode_utf8_all first ≡ first
unfolding encode
ascii = refl

-- the text that was read
pub is_first : (t bytes : List ℕ) → encode_utf8_all t ≡ bytes → bytes ≡ first → t ≡ first
is_first t bytes e f = encodes_same t first (e ∙ f ∙ sym ascii)

pub four_lines : (breaks : LineBreaks) (t : List ℕ) → breaks ≡ Unicode → t ≡ first
    → line_count breaks t ≡ 4
unfolding break_ends
four_lines breaks t e f = rw (e, f) refl

pub may_remove : (t : List ℕ) → t ≡ first → char_range_error (Some 4) (Some 8) (length t) ≡ None
may_remove t f = rw f refl

-- the text after a removal, and after an insert into it
pub ten : (t u : List ℕ) → t ≡ first → u ≡ removed t 4 8 → length u ≡ 10
ten t u f e = rw (e, f) refl

abbrev flowers : List ℕ
flowers = codes "flowers\n"

flowers_are : chars flowers ≡ flowers
unfolding encode
flowers_are = chars-encodes flowers refl

pub may_slice : (t u v : List ℕ) → t ≡ first → u ≡ removed t 4 8 → v ≡ inserted u 4 (chars flowers)
    → char_range_error (Some 0) (Some 12) (length v) ≡ None
may_slice t u v f e h = rw (h, flowers_are, e, f) refl
