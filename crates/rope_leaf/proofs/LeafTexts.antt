-- The bytes of a leaf, and its text.
use Rattle.std.proofs.Common.{◌≡◌, ℕ, true, List, [], ◌∷◌, length, sym, ap, ◌∙◌, arith}
use Rattle.std.specs.Str.{chars, is_utf8, encode_utf8_all}
use Rattle.std.proofs.lemmas.Str.{encodes-chars, chars-nil, IsUtf8-from_is_utf8}
use Rattle.rope_text.specs.Text.{byte_len}
use Rattle.rope_text.proofs.Walks.{byte_len-chars}

pub bytes_of : (bs cs : List ℕ) → is_utf8 bs ≡ true → chars bs ≡ cs → encode_utf8_all cs ≡ bs
bytes_of bs cs u view = ap encode_utf8_all (sym view) ∙ encodes-chars bs (IsUtf8-from_is_utf8 bs u)

pub len_of : (bs cs : List ℕ) → is_utf8 bs ≡ true → chars bs ≡ cs → byte_len cs ≡ length bs
len_of bs cs u view = ap byte_len (sym view) ∙ byte_len-chars bs (IsUtf8-from_is_utf8 bs u)

pub no_chars : (bs : List ℕ) → length bs ≡ 0 → chars bs ≡ []
no_chars [] none = chars-nil
no_chars (b ∷ bs) none = absurd (omega arith)
