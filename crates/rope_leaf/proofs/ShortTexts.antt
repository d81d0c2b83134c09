-- Short texts that are known to have as many bytes as characters, or fewer.
use Rattle.std.proofs.Common.{◌≡◌, ℕ, List, length, ap, sym, ◌∙◌, arith}
use Rattle.std.specs.Str.{chars}
use Rattle.std.proofs.lemmas.Str.{IsUtf8-from_is_utf8}
use Rattle.rope_text.specs.Text.{byte_len}
use Rattle.rope_text.proofs.Walks.{byte_len-chars}
use Rattle.rope_leaf.specs.Short.{IsShort}
use Rattle.rope_leaf.specs.declared.short_text.ShortText.TheInside.{Inside}

module _ (s : Inside) (cs : List ℕ) (i : IsShort s) (view : chars s.text.now ≡ cs)
    (yes : s.char_count ≡ length s.text.now) where
  pub as_many : length s.text.now ≡ length cs
  as_many = sym yes ∙ i.counted (omega arith) ∙ ap length view

  pub ascii : byte_len cs ≡ length cs
  ascii = ap byte_len (sym view) ∙ byte_len-chars s.text.now (IsUtf8-from_is_utf8 s.text.now i.utf8)
      ∙ as_many
