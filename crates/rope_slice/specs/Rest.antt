-- The rest of a text.
use Rattle.std.specs.Prelude.{ℕ, List}
use Rattle.std.specs.List.{concat}
use Rattle.std.specs.Str.{encode_utf8_all}
use Rattle.rope_text.specs.Sides.{Sides, ahead}

-- the bytes of the chunks ahead
abbrev pub bytes_ahead : Sides (List ℕ) → List ℕ
bytes_ahead chunks = encode_utf8_all (concat (ahead chunks))
