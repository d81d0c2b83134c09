-- How long the texts are that a change inserts.
use Rattle.std.specs.Prelude.{ℕ, zero, ◌+◌, List, [], ◌∷◌}
use Rattle.rope_text.specs.Text.{byte_len}
use Rattle.rope_changes.specs.Change.{Edit}

-- the number of bytes that replacements insert
abbrev pub inserted_bytes : List Edit → ℕ
inserted_bytes [] = zero
inserted_bytes (e ∷ edits) = byte_len e.text + inserted_bytes edits
