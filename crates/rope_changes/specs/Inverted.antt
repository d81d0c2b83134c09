-- The change that leads back.
use Rattle.std.specs.Prelude.{ℕ, ◌+◌, List, [], ◌∷◌, length, take, drop}
use Rattle.rope_changes.specs.Change.{Edit, Change}

-- the replacements that lead back to a text
abbrev pub inverted_edits : List Edit → List ℕ → List Edit
inverted_edits [] text = []
inverted_edits (e ∷ edits) text =
    record { kept = e.kept; text = take e.deleted (drop e.kept text); deleted = length e.text }
    ∷ inverted_edits edits (drop (e.kept + e.deleted) text)

-- the change that leads back to a text
abbrev pub inverted : Change → List ℕ → Change
inverted c text = record { edits = inverted_edits c.edits text; rest = c.rest }
