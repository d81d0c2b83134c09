-- A cursor over chunks, by the chunk that it refers to.
use Rattle.std.specs.Prelude.{ℕ, Bool, List, [], ◌∷◌, ◌++◌, if◌then◌else◌}
use Rattle.rope_text.specs.Sides.{Sides}
use Rattle.rope_slice.specs.Path.{Place}

-- before that chunk, or past it; an empty slice has no chunk
abbrev pub at_chunk : Place → Bool → Bool → Bool → Sides (List ℕ)
at_chunk p is_empty is_past is_backward = record {
  left = if is_empty then [] else (if is_past then p.before ++ p.here ∷ [] else p.before);
  right = if is_empty then [] else (if is_past then p.after else p.here ∷ p.after);
  is_backward = is_backward;
}
