-- The leaves ahead whose bytes are not passed yet.
use Rattle.std.specs.Prelude.{ℕ, Option, None, Some, List, []}
use Rattle.rope_slice.specs.Path.{Place}

-- the leaves after a path; none for a plain text
abbrev pub after_descent : Option Place → List (List ℕ)
after_descent None = []
after_descent (Some p) = p.after
