-- A leaf of a tree, seen as a position among the leaves.
use Rattle.std.specs.Prelude.{◌≡◌, ℕ, ◌<◌, ◌≤◌, List, [], ◌∷◌, ◌++◌, Bool, if◌then◌else◌}
use Rattle.std.specs.Bool.{MatchBool}
use Rattle.std.specs.List.{concat}
use Rattle.rope_text.specs.declared.line_breaks.LineBreaks.{LineBreaks}
use Rattle.rope_text.specs.declared.text_info.TextInfo.{TextInfo}
use Rattle.rope_text.specs.TextInfo.{info_of}
use Rattle.rope_leaf.specs.declared.search.Unit.{Unit}
use Rattle.rope_leaf.specs.Search.{count_of}

-- the leaves before a leaf, that leaf, and those after it
pub record Place : Type 0 where
  pub before : List (List ℕ)
  pub here : List ℕ
  pub after : List (List ℕ)

-- all of them
abbrev pub leaves : Place → List (List ℕ)
leaves p = p.before ++ (p.here ∷ p.after)

-- the next leaf
pub record IsNext (old new : Place) : Type 0 where
  pub before : new.before ≡ old.before ++ old.here ∷ []
  pub after : old.after ≡ new.here ∷ new.after

-- the next leaf, or backward the previous one
abbrev pub IsBeside : Bool → Place → Place → Type 0
IsBeside is_backward old new = MatchBool is_backward (IsNext new old) (IsNext old new)

-- there is none
abbrev pub IsLast : Bool → Place → Type 0
IsLast is_backward p = (if is_backward then p.before else p.after) ≡ []

-- the leaf here contains an index of the text of all the leaves, counted in a unit; `info` are the
-- counts of the text before it
pub record HoldsPlace (unit : Unit) (breaks : LineBreaks) (at : ℕ) (before : List (List ℕ))
    (here : List ℕ) (info : TextInfo) : Type 0 where
  pub info_is : info ≡ info_of breaks (concat before)
  pub not_past : count_of unit info ≤ at
  pub past : at < count_of unit (info_of breaks (concat before ++ here))
