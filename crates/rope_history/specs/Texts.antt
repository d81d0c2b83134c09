-- The texts of the versions, from a first text on.
use Rattle.std.specs.Prelude.{◌≡◌, ◌⊎◌, ◌+◌, ◌≤◌, ◌^◌, ℕ, List, [], ◌∷◌, ◌++◌, length, Option, Some, None, slice_index_or}
use Rattle.rope_text.specs.Text.{byte_len}
use Rattle.rope_changes.specs.Applied.{inserted_bytes}
use Rattle.rope_changes.specs.Ops.{run}
use Rattle.rope_changes.specs.Change.{Change, ops, before}
use Rattle.rope_changes.specs.Inverted.{inverted}
use Rattle.rope_history.specs.declared.history.Version.{Version}
use Rattle.rope_history.specs.Versions.{Versions, IsPath, IsAscent, ascended, parent_of, version_at}

-- the text that a version was made of: its parent's text, or the first one
abbrev pub source : List ℕ → List (List ℕ) → Option ℕ → List ℕ
source first texts None = first
source first texts (Some parent) = slice_index_or texts parent first

-- the text of a version: the one that it was made of, with its change run on it
abbrev pub text_of : List ℕ → List (List ℕ) → Version → List ℕ
text_of first texts v = run (ops v.change) (source first texts v.parent)

-- the texts of versions, each after the texts of those before it
abbrev pub texts_of : List ℕ → List (List ℕ) → List Version → List (List ℕ)
texts_of first texts [] = texts
texts_of first texts (v ∷ versions) = texts_of first (texts ++ text_of first texts v ∷ []) versions

-- the text of a version by its number
abbrev pub text_at : List ℕ → Versions → ℕ → List ℕ
text_at first h v = slice_index_or (texts_of first [] h.versions) v first

-- the text that a version by its number was made of
abbrev pub text_before : List ℕ → Versions → ℕ → List ℕ
text_before first h v = source first (texts_of first [] h.versions) (parent_of h v)

-- the change is one of this text, and the inverse leads back to it
pub record IsStep (text : List ℕ) (v : Version) : Type 0 where
  pub before_is : before v.change ≡ length text
  pub inverse_is : v.inverse ≡ inverted v.change text

-- each version is a step from the text that it was made of
abbrev pub AreSteps : List ℕ → List (List ℕ) → List Version → Type 0
AreSteps first texts [] = Unit {0}
AreSteps first texts (v ∷ versions) =
    IsStep (source first texts v.parent) v
    × AreSteps first (texts ++ text_of first texts v ∷ []) versions

-- the versions are steps from a first text on, and the text is the one of the current version
pub record StandsAt (first : List ℕ) (h : Versions) (text : List ℕ) : Type 0 where
  pub steps : AreSteps first [] h.versions
  pub text_is : text ≡ text_at first h h.current

-- a text and the texts that a change inserts have more bytes together than a text may have
abbrev pub IsTooLong : List ℕ → Change → Type 0
IsTooLong text c = 2 ^ 63 ≤ byte_len text + inserted_bytes c.edits

-- after some steps by `undo`, the next one would be too long
pub record IsTooLongUp (first : List ℕ) (h : Versions) : Type 0 where
  pub parents : List ℕ
  pub up : IsAscent h parents
  pub is : let v = (ascended h parents).current in
      IsTooLong (text_at first h v) (version_at h v).inverse

-- the step to a version, or to one that it was made of, would be too long
pub record IsTooLongDown (first : List ℕ) (h : Versions) (version : ℕ) : Type 0 where
  pub path : List ℕ
  pub parent : ℕ
  pub v : ℕ
  pub down : IsPath h version (path ++ v ∷ []) parent
  pub is : IsTooLong (text_at first h parent) (version_at h v).change

-- a step on the path from the current version to another would be too long
abbrev pub IsTooLongTo : List ℕ → Versions → ℕ → Type 0
IsTooLongTo first h version = IsTooLongUp first h ⊎ IsTooLongDown first h version
