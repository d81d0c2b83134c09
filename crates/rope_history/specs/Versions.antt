-- The versions of a text, and the moves between them.
use Rattle.std.specs.Prelude.{◌≡◌, ◌≢◌, ℕ, ◌<◌, List, [], ◌∷◌, ◌++◌, length, Option, Some, None, slice_index_or, slice_set}
use Rattle.std.specs.List.{All}
use Rattle.std.specs.Option.{option_map}
use Rattle.rope_changes.specs.Change.{Change, before, after}
use Rattle.rope_changes.specs.Built.{unchanged}
use Rattle.rope_changes.specs.Inverted.{inverted}
use Rattle.rope_history.specs.declared.history.Version.{Version}

-- the versions, in the order in which they were made; for each of them the version to which `redo`
-- leads; and the current version
pub record Versions : Type 0 where
  pub versions : List Version
  pub redo : List (Option ℕ)
  pub current : ℕ

-- a version that changes nothing in a text of `len` characters, and has no parent
abbrev pub root : ℕ → Version
root len = record { parent = None; change = unchanged len; inverse = unchanged len }

-- a version by its number
abbrev pub version_at : Versions → ℕ → Version
version_at h v = slice_index_or h.versions v (root 0)

-- the version that a version was made of
abbrev pub parent_of : Versions → ℕ → Option ℕ
parent_of h v = (version_at h v).parent

-- the version to which `redo` leads
abbrev pub redo_of : Versions → ℕ → Option ℕ
redo_of h v = slice_index_or h.redo v None

-- the length of the text of the current version
abbrev pub len_of : Versions → ℕ
len_of h = after (version_at h h.current).change

-- the only version, of a text of `len` characters
abbrev pub first_version : ℕ → Versions
first_version len = record { versions = root len ∷ []; redo = None ∷ []; current = 0 }

-- with a child of the current version, which is then the current one
abbrev pub with_child : Versions → Change → Change → Versions
with_child h change inverse =
    record {
      versions = h.versions
          ++ record { parent = Some h.current; change = change; inverse = inverse } ∷ [];
      redo = h.redo ++ None ∷ [];
      current = length h.versions;
    }

-- with a change of a text, and its inverse, as a child of the current version
abbrev pub committed : Versions → Change → List ℕ → Versions
committed h change text = with_child h change (inverted change text)

-- back at a parent, from which `redo` leads to the version that was left
abbrev pub back_at : Versions → Option ℕ → Versions
back_at h None = h
back_at h (Some parent) =
    record {
      versions = h.versions;
      redo = slice_set h.redo parent (Some h.current);
      current = parent;
    }

abbrev pub undone : Versions → Versions
undone h = back_at h (parent_of h h.current)

-- the version that `undo` leaves
abbrev pub left_by_undo : Versions → Option ℕ
left_by_undo h = option_map (λ _. h.current) (parent_of h h.current)

-- at a version, if there is one
abbrev pub standing_at : Versions → Option ℕ → Versions
standing_at h None = h
standing_at h (Some v) = record { versions = h.versions; redo = h.redo; current = v }

abbrev pub redone : Versions → Versions
redone h = standing_at h (redo_of h h.current)

-- the change to a parent: the inverse of the current version; without one, no change
abbrev pub change_to_parent : Versions → Option ℕ → Change
change_to_parent h None = unchanged (len_of h)
change_to_parent h (Some parent) = (version_at h h.current).inverse

-- the change that `undo` applies
abbrev pub change_back : Versions → Change
change_back h = change_to_parent h (parent_of h h.current)

-- the change to a child; without one, no change
abbrev pub change_to_child : Versions → Option ℕ → Change
change_to_child h None = unchanged (len_of h)
change_to_child h (Some child) = (version_at h child).change

-- the change that `redo` applies
abbrev pub change_ahead : Versions → Change
change_ahead h = change_to_child h (redo_of h h.current)

-- the current version is one of them, each parent comes before its children, the first version
-- alone has none, a change begins at the length at which the parent's ends, an inverse begins and
-- ends where its change ends and begins, and `redo` leads to children
pub record IsHistory (h : Versions) : Type 0 where
  pub within : h.current < length h.versions
  pub marked : length h.redo ≡ length h.versions
  pub earlier : (v p : ℕ) → v < length h.versions → parent_of h v ≡ Some p → p < v
  pub rooted : (v : ℕ) → v < length h.versions → parent_of h v ≡ None → v ≡ 0
  pub follows : (v p : ℕ) → v < length h.versions → parent_of h v ≡ Some p
      → before (version_at h v).change ≡ after (version_at h p).change
  pub inverses : (v : ℕ) → v < length h.versions
      → before (version_at h v).inverse ≡ after (version_at h v).change
  pub leads_back : (v : ℕ) → v < length h.versions
      → after (version_at h v).inverse ≡ before (version_at h v).change
  pub children : (v c : ℕ) → v < length h.versions → redo_of h v ≡ Some c
      → (c < length h.versions) × (parent_of h c ≡ Some v)

-- back at one parent after the other
abbrev pub ascended : Versions → List ℕ → Versions
ascended h [] = h
ascended h (p ∷ parents) = ascended (back_at h (Some p)) parents

-- each is the parent of the version before
abbrev pub IsAscent : Versions → List ℕ → Type 0
IsAscent h [] = Unit {0}
IsAscent h (p ∷ parents) = (parent_of h h.current ≡ Some p) × IsAscent (back_at h (Some p)) parents

-- a version, its parent and so on, up to a child of the version at the top
abbrev pub IsPath : Versions → ℕ → List ℕ → ℕ → Type 0
IsPath h v [] top = v ≡ top
IsPath h v (x ∷ path) top =
    (x ≡ v) × ((p : ℕ) × ((parent_of h v ≡ Some p) × IsPath h p path top))

-- at a version, after an ascent over some parents, as by `undo`, and a descent along a path; no
-- version of the path is the old current one or one of the parents, so the ascent ends at the last
-- common ancestor
pub record GoesTo (old new : Versions) (v : ℕ) : Type 0 where
  pub parents : List ℕ
  pub up : IsAscent old parents
  pub path : List ℕ
  pub down : IsPath old v path (ascended old parents).current
  pub apart : All (λ x. All (λ y. x ≢ y) (old.current ∷ parents)) path
  pub new_is : new ≡ standing_at (ascended old parents) (Some v)
