-- Leaves without those of a removal over several leaves.
use Rattle.std.specs.Prelude.{◌≡◌, ℕ, ◌+◌, ◌≤◌, List, ◌++◌, length, take, drop}
use Rattle.std.specs.List.{concat}
use Rattle.rope_leaf.specs.Leaves.{AreLeaves}

-- the leaves of the text before the character `at`: the first ones are those of the whole text
pub record KeepsFront (at : ℕ) (old new : List (List ℕ)) : Type 0 where
  pub before : List (List ℕ)
  pub gone : List (List ℕ)
  pub kept : List (List ℕ)
  pub old_is : old ≡ before ++ gone
  pub new_is : new ≡ before ++ kept
  pub some : 1 ≤ length before
  pub within : at ≤ length (concat old)
  pub text_is : concat new ≡ take at (concat old)

-- the leaves of the text from the character `at` on: the last ones are those of the whole text
pub record KeepsBack (at : ℕ) (old new : List (List ℕ)) : Type 0 where
  pub gone : List (List ℕ)
  pub kept : List (List ℕ)
  pub after : List (List ℕ)
  pub old_is : old ≡ gone ++ after
  pub new_is : new ≡ kept ++ after
  pub some : 1 ≤ length after
  pub within : at ≤ length (concat old)
  pub text_is : concat new ≡ drop at (concat old)

-- leaves of the text of one list before the character `start`, and of that of another from the
-- character `end` on
pub record AreParted (start end : ℕ) (left right new : List (List ℕ)) : Type 0 where
  pub front : List (List ℕ)
  pub back : List (List ℕ)
  pub is_front : KeepsFront start left front
  pub is_back : KeepsBack end right back
  pub new_is : new ≡ front ++ back
  pub leaves : AreLeaves new

-- the leaves without the characters from `start` up to `end`
pub record AreWithout (start end : ℕ) (old new : List (List ℕ)) : Type 0 where
  pub left : List (List ℕ)
  pub between : List (List ℕ)
  pub right : List (List ℕ)
  pub from : ℕ
  pub old_is : old ≡ left ++ (between ++ right)
  pub end_is : end ≡ length (concat left) + (length (concat between) + from)
  pub parted : AreParted start from left right new
