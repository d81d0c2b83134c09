-- The number of items that a cursor still gives.
use Rattle.std.specs.Prelude.{◌≡◌, ℕ, Option, Some, IfSome, length}
use Rattle.std.specs.Iterator.{UpTo, item_count}
use Rattle.std.specs.Iterator.SizeHint.{IsWithinCount}
use Rattle.rope_text.specs.Sides.{Sides, ahead}

-- both bounds are the number of the items ahead, as the library requires of bounds
pub record CountsAhead {X : Type 0} (s : Sides X) (least : ℕ) (most : Option ℕ) : Type 0 where
  pub lower : IsWithinCount least (item_count ahead s)
  pub upper : IfSome most (UpTo (item_count ahead s))
  pub exact : least ≡ length (ahead s)
  pub exact_upper : most ≡ Some (length (ahead s))
