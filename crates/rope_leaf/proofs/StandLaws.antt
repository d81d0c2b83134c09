-- Leaves that replace others, between unchanged neighbours.
use Rattle.std.proofs.Common.{◌≡◌, ℕ, ◌≤◌, min, List, [], ◌∷◌, ◌++◌, length, refl, arith}
use Rattle.std.specs.List.{All}
use Rattle.rope_text.specs.Text.{byte_len}
use Rattle.rope_text.specs.Dense.{AreDense, last_bytes}
use Rattle.rope_text.proofs.DenseLaws.{last_bytes-append, last_bytes_least, dense-append, dense_left, dense_right, dense_after_half, dense_after_fewer}
use Rattle.rope_leaf.specs.Leaves.{StandFor, IsEnoughAfter, IsEnoughAhead}
use Rattle.rope_leaf.specs.Tree.{one_leaf}

-- one leaf that replaces another
stand_alone : (first last : ℕ) (old new : List ℕ) → min first (byte_len old) ≤ byte_len new
    → min last (byte_len old) ≤ byte_len new → StandFor first last (old ∷ []) (new ∷ [])
stand_alone first last old new kept here =
    record { after = λ n half a. (omega (arith, a.0), tt); ahead = λ n. here }

-- two leaves that replace one
stand_two : (old front back : List ℕ) → 491 ≤ byte_len front → 491 ≤ byte_len back
    → StandFor 491 491 (old ∷ []) (front ∷ back ∷ [])
stand_two old front back first second =
    record { after = λ n half a. (omega arith, (omega arith, tt)); ahead = λ n. omega arith }

pub one_leaf_is : (x : List ℕ) → 1 ≤ length x → one_leaf x ≡ x ∷ []
one_leaf_is [] some = absurd (omega arith)
one_leaf_is (c ∷ cs) some = refl

pub leaf_stands : (first last : ℕ) (old new : List ℕ) → 1 ≤ length new
    → min first (byte_len old) ≤ byte_len new → min last (byte_len old) ≤ byte_len new
    → 1 ≤ length (one_leaf old) → StandFor first last (one_leaf old) (one_leaf new)
leaf_stands first last [] new some kept here there = absurd (omega arith)
leaf_stands first last (c ∷ cs) new some kept here there =
    rw (one_leaf_is new some) (stand_alone first last (c ∷ cs) new kept here)

pub leaves_stand : (old front back : List ℕ) (xs : List (List ℕ)) → xs ≡ front ∷ back ∷ []
    → 491 ≤ byte_len front → 491 ≤ byte_len back → 1 ≤ length (one_leaf old)
    → StandFor 491 491 (one_leaf old) xs
leaves_stand [] front back xs is first second there = absurd (omega arith)
leaves_stand (c ∷ cs) front back xs is first second there =
    rw is (stand_two (c ∷ cs) front back first second)

-- half a leaf is enough beside any leaf
pub half_after : (xs : List (List ℕ)) → All (λ leaf. 1 ≤ byte_len leaf) xs
    → IsEnoughAfter 491 491 xs
half_after xs each = λ n some. omega (arith, last_bytes_least n xs (omega arith) each)

pub half_ahead : (ys : List (List ℕ)) → All (λ leaf. 1 ≤ byte_len leaf) ys → AreDense ys
    → IsEnoughAhead 491 491 ys
half_ahead ys each dense = record {
  dense = dense_after_half 491 ys (omega arith) each dense;
  at_end = λ _. omega arith;
}

ahead_kept : (wanted last m n : ℕ) (ys : List (List ℕ)) → min last m ≤ n
    → (length ys ≡ 0 → wanted ≤ last) → min wanted (last_bytes m ys) ≤ last_bytes n ys
ahead_kept wanted last m n [] kept more = omega (arith, more refl)
ahead_kept wanted last m n (y ∷ ys) kept more = omega arith

-- leaves that replace others, between neighbours that they are long enough for
pub stand_between : (wanted ahead first last : ℕ) (xs old new ys : List (List ℕ))
    → IsEnoughAfter wanted first xs → IsEnoughAhead ahead last ys → StandFor first last old new
    → StandFor wanted ahead (xs ++ (old ++ ys)) (xs ++ (new ++ ys))
stand_between wanted ahead first last xs old new ys b e s = record {
  after = λ n half a.
      let before = last_bytes n xs in
      let here = dense_right n xs (old ++ ys) a in
      let own = s.after before (b n half) (dense_left before old ys here) in
      let rest =
      dense_after_fewer last (last_bytes before old) (last_bytes before new) ys (s.ahead before)
      e.dense (dense_right before old ys here) in
      dense-append n xs (new ++ ys) (dense_left n xs (old ++ ys) a)
      (dense-append before new ys own rest);
  ahead = λ n.
      let before = last_bytes n xs in
      rw (
        last_bytes-append n xs (old ++ ys),
        last_bytes-append before old ys,
        last_bytes-append n xs (new ++ ys),
        last_bytes-append before new ys,
      )
      (ahead_kept ahead last (last_bytes before old) (last_bytes before new) ys (s.ahead before)
      e.at_end);
}
