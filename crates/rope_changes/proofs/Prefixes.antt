-- What operations in a row do: those that keep, delete or insert, and then others.
use Rattle.std.proofs.Common.{◌≡◌, ℕ, zero, suc, ◌+◌, ◌-◌, ◌<◌, ◌≤◌, List, [], ◌∷◌, length, refl, ap, sym, arith}
use Rattle.rope_changes.specs.Ops.{Op, len_before, len_after}
use Rattle.rope_changes.specs.Moved.{moved}
use Rattle.rope_changes.specs.Change.{keeping, deleting, inserting}
use Rattle.rope_changes.specs.declared.side.Side.{Side}
use Rattle.rope_changes.specs.declared.side.Side.TheVariants.{Before, After}
use Rattle.rope_changes.proofs.MovedLaws.{moved_zero}

pub keeping_before : (n : ℕ) (ops : List Op) → len_before (keeping n ops) ≡ n + len_before ops
keeping_before zero ops = omega arith
keeping_before (suc n) ops = omega (arith, keeping_before n ops)

pub deleting_before : (n : ℕ) (ops : List Op) → len_before (deleting n ops) ≡ n + len_before ops
deleting_before zero ops = omega arith
deleting_before (suc n) ops = omega (arith, deleting_before n ops)

pub inserting_before : (text : List ℕ) (ops : List Op)
    → len_before (inserting text ops) ≡ len_before ops
inserting_before [] ops = refl
inserting_before (c ∷ text) ops = inserting_before text ops

pub keeping_after : (n : ℕ) (ops : List Op) → len_after (keeping n ops) ≡ n + len_after ops
keeping_after zero ops = omega arith
keeping_after (suc n) ops = omega (arith, keeping_after n ops)

pub deleting_after : (n : ℕ) (ops : List Op) → len_after (deleting n ops) ≡ len_after ops
deleting_after zero ops = refl
deleting_after (suc n) ops = deleting_after n ops

pub inserting_after : (text : List ℕ) (ops : List Op)
    → len_after (inserting text ops) ≡ length text + len_after ops
inserting_after [] ops = omega arith
inserting_after (c ∷ text) ops = omega (arith, inserting_after text ops)

-- an index among kept characters stays among them
pub kept_stays : (side : Side) (n i : ℕ) (ops : List Op) → i < n → moved side (keeping n ops) i ≡ i
kept_stays side zero i ops le = absurd (omega arith)
kept_stays Before (suc n) zero ops le = refl
kept_stays After (suc n) zero ops le = refl
kept_stays Before (suc n) (suc i) ops le = ap suc (kept_stays Before n i ops (omega arith))
kept_stays After (suc n) (suc i) ops le = ap suc (kept_stays After n i ops (omega arith))

pub kept_passed : (side : Side) (n i : ℕ) (ops : List Op) → n ≤ i
    → moved side (keeping n ops) i ≡ n + moved side ops (i - n)
kept_passed Before zero i ops le = let e : i - 0 ≡ i = omega arith in rw e (omega arith)
kept_passed After zero i ops le = let e : i - 0 ≡ i = omega arith in rw e (omega arith)
kept_passed side (suc n) zero ops le = absurd (omega arith)
kept_passed Before (suc n) (suc i) ops le = let e : suc i - suc n ≡ i - n = omega arith in
    rw e (omega (arith, kept_passed Before n i ops (omega arith)))
kept_passed After (suc n) (suc i) ops le = let e : suc i - suc n ≡ i - n = omega arith in
    rw e (omega (arith, kept_passed After n i ops (omega arith)))

pub inserted_passed_after : (text : List ℕ) (i : ℕ) (ops : List Op)
    → moved After (inserting text ops) i ≡ length text + moved After ops i
inserted_passed_after [] i ops = omega arith
inserted_passed_after (c ∷ text) i ops = omega (arith, inserted_passed_after text i ops)

pub inserted_passed : (side : Side) (text : List ℕ) (i : ℕ) (ops : List Op) → 1 ≤ i
    → moved side (inserting text ops) i ≡ length text + moved side ops i
inserted_passed After text i ops some = inserted_passed_after text i ops
inserted_passed Before [] i ops some = omega arith
inserted_passed Before (c ∷ text) zero ops some = absurd (omega arith)
inserted_passed Before (c ∷ text) (suc i) ops some =
    omega (arith, inserted_passed Before text (suc i) ops some)

pub deleted_passed : (side : Side) (n i : ℕ) (ops : List Op)
    → moved side (deleting n ops) i ≡ moved side ops (i - n)
deleted_passed side zero i ops = let e : i - 0 ≡ i = omega arith in rw e refl
deleted_passed Before (suc n) zero ops = let e : 0 - suc n ≡ 0 = omega arith in
    rw e (sym (moved_zero ops))
deleted_passed After (suc n) zero ops = let e : 0 - suc n ≡ 0 - n = omega arith in
    rw e (deleted_passed After n zero ops)
deleted_passed Before (suc n) (suc i) ops = let e : suc i - suc n ≡ i - n = omega arith in
    rw e (deleted_passed Before n i ops)
deleted_passed After (suc n) (suc i) ops = let e : suc i - suc n ≡ i - n = omega arith in
    rw e (deleted_passed After n i ops)

-- an index among the last characters, or at the end
pub rest_stays : (side : Side) (n i : ℕ) → i ≤ n → moved side (keeping n []) i ≡ i
rest_stays Before zero zero le = refl
rest_stays After zero zero le = refl
rest_stays side zero (suc i) le = absurd (omega arith)
rest_stays Before (suc n) zero le = refl
rest_stays After (suc n) zero le = refl
rest_stays Before (suc n) (suc i) le = ap suc (rest_stays Before n i (omega arith))
rest_stays After (suc n) (suc i) le = ap suc (rest_stays After n i (omega arith))
