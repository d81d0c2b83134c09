-- Runs of operations that are rebased over others.
use Rattle.std.proofs.Common.{◌≡◌, ℕ, zero, suc, ◌+◌, ◌≤◌, List, [], ◌∷◌, length, refl, ap, sym, ◌∙◌, arith}
use Rattle.rope_changes.specs.Ops.{Op, keep, delete, insert, len_before, len_after}
use Rattle.rope_changes.specs.Combined.{past_kept, past_deleted, rebase_second, over_kept, over_deleted, rebase_first}
use Rattle.rope_changes.specs.Normal.{carried}
use Rattle.rope_changes.specs.Change.{keeping, deleting, inserting}
use Rattle.rope_changes.specs.declared.side.Side.{Side}
use Rattle.rope_changes.specs.declared.side.Side.TheVariants.{Before, After}
use Rattle.rope_changes.proofs.Prefixes.{keeping_before, inserting_after}
use Rattle.rope_changes.proofs.NormalLaws.{keeping_more}

-- the first of both changes inserts
pub first_inserts : (t : List ℕ) (a b : List Op)
    → rebase_first (inserting t a) b ≡ inserting t (rebase_first a b)
first_inserts [] a b = refl
first_inserts (c ∷ t) a b = ap (λ u. insert c ∷ u) (first_inserts t a b)

pub over_first : (t : List ℕ) (a b : List Op)
    → rebase_second (inserting t b) a ≡ keeping (length t) (rebase_second b a)
over_first [] a b = refl
over_first (c ∷ t) a b = ap (λ u. keep ∷ u) (over_first t a b)

-- the second one inserts, where the first one does not
past_kept_inserting : (k : List Op → List Op) (t : List ℕ) (a : List Op)
    → past_kept k (inserting t a) ≡ inserting t (past_kept k a)
past_kept_inserting k [] a = refl
past_kept_inserting k (c ∷ t) a = ap (λ u. insert c ∷ u) (past_kept_inserting k t a)

past_deleted_inserting : (k : List Op → List Op) (t : List ℕ) (a : List Op)
    → past_deleted k (inserting t a) ≡ inserting t (past_deleted k a)
past_deleted_inserting k [] a = refl
past_deleted_inserting k (c ∷ t) a = ap (λ u. insert c ∷ u) (past_deleted_inserting k t a)

over_kept_inserting : (k : List Op → List Op) (t : List ℕ) (b : List Op)
    → over_kept k (inserting t b) ≡ keeping (length t) (over_kept k b)
over_kept_inserting k [] b = refl
over_kept_inserting k (c ∷ t) b = ap (λ u. keep ∷ u) (over_kept_inserting k t b)

over_deleted_inserting : (k : List Op → List Op) (t : List ℕ) (b : List Op)
    → over_deleted k (inserting t b) ≡ keeping (length t) (over_deleted k b)
over_deleted_inserting k [] b = refl
over_deleted_inserting k (c ∷ t) b = ap (λ u. keep ∷ u) (over_deleted_inserting k t b)

pub own_second : (n d : ℕ) (t : List ℕ) (a b : List Op) → 1 ≤ n + d
    → rebase_second (keeping n (deleting d b)) (inserting t a)
    ≡ inserting t (rebase_second (keeping n (deleting d b)) a)
own_second zero zero t a b some = absurd (omega arith)
own_second zero (suc d) t a b some = past_deleted_inserting (rebase_second (deleting d b)) t a
own_second (suc n) d t a b some = past_kept_inserting (rebase_second (keeping n (deleting d b))) t a

pub over_second : (n d : ℕ) (t : List ℕ) (a b : List Op) → 1 ≤ n + d
    → rebase_first (keeping n (deleting d a)) (inserting t b)
    ≡ keeping (length t) (rebase_first (keeping n (deleting d a)) b)
over_second zero zero t a b some = absurd (omega arith)
over_second zero (suc d) t a b some = over_deleted_inserting (rebase_first (deleting d a)) t b
over_second (suc n) d t a b some = over_kept_inserting (rebase_first (keeping n (deleting d a))) t b

pub over_at_end : (t : List ℕ) (b : List Op)
    → rebase_first [] (inserting t b) ≡ keeping (length t) (rebase_first [] b)
over_at_end t b =
    ap (λ n. keeping n []) (inserting_after t b) ∙ keeping_more (length t) (len_after b) []

-- characters that both keep or delete
pub both_kept : (side : Side) (n : ℕ) (a b : List Op) → carried side (keeping n a) (keeping n b)
    ≡ keeping n (carried side a b)
both_kept Before zero a b = refl
both_kept Before (suc n) a b = ap (λ u. keep ∷ u) (both_kept Before n a b)
both_kept After zero a b = refl
both_kept After (suc n) a b = ap (λ u. keep ∷ u) (both_kept After n a b)

pub own_deleted : (side : Side) (n : ℕ) (a b : List Op) → carried side (deleting n a) (keeping n b)
    ≡ deleting n (carried side a b)
own_deleted Before zero a b = refl
own_deleted Before (suc n) a b = ap (λ u. delete ∷ u) (own_deleted Before n a b)
own_deleted After zero a b = refl
own_deleted After (suc n) a b = ap (λ u. delete ∷ u) (own_deleted After n a b)

pub over_deleted_kept : (side : Side) (n : ℕ) (a b : List Op)
    → carried side (keeping n a) (deleting n b) ≡ carried side a b
over_deleted_kept Before zero a b = refl
over_deleted_kept Before (suc n) a b = over_deleted_kept Before n a b
over_deleted_kept After zero a b = refl
over_deleted_kept After (suc n) a b = over_deleted_kept After n a b

pub both_deleted : (side : Side) (n : ℕ) (a b : List Op)
    → carried side (deleting n a) (deleting n b) ≡ carried side a b
both_deleted Before zero a b = refl
both_deleted Before (suc n) a b = both_deleted Before n a b
both_deleted After zero a b = refl
both_deleted After (suc n) a b = both_deleted After n a b

-- the length of the text that a rebased change is of
module _ (k : List Op → List Op) (m : ℕ) where
  over_kept_before : (b : List Op) → suc m ≡ len_before b
      → ((c : List Op) → m ≡ len_before c → len_before (k c) ≡ len_after c)
      → len_before (over_kept k b) ≡ len_after b
  over_kept_before [] meet h = absurd (omega arith)
  over_kept_before (keep ∷ b) meet h = ap suc (h b (omega arith))
  over_kept_before (delete ∷ b) meet h = h b (omega arith)
  over_kept_before (insert c ∷ b) meet h = ap suc (over_kept_before b meet h)

  over_deleted_before : (b : List Op) → suc m ≡ len_before b
      → ((c : List Op) → m ≡ len_before c → len_before (k c) ≡ len_after c)
      → len_before (over_deleted k b) ≡ len_after b
  over_deleted_before [] meet h = absurd (omega arith)
  over_deleted_before (keep ∷ b) meet h = ap suc (h b (omega arith))
  over_deleted_before (delete ∷ b) meet h = h b (omega arith)
  over_deleted_before (insert c ∷ b) meet h = ap suc (over_deleted_before b meet h)

  past_kept_before : (a : List Op) (n : ℕ) → suc m ≡ len_before a
      → ((c : List Op) → m ≡ len_before c → len_before (k c) ≡ n)
      → len_before (past_kept k a) ≡ suc n
  past_kept_before [] n meet h = absurd (omega arith)
  past_kept_before (keep ∷ a) n meet h = ap suc (h a (omega arith))
  past_kept_before (delete ∷ a) n meet h = ap suc (h a (omega arith))
  past_kept_before (insert c ∷ a) n meet h = past_kept_before a n meet h

  past_deleted_before : (a : List Op) (n : ℕ) → suc m ≡ len_before a
      → ((c : List Op) → m ≡ len_before c → len_before (k c) ≡ n)
      → len_before (past_deleted k a) ≡ n
  past_deleted_before [] n meet h = absurd (omega arith)
  past_deleted_before (keep ∷ a) n meet h = h a (omega arith)
  past_deleted_before (delete ∷ a) n meet h = h a (omega arith)
  past_deleted_before (insert c ∷ a) n meet h = past_deleted_before a n meet h

first_before : (a b : List Op) → len_before a ≡ len_before b
    → len_before (rebase_first a b) ≡ len_after b
first_before [] b meet = omega (arith, keeping_before (len_after b) [])
first_before (keep ∷ a) b meet =
    over_kept_before (rebase_first a) (len_before a) b meet (first_before a)
first_before (delete ∷ a) b meet =
    over_deleted_before (rebase_first a) (len_before a) b meet (first_before a)
first_before (insert c ∷ a) b meet = first_before a b meet

second_before : (b a : List Op) → len_before b ≡ len_before a
    → len_before (rebase_second b a) ≡ len_after b
second_before [] a meet = sym meet
second_before (keep ∷ b) a meet =
    past_kept_before (rebase_second b) (len_before b) a (len_after b) meet (second_before b)
second_before (delete ∷ b) a meet =
    past_deleted_before (rebase_second b) (len_before b) a (len_after b) meet (second_before b)
second_before (insert c ∷ b) a meet = ap suc (second_before b a meet)

pub carried_before : (side : Side) (own over : List Op) → len_before own ≡ len_before over
    → len_before (carried side own over) ≡ len_after over
carried_before Before own over meet = first_before own over meet
carried_before After own over meet = second_before over own (sym meet)
