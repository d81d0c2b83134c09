-- The composition of runs of operations.
use Rattle.std.proofs.Common.{◌≡◌, ℕ, zero, suc, ◌≤◌, List, [], ◌∷◌, length, refl, ap, sym, arith}
use Rattle.rope_changes.specs.Ops.{Op, keep, delete, insert, len_before, len_after}
use Rattle.rope_changes.specs.Combined.{onto_kept, onto_inserted, compose}
use Rattle.rope_changes.specs.Change.{keeping, deleting, inserting}

pub compose_deleting : (n : ℕ) (a b : List Op) → compose (deleting n a) b ≡ deleting n (compose a b)
compose_deleting zero a b = refl
compose_deleting (suc n) a b = ap (λ u. delete ∷ u) (compose_deleting n a b)

onto_kept_inserting : (k : List Op → List Op) (t : List ℕ) (b : List Op)
    → onto_kept k (inserting t b) ≡ inserting t (onto_kept k b)
onto_kept_inserting k [] b = refl
onto_kept_inserting k (c ∷ t) b = ap (λ u. insert c ∷ u) (onto_kept_inserting k t b)

onto_inserted_inserting : (x : ℕ) (k : List Op → List Op) (t : List ℕ) (b : List Op)
    → onto_inserted x k (inserting t b) ≡ inserting t (onto_inserted x k b)
onto_inserted_inserting x k [] b = refl
onto_inserted_inserting x k (c ∷ t) b = ap (λ u. insert c ∷ u) (onto_inserted_inserting x k t b)

-- a text that the later change inserts before a character that the earlier one keeps or inserts, or
-- at the end
pub compose_inserting_kept : (n : ℕ) (t : List ℕ) (a b : List Op) → 1 ≤ n
    → compose (keeping n a) (inserting t b) ≡ inserting t (compose (keeping n a) b)
compose_inserting_kept zero t a b some = absurd (omega arith)
compose_inserting_kept (suc n) t a b some = onto_kept_inserting (compose (keeping n a)) t b

pub compose_inserting_inserted : (s t : List ℕ) (a b : List Op) → 1 ≤ length s
    → compose (inserting s a) (inserting t b) ≡ inserting t (compose (inserting s a) b)
compose_inserting_inserted [] t a b some = absurd (omega arith)
compose_inserting_inserted (c ∷ s) t a b some =
    onto_inserted_inserting c (compose (inserting s a)) t b

pub compose_kept_kept : (n : ℕ) (a b : List Op)
    → compose (keeping n a) (keeping n b) ≡ keeping n (compose a b)
compose_kept_kept zero a b = refl
compose_kept_kept (suc n) a b = ap (λ u. keep ∷ u) (compose_kept_kept n a b)

pub compose_kept_deleted : (n : ℕ) (a b : List Op)
    → compose (keeping n a) (deleting n b) ≡ deleting n (compose a b)
compose_kept_deleted zero a b = refl
compose_kept_deleted (suc n) a b = ap (λ u. delete ∷ u) (compose_kept_deleted n a b)

pub compose_inserted_kept : (s : List ℕ) (a b : List Op)
    → compose (inserting s a) (keeping (length s) b) ≡ inserting s (compose a b)
compose_inserted_kept [] a b = refl
compose_inserted_kept (c ∷ s) a b = ap (λ u. insert c ∷ u) (compose_inserted_kept s a b)

pub compose_inserted_deleted : (s : List ℕ) (a b : List Op)
    → compose (inserting s a) (deleting (length s) b) ≡ compose a b
compose_inserted_deleted [] a b = refl
compose_inserted_deleted (c ∷ s) a b = compose_inserted_deleted s a b

-- the lengths of a composition
onto_kept_before : (k : List Op → List Op) (b : List Op) (n m : ℕ) → suc m ≡ len_before b
    → ((c : List Op) → m ≡ len_before c → len_before (k c) ≡ n) → len_before (onto_kept k b) ≡ suc n
onto_kept_before k [] n m meet h = absurd (omega arith)
onto_kept_before k (keep ∷ b) n m meet h = ap suc (h b (omega arith))
onto_kept_before k (delete ∷ b) n m meet h = ap suc (h b (omega arith))
onto_kept_before k (insert c ∷ b) n m meet h = onto_kept_before k b n m meet h

onto_inserted_before : (x : ℕ) (k : List Op → List Op) (b : List Op) (n m : ℕ)
    → suc m ≡ len_before b → ((c : List Op) → m ≡ len_before c → len_before (k c) ≡ n)
    → len_before (onto_inserted x k b) ≡ n
onto_inserted_before x k [] n m meet h = absurd (omega arith)
onto_inserted_before x k (keep ∷ b) n m meet h = h b (omega arith)
onto_inserted_before x k (delete ∷ b) n m meet h = h b (omega arith)
onto_inserted_before x k (insert c ∷ b) n m meet h = onto_inserted_before x k b n m meet h

pub compose_before : (a b : List Op) → len_after a ≡ len_before b
    → len_before (compose a b) ≡ len_before a
compose_before [] b meet = sym meet
compose_before (keep ∷ a) b meet =
    onto_kept_before (compose a) b (len_before a) (len_after a) meet (compose_before a)
compose_before (delete ∷ a) b meet = ap suc (compose_before a b meet)
compose_before (insert x ∷ a) b meet =
    onto_inserted_before x (compose a) b (len_before a) (len_after a) meet (compose_before a)

onto_kept_after : (k : List Op → List Op) (b : List Op) (m : ℕ) → suc m ≡ len_before b
    → ((c : List Op) → m ≡ len_before c → len_after (k c) ≡ len_after c)
    → len_after (onto_kept k b) ≡ len_after b
onto_kept_after k [] m meet h = absurd (omega arith)
onto_kept_after k (keep ∷ b) m meet h = ap suc (h b (omega arith))
onto_kept_after k (delete ∷ b) m meet h = h b (omega arith)
onto_kept_after k (insert c ∷ b) m meet h = ap suc (onto_kept_after k b m meet h)

onto_inserted_after : (x : ℕ) (k : List Op → List Op) (b : List Op) (m : ℕ) → suc m ≡ len_before b
    → ((c : List Op) → m ≡ len_before c → len_after (k c) ≡ len_after c)
    → len_after (onto_inserted x k b) ≡ len_after b
onto_inserted_after x k [] m meet h = absurd (omega arith)
onto_inserted_after x k (keep ∷ b) m meet h = ap suc (h b (omega arith))
onto_inserted_after x k (delete ∷ b) m meet h = h b (omega arith)
onto_inserted_after x k (insert c ∷ b) m meet h = ap suc (onto_inserted_after x k b m meet h)

pub compose_after : (a b : List Op) → len_after a ≡ len_before b
    → len_after (compose a b) ≡ len_after b
compose_after [] b meet = refl
compose_after (keep ∷ a) b meet = onto_kept_after (compose a) b (len_after a) meet (compose_after a)
compose_after (delete ∷ a) b meet = compose_after a b meet
compose_after (insert x ∷ a) b meet =
    onto_inserted_after x (compose a) b (len_after a) meet (compose_after a)
