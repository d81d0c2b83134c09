-- What normal form leaves as it is, and how normal forms are put together.
use Rattle.std.proofs.Common.{◌≡◌, ℕ, zero, suc, ◌+◌, ◌-◌, ◌≤◌, List, [], ◌∷◌, ◌++◌, length, refl, ap, sym, ◌∙◌, arith, append-nil}
use Rattle.rope_changes.specs.Ops.{Op, keep, delete, insert, run, len_before, len_after}
use Rattle.rope_changes.specs.Normal.{delete_after, normal_form}
use Rattle.rope_changes.specs.Change.{Edit, keeping, deleting, inserting, ops_of, AreApart, AreNormal}

delete_after_runs : (a : List Op) (t : List ℕ) → run (delete_after a) t ≡ run (delete ∷ a) t
delete_after_runs [] t = refl
delete_after_runs (keep ∷ a) t = refl
delete_after_runs (delete ∷ a) t = refl
delete_after_runs (insert c ∷ a) [] = ap (λ u. c ∷ u) (delete_after_runs a [])
delete_after_runs (insert c ∷ a) (x ∷ t) = ap (λ u. c ∷ u) (delete_after_runs a (x ∷ t))

pub normal_runs : (a : List Op) (t : List ℕ) → run (normal_form a) t ≡ run a t
normal_runs [] t = refl
normal_runs (keep ∷ a) [] = normal_runs a []
normal_runs (keep ∷ a) (x ∷ t) = ap (λ u. x ∷ u) (normal_runs a t)
normal_runs (delete ∷ a) [] = delete_after_runs (normal_form a) [] ∙ normal_runs a []
normal_runs (delete ∷ a) (x ∷ t) = delete_after_runs (normal_form a) (x ∷ t) ∙ normal_runs a t
normal_runs (insert c ∷ a) t = ap (λ u. c ∷ u) (normal_runs a t)

delete_after_before : (a : List Op) → len_before (delete_after a) ≡ suc (len_before a)
delete_after_before [] = refl
delete_after_before (keep ∷ a) = refl
delete_after_before (delete ∷ a) = refl
delete_after_before (insert c ∷ a) = delete_after_before a

delete_after_after : (a : List Op) → len_after (delete_after a) ≡ len_after a
delete_after_after [] = refl
delete_after_after (keep ∷ a) = refl
delete_after_after (delete ∷ a) = refl
delete_after_after (insert c ∷ a) = ap suc (delete_after_after a)

pub normal_before : (a : List Op) → len_before (normal_form a) ≡ len_before a
normal_before [] = refl
normal_before (keep ∷ a) = ap suc (normal_before a)
normal_before (delete ∷ a) = delete_after_before (normal_form a) ∙ ap suc (normal_before a)
normal_before (insert c ∷ a) = normal_before a

pub normal_after : (a : List Op) → len_after (normal_form a) ≡ len_after a
normal_after [] = refl
normal_after (keep ∷ a) = ap suc (normal_after a)
normal_after (delete ∷ a) = delete_after_after (normal_form a) ∙ normal_after a
normal_after (insert c ∷ a) = ap suc (normal_after a)

-- a part can be replaced by its normal form
delete_after_append : (a b : List Op)
    → normal_form (delete_after a ++ b) ≡ delete_after (normal_form (a ++ b))
delete_after_append [] b = refl
delete_after_append (keep ∷ a) b = refl
delete_after_append (delete ∷ a) b = refl
delete_after_append (insert c ∷ a) b = ap (λ u. insert c ∷ u) (delete_after_append a b)

pub normal_append : (a b : List Op) → normal_form (normal_form a ++ b) ≡ normal_form (a ++ b)
normal_append [] b = refl
normal_append (keep ∷ a) b = ap (λ u. keep ∷ u) (normal_append a b)
normal_append (delete ∷ a) b =
    delete_after_append (normal_form a) b ∙ ap delete_after (normal_append a b)
normal_append (insert c ∷ a) b = ap (λ u. insert c ∷ u) (normal_append a b)

pub normal_onto : (a b c : List Op) → normal_form b ≡ normal_form c
    → normal_form (a ++ b) ≡ normal_form (a ++ c)
normal_onto [] b c same = same
normal_onto (keep ∷ a) b c same = ap (λ u. keep ∷ u) (normal_onto a b c same)
normal_onto (delete ∷ a) b c same = ap delete_after (normal_onto a b c same)
normal_onto (insert x ∷ a) b c same = ap (λ u. insert x ∷ u) (normal_onto a b c same)

-- runs and then others
pub keeping_append : (n : ℕ) (a b : List Op) → keeping n a ++ b ≡ keeping n (a ++ b)
keeping_append zero a b = refl
keeping_append (suc n) a b = ap (λ u. keep ∷ u) (keeping_append n a b)

pub deleting_append : (n : ℕ) (a b : List Op) → deleting n a ++ b ≡ deleting n (a ++ b)
deleting_append zero a b = refl
deleting_append (suc n) a b = ap (λ u. delete ∷ u) (deleting_append n a b)

pub inserting_append : (t : List ℕ) (a b : List Op) → inserting t a ++ b ≡ inserting t (a ++ b)
inserting_append [] a b = refl
inserting_append (c ∷ t) a b = ap (λ u. insert c ∷ u) (inserting_append t a b)

pub keeping_more : (m n : ℕ) (a : List Op) → keeping (m + n) a ≡ keeping m (keeping n a)
keeping_more zero n a = let e : 0 + n ≡ n = omega arith in ap (λ k. keeping k a) e
keeping_more (suc m) n a =
    let e : suc m + n ≡ suc (m + n) = omega arith in ap (λ k. keeping k a) e
    ∙ ap (λ u. keep ∷ u) (keeping_more m n a)

pub deleting_more : (m n : ℕ) (a : List Op) → deleting (m + n) a ≡ deleting m (deleting n a)
deleting_more zero n a = let e : 0 + n ≡ n = omega arith in ap (λ k. deleting k a) e
deleting_more (suc m) n a =
    let e : suc m + n ≡ suc (m + n) = omega arith in ap (λ k. deleting k a) e
    ∙ ap (λ u. delete ∷ u) (deleting_more m n a)

pub inserting_more : (s t : List ℕ) (a : List Op)
    → inserting (s ++ t) a ≡ inserting s (inserting t a)
inserting_more [] t a = refl
inserting_more (c ∷ s) t a = ap (λ u. insert c ∷ u) (inserting_more s t a)

pub keeping_split : (k n : ℕ) (a : List Op) → n ≤ k → keeping k a ≡ keeping n (keeping (k - n) a)
keeping_split k n a le =
    let e : k ≡ n + (k - n) = omega arith in ap (λ m. keeping m a) e ∙ keeping_more n (k - n) a

pub deleting_split : (k n : ℕ) (a : List Op) → n ≤ k
    → deleting k a ≡ deleting n (deleting (k - n) a)
deleting_split k n a le =
    let e : k ≡ n + (k - n) = omega arith in ap (λ m. deleting m a) e ∙ deleting_more n (k - n) a

-- the normal form of runs
pub normal_keeping : (n : ℕ) (a : List Op) → normal_form (keeping n a) ≡ keeping n (normal_form a)
normal_keeping zero a = refl
normal_keeping (suc n) a = ap (λ u. keep ∷ u) (normal_keeping n a)

pub normal_inserting : (t : List ℕ) (a : List Op)
    → normal_form (inserting t a) ≡ inserting t (normal_form a)
normal_inserting [] a = refl
normal_inserting (c ∷ t) a = ap (λ u. insert c ∷ u) (normal_inserting t a)

delete_after_inserting : (t : List ℕ) (a : List Op)
    → delete_after (inserting t a) ≡ inserting t (delete_after a)
delete_after_inserting [] a = refl
delete_after_inserting (c ∷ t) a = ap (λ u. insert c ∷ u) (delete_after_inserting t a)

pub normal_swaps : (n : ℕ) (t : List ℕ) (a : List Op) → normal_form (deleting n (inserting t a))
    ≡ normal_form (inserting t (deleting n a))
normal_swaps zero t a = refl
normal_swaps (suc n) t a =
    ap delete_after (normal_swaps n t a ∙ normal_inserting t (deleting n a))
    ∙ delete_after_inserting t (normal_form (deleting n a))
    ∙ sym (normal_inserting t (deleting (suc n) a))

-- replacements in normal form are their own normal form
keep_leads : (n : ℕ) (a : List Op) → 1 ≤ n → delete_after (keeping n a) ≡ delete ∷ keeping n a
keep_leads zero a some = absurd (omega arith)
keep_leads (suc n) a some = refl

rest_leads : (n : ℕ) → delete_after (keeping n []) ≡ delete ∷ keeping n []
rest_leads zero = refl
rest_leads (suc n) = refl

apart_leads : (edits : List Edit) (rest : ℕ) → AreApart edits
    → delete_after (ops_of edits rest) ≡ delete ∷ ops_of edits rest
apart_leads [] rest apart = rest_leads rest
apart_leads (e ∷ edits) rest apart =
    keep_leads e.kept (inserting e.text (deleting e.deleted (ops_of edits rest))) apart.0

deletes_lead : (n : ℕ) (a : List Op) → delete_after a ≡ delete ∷ a
    → delete_after (deleting n a) ≡ delete ∷ deleting n a
deletes_lead zero a leads = leads
deletes_lead (suc n) a leads = refl

deleting_stays : (n : ℕ) (a : List Op) → normal_form a ≡ a → delete_after a ≡ delete ∷ a
    → normal_form (deleting n a) ≡ deleting n a
deleting_stays zero a is leads = is
deleting_stays (suc n) a is leads =
    ap delete_after (deleting_stays n a is leads) ∙ deletes_lead n a leads

step_stays : (e : Edit) (a : List Op) → normal_form a ≡ a → delete_after a ≡ delete ∷ a
    → normal_form (keeping e.kept (inserting e.text (deleting e.deleted a)))
    ≡ keeping e.kept (inserting e.text (deleting e.deleted a))
step_stays e a is leads =
    normal_keeping e.kept (inserting e.text (deleting e.deleted a))
    ∙ ap (keeping e.kept) (normal_inserting e.text (deleting e.deleted a)
    ∙ ap (inserting e.text) (deleting_stays e.deleted a is leads))

apart_stay : (edits : List Edit) (rest : ℕ) → AreApart edits
    → normal_form (ops_of edits rest) ≡ ops_of edits rest
apart_stay [] rest apart = normal_keeping rest []
apart_stay (e ∷ edits) rest apart =
    step_stays e (ops_of edits rest) (apart_stay edits rest apart.2)
    (apart_leads edits rest apart.2)

pub normal_stays : (edits : List Edit) (rest : ℕ) → AreNormal edits
    → normal_form (ops_of edits rest) ≡ ops_of edits rest
normal_stays [] rest normal = normal_keeping rest []
normal_stays (e ∷ edits) rest normal =
    step_stays e (ops_of edits rest) (apart_stay edits rest normal.1)
    (apart_leads edits rest normal.1)

pub normal_twice : (a : List Op) → normal_form (normal_form a) ≡ normal_form a
normal_twice a =
    ap normal_form (sym (append-nil (normal_form a))) ∙ normal_append a []
    ∙ ap normal_form (append-nil a)

-- the number of operations
pub keeping_length : (n : ℕ) (a : List Op) → length (keeping n a) ≡ n + length a
keeping_length zero a = omega arith
keeping_length (suc n) a = omega (arith, keeping_length n a)

pub deleting_length : (n : ℕ) (a : List Op) → length (deleting n a) ≡ n + length a
deleting_length zero a = omega arith
deleting_length (suc n) a = omega (arith, deleting_length n a)

pub inserting_length : (t : List ℕ) (a : List Op) → length (inserting t a) ≡ length t + length a
inserting_length [] a = omega arith
inserting_length (c ∷ t) a = omega (arith, inserting_length t a)
