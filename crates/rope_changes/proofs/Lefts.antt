-- What is left of a change.
use Rattle.std.proofs.Common.{◌≡◌, ℕ, zero, suc, ◌-◌, ◌≤◌, List, [], ◌∷◌, length, refl, ap, arith}
use Rattle.rope_changes.specs.Ops.{Op}
use Rattle.rope_changes.specs.Change.{Edit, keeping, inserting, deleting, AreApart, AreNormal}
use Rattle.rope_changes.specs.Left.{AreChanging}
use Rattle.rope_changes.proofs.NormalLaws.{deleting_split}

pub nothing_left : (k d : ℕ) (t : List ℕ) (a : List Op) → k ≡ 0 → length t ≡ 0 → d ≡ 0
    → keeping k (inserting t (deleting d a)) ≡ a
nothing_left zero zero [] a kept text deleted = refl
nothing_left zero zero (c ∷ t) a kept text deleted = absurd (omega arith)
nothing_left zero (suc d) t a kept text deleted = absurd (omega arith)
nothing_left (suc k) d t a kept text deleted = absurd (omega arith)

apart_changing : (edits : List Edit) → AreApart edits → AreChanging edits
apart_changing [] apart = tt
apart_changing (e ∷ edits) apart = (apart.1, apart_changing edits apart.2)

pub all_changing : (edits : List Edit) → AreNormal edits → AreChanging edits
all_changing [] normal = tt
all_changing (e ∷ edits) normal = (normal.0, apart_changing edits normal.1)

pub deletions_left : (k d : ℕ) (t : List ℕ) (a : List Op) → k ≡ 0 → length t ≡ 0
    → keeping k (inserting t (deleting d a)) ≡ deleting d a
deletions_left zero d [] a kept text = refl
deletions_left zero d (c ∷ t) a kept text = absurd (omega arith)
deletions_left (suc k) d t a kept text = absurd (omega arith)

pub text_left : (k : ℕ) (t : List ℕ) (a : List Op) → k ≡ 0
    → keeping k (inserting t a) ≡ inserting t (keeping k a)
text_left zero t a kept = refl
text_left (suc k) t a kept = absurd (omega arith)

-- a text that is passed with the first characters that are deleted after it
pub edit_left : (k d n : ℕ) (t : List ℕ) (a : List Op) → k ≡ 0 → n ≤ d
    → keeping k (inserting t (deleting d a))
    ≡ inserting t (deleting n (keeping k (deleting (d - n) a)))
edit_left zero d n t a kept within = ap (inserting t) (deleting_split d n a within)
edit_left (suc k) d n t a kept within = absurd (omega arith)
