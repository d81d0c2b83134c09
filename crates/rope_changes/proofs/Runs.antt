-- What replacements do to a text.
use Rattle.std.proofs.Common.{◌≡◌, ℕ, zero, suc, List, [], ◌∷◌, ◌++◌, take, drop, refl, ap, ◌∙◌}
use Rattle.std.proofs.Math.Seq.{take-nil, drop-nil}
use Rattle.rope_changes.specs.Ops.{Op, run}
use Rattle.rope_changes.specs.Change.{keeping, deleting, inserting}

pub run_keeping : (n : ℕ) (ops : List Op) (t : List ℕ)
    → run (keeping n ops) t ≡ take n t ++ run ops (drop n t)
run_keeping zero ops t = refl
run_keeping (suc n) ops [] = run_keeping n ops [] ∙ ap (λ u. u ++ run ops (drop n [])) (take-nil n)
    ∙ ap (run ops) (drop-nil n)
run_keeping (suc n) ops (c ∷ t) = ap (λ u. c ∷ u) (run_keeping n ops t)

pub run_deleting : (n : ℕ) (ops : List Op) (t : List ℕ)
    → run (deleting n ops) t ≡ run ops (drop n t)
run_deleting zero ops t = refl
run_deleting (suc n) ops [] = run_deleting n ops [] ∙ ap (run ops) (drop-nil n)
run_deleting (suc n) ops (c ∷ t) = run_deleting n ops t

pub run_inserting : (text : List ℕ) (ops : List Op) (t : List ℕ)
    → run (inserting text ops) t ≡ text ++ run ops t
run_inserting [] ops t = refl
run_inserting (c ∷ text) ops t = ap (λ u. c ∷ u) (run_inserting text ops t)

pub run_kept : (n : ℕ) (t : List ℕ) → run (keeping n []) t ≡ t
run_kept zero t = refl
run_kept (suc n) [] = run_kept n []
run_kept (suc n) (c ∷ t) = ap (λ u. c ∷ u) (run_kept n t)
