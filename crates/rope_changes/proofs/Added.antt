-- What operations do to a change that is being built.
use Rattle.std.proofs.Common.{◌≡◌, ℕ, zero, suc, ◌+◌, List, [], ◌∷◌, ◌++◌, ap, sym, ◌∙◌, append_assoc}
use Rattle.rope_changes.specs.Ops.{Op}
use Rattle.rope_changes.specs.Normal.{normal_form}
use Rattle.rope_changes.specs.Change.{Edit, keeping, deleting, inserting, ops_of, appended, AreNormal}
use Rattle.rope_changes.proofs.NormalLaws.{normal_append, normal_onto, normal_stays, normal_swaps, keeping_append, deleting_append, inserting_append, keeping_more, deleting_more, inserting_more}

step_append : (k : ℕ) (t : List ℕ) (d : ℕ) (a b : List Op)
    → keeping k (inserting t (deleting d a)) ++ b ≡ keeping k (inserting t (deleting d (a ++ b)))
step_append k t d a b =
    keeping_append k (inserting t (deleting d a)) b
    ∙ ap (keeping k)
    (inserting_append t (deleting d a) b ∙ ap (inserting t) (deleting_append d a b))

-- a step before operations with one normal form
step_normal : (k : ℕ) (t : List ℕ) (d : ℕ) (a b : List Op) → normal_form a ≡ normal_form b
    → normal_form (keeping k (inserting t (deleting d a)))
    ≡ normal_form (keeping k (inserting t (deleting d b)))
step_normal k t d a b same =
    ap normal_form (sym (step_append k t d [] a))
    ∙ normal_onto (keeping k (inserting t (deleting d []))) a b same
    ∙ ap normal_form (step_append k t d [] b)

extends : (e : Edit) (t : List ℕ) (d : ℕ)
    → normal_form (keeping e.kept (inserting (e.text ++ t) (deleting (e.deleted + d) [])))
    ≡ normal_form
    (keeping e.kept (inserting e.text (deleting e.deleted (inserting t (deleting d [])))))
extends e t d =
    ap (λ u. normal_form (keeping e.kept u))
    (inserting_more e.text t (deleting (e.deleted + d) [])
    ∙ ap (λ u. inserting e.text (inserting t u)) (deleting_more e.deleted d []))
    ∙ step_normal e.kept e.text 0 (inserting t (deleting e.deleted (deleting d [])))
    (deleting e.deleted (inserting t (deleting d [])))
    (sym (normal_swaps e.deleted t (deleting d [])))

-- a replacement appended, as operations
added : (edits : List Edit) (kept : ℕ) (t : List ℕ) (d : ℕ)
    → normal_form (ops_of (appended edits kept t d) 0)
    ≡ normal_form (ops_of edits kept ++ inserting t (deleting d []))
added [] kept t d = ap normal_form (sym (keeping_append kept [] (inserting t (deleting d []))))
added (e ∷ []) zero t d =
    extends e t d
    ∙ ap normal_form (sym (step_append e.kept e.text e.deleted [] (inserting t (deleting d []))))
added (e ∷ []) (suc kept) t d =
    ap (λ u. normal_form (keeping e.kept (inserting e.text (deleting e.deleted u))))
    (sym (keeping_append (suc kept) [] (inserting t (deleting d []))))
    ∙ ap normal_form
    (sym (step_append e.kept e.text e.deleted (keeping (suc kept) [])
    (inserting t (deleting d []))))
added (e ∷ f ∷ edits) kept t d =
    step_normal e.kept e.text e.deleted (ops_of (appended (f ∷ edits) kept t d) 0)
    (ops_of (f ∷ edits) kept ++ inserting t (deleting d [])) (added (f ∷ edits) kept t d)
    ∙ ap normal_form
    (sym (step_append e.kept e.text e.deleted (ops_of (f ∷ edits) kept)
    (inserting t (deleting d []))))

pub added_ops : (edits : List Edit) (kept : ℕ) (t : List ℕ) (d : ℕ)
    → AreNormal (appended edits kept t d)
    → ops_of (appended edits kept t d) 0
    ≡ normal_form (ops_of edits kept ++ inserting t (deleting d []))
added_ops edits kept t d normal =
    sym (normal_stays (appended edits kept t d) 0 normal) ∙ added edits kept t d

-- more kept characters at the end
kept_more : (edits : List Edit) (rest n : ℕ)
    → ops_of edits (rest + n) ≡ ops_of edits rest ++ keeping n []
kept_more [] rest n = keeping_more rest n [] ∙ sym (keeping_append rest [] (keeping n []))
kept_more (e ∷ edits) rest n =
    ap (λ u. keeping e.kept (inserting e.text (deleting e.deleted u))) (kept_more edits rest n)
    ∙ sym (step_append e.kept e.text e.deleted (ops_of edits rest) (keeping n []))

pub kept_ops : (edits : List Edit) (rest n : ℕ) → AreNormal edits
    → ops_of edits (rest + n) ≡ normal_form (ops_of edits rest ++ keeping n [])
kept_ops edits rest n normal =
    sym (normal_stays edits (rest + n) normal) ∙ ap normal_form (kept_more edits rest n)

-- operations after those of a change that has one more run
pub grown : (new old run : List Op) (more : List Op) → new ≡ normal_form (old ++ run)
    → normal_form (new ++ more) ≡ normal_form (old ++ (run ++ more))
grown new old run more is =
    ap (λ u. normal_form (u ++ more)) is ∙ normal_append (old ++ run) more
    ∙ ap normal_form (append_assoc old run more)
