use Rattle.std.proofs.Common.{ℕ, ◌≡◌, ◌-◌, ◌++◌, [], List, suc, length, take, drop, ap, subst, ◌∙◌, arith, length-drop}
use Rattle.std.specs.Prelude.{replicate}
use Rattle.std.proofs.lemmas.List.{take-replicate, drop_all, append-nil}
use Rattle.rope_text.proofs.Utf8Laws.{after_zeros}
use Rattle.rope_text.specs.Utf8.{HasNoFault}
use Rattle.rope_text.proofs.utf8.few_without_fault.Goals as goal

pub returns-clause-none : goal.returns-clause-none
returns-clause-none c =
    let n = length c.args.bytes.now in
    let zeros : ℕ → List ℕ = λ k. replicate k 0 in
    let zs : List ℕ = take (67 - n) (zeros 67) in
    let after : List ℕ = drop (67 - (67 - n)) (drop (67 - n) (zeros 67)) in
    let P : List ℕ → Type 0 = λ xs. (HasNoFault (zs ++ xs) 3 → HasNoFault (zs ++ xs) 67) in
    let three : 67 - n ≡ suc (suc (suc (64 - n))) = omega arith in
    let none : after ≡ [] =
    drop_all (67 - (67 - n)) (drop (67 - n) (zeros 67))
    (omega (arith, length-drop (67 - n) (zeros 67))) in
    let whole : P (c.copy_from_slice.new.self ++ after) =
    c.block_has_fault.ensures 3 c.if-block_has_fault.false (omega arith) in
    let bytes : P c.copy_from_slice.new.self =
    subst P (append-nil c.copy_from_slice.new.self)
    (subst (λ xs. P (c.copy_from_slice.new.self ++ xs)) none whole) in
    after_zeros (64 - n) n 67 c.args.bytes.now zs (omega arith)
    (take-replicate (67 - n) 67 0 (omega arith) ∙ ap zeros three)
    (subst P c.copy_from_slice.ensures.after bytes)
