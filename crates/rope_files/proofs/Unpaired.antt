-- Surrogates that are in no pair, before other bytes.
use Rattle.std.proofs.Common.{◌≡◌, ℕ, ◌+◌, ◌≤◌, IsTrue, List, [], ◌∷◌, ◌++◌, length, drop, refl, sym, ap, subst, ◌∙◌, arith, inl, inr}
use Rattle.std.proofs.lemmas.List.{length-append}
use Rattle.std.specs.Char.Utf16.{is_high_surrogate, is_low_surrogate}
use Rattle.rope_files.specs.Layouts.{code_unit, IsUnpaired}
use Rattle.rope_files.specs.declared.layout.ByteOrder.{ByteOrder}
use Rattle.rope_files.specs.declared.layout.ByteOrder.TheVariants.{Little, Big}
use Rattle.rope_files.specs.declared.layout.Layout.{Layout}
use Rattle.rope_files.specs.declared.layout.Layout.TheVariants.{Bytes, CodeUnits}

pub unit_before : (o : ByteOrder) (xs ys : List ℕ) → 2 ≤ length xs
    → code_unit o (xs ++ ys) ≡ code_unit o xs
unit_before o [] ys h = absurd (omega arith)
unit_before o (x ∷ []) ys h = absurd (omega arith)
unit_before Little (x ∷ y ∷ xs) ys h = refl
unit_before Big (x ∷ y ∷ xs) ys h = refl

pub after_two : (xs ys : List ℕ) → 2 ≤ length xs → drop 2 (xs ++ ys) ≡ drop 2 xs ++ ys
after_two [] ys h = absurd (omega arith)
after_two (x ∷ []) ys h = absurd (omega arith)
after_two (x ∷ y ∷ xs) ys h = refl

drop_two : (xs : List ℕ) → 2 ≤ length xs → length xs ≡ 2 + length (drop 2 xs)
drop_two [] h = absurd (omega arith)
drop_two (x ∷ []) h = absurd (omega arith)
drop_two (x ∷ y ∷ xs) h = omega arith

-- an unpaired surrogate is one whatever follows
pub unpaired_before : (l : Layout) (xs ys : List ℕ) → IsUnpaired l xs → IsUnpaired l (xs ++ ys)
unpaired_before Bytes xs ys h = h
unpaired_before (CodeUnits o) xs ys h =
    let two : 2 ≤ length (xs ++ ys) = omega (arith, h.0, length-append xs ys) in
    let same = sym (unit_before o xs ys h.0) in (
      two,
      elim h.1 [
        | inl low ↦ inl (subst (λ u. IsTrue (is_low_surrogate u)) same low)
        | inr high ↦
            let short : 2 ≤ length (drop 2 xs) = omega (arith, drop_two xs h.0, high.1) in
            let next : code_unit o (drop 2 (xs ++ ys)) ≡ code_unit o (drop 2 xs) =
            ap (code_unit o) (after_two xs ys h.0) ∙ unit_before o (drop 2 xs) ys short in inr (
              subst (λ u. IsTrue (is_high_surrogate u)) same high.0,
              omega (arith, high.1, length-append xs ys),
              ap is_low_surrogate next ∙ high.2,
            )
      ],
    )
