-- An insert into the second of three texts splits no CR LF.
use Rattle.std.proofs.Common.{◌≡◌, ℕ, ◌+◌, ◌<◌, ◌≤◌, Bool, true, false, ◌&&◌, inl, inr, List, [], ◌∷◌, ◌++◌, length, take, drop, refl, sym, ap, subst, ◌∙◌, arith}
use Rattle.std.proofs.lemmas.Bool.{cases_lt}
use Rattle.std.proofs.lemmas.List.{append-nil, append_assoc, length-append, take-append-drop, take-append-le, drop-append-le, length-drop, length-take-le, drop_all}
use Rattle.std.proofs.Math.Seq.{take-append-add, drop-append-add}
use Rattle.rope_text.specs.Breaks.{begins_with_lf, ends_in_cr}
use Rattle.rope_text.proofs.CuttingLaws.{ends_in_cr-append}
use Rattle.rope_leaf.specs.Leaves.{IsSeam}
use Rattle.rope_leaf.proofs.LeafLaws.{seam_of_left, seam_of_right, seam-take}

-- a seam, by the last text before it and the first text after it
pub seam_ends : (p q r : List ℕ) → 1 ≤ length q → IsSeam q r → IsSeam (p ++ q) r
seam_ends p [] r some s = absurd (omega arith)
seam_ends p (x ∷ xs) r some s = record { apart = rw (ends_in_cr-append p x xs) s.apart }

pub seam_begins : (p q r : List ℕ) → 1 ≤ length q → IsSeam p q → IsSeam p (q ++ r)
seam_begins p [] r some s = absurd (omega arith)
seam_begins p (x ∷ xs) r some s = record { apart = s.apart }

begins_append : (xs ys : List ℕ) → 1 ≤ length xs → begins_with_lf (xs ++ ys) ≡ begins_with_lf xs
begins_append [] ys some = absurd (omega arith)
begins_append (x ∷ xs) ys some = refl

pub begins_some : (xs : List ℕ) → begins_with_lf xs ≡ true → 1 ≤ length xs
begins_some [] e = cc
begins_some (x ∷ xs) e = omega arith

first_false : (x y : Bool) → (x && y) ≡ false → y ≡ true → x ≡ false
first_false true y e f = cc
first_false false y e f = refl

pub no_cr : (p r : List ℕ) → ends_in_cr p ≡ false → IsSeam p r
no_cr p r e = record { apart = rw e refl }

module _ (p c n s : List ℕ) (i at : ℕ) (place : at ≡ length p + i) (within : i ≤ length c) where
  pub rest_of : drop at (p ++ (c ++ n)) ≡ drop i c ++ n
  rest_of = rw (place, drop-append-add p (c ++ n) i) (drop-append-le i c n within)

  pub front_of : take at (p ++ (c ++ n)) ≡ p ++ take i c
  front_of =
      rw (place, take-append-add p (c ++ n) i) (ap (λ x. p ++ x) (take-append-le i c n within))

  -- the whole text with the inserted one
  pub text_of : p ++ ((take i c ++ (s ++ drop i c)) ++ n) ≡ take at (p ++ (c ++ n))
      ++ (s ++ drop at (p ++ (c ++ n)))
  text_of = rw (front_of, rest_of) (simp append_assoc)

  -- to the left of a seam
  module _ (some : 1 ≤ length s) (right_seam : IsSeam c n)
      (may : IsSeam s (drop at (p ++ (c ++ n)))) where
    s_rest : IsSeam s (drop i c ++ n)
    s_rest = subst (IsSeam s) rest_of may

    pub left_child : IsSeam s (drop i c)
    left_child = seam_of_left s (drop i c) n s_rest

    pub left_after : IsSeam (take i c ++ (s ++ drop i c)) n
    left_after = elim (cases_lt i (length c)) [
      | inl l ↦ end_kept (omega (arith, length-drop i c))
      | inr ge ↦
          let none : drop i c ≡ [] = drop_all i c ge in
          let t : IsSeam s n = subst (λ x. IsSeam s (x ++ n)) none s_rest in
          rw (none, append-nil) (seam_ends (take i c) s n some t)
    ]
      where
        end_kept : 1 ≤ length (drop i c) → IsSeam (take i c ++ (s ++ drop i c)) n
        end_kept more =
            let t : IsSeam (drop i c) n =
            seam_of_right (take i c) (drop i c) n (rw take-append-drop right_seam) in
            seam_ends (take i c) (s ++ drop i c) n (omega (arith, length-append s (drop i c)))
            (seam_ends s (drop i c) n more t)

  -- to the right of a seam, before an LF
  module _ (right_seam : IsSeam c n) (inside : i < length c) where
    pub right_after : IsSeam (take i c ++ (s ++ drop i c)) n
    right_after =
        let more : 1 ≤ length (drop i c) = omega (arith, length-drop i c) in
        let t : IsSeam (drop i c) n =
        seam_of_right (take i c) (drop i c) n (rw take-append-drop right_seam) in
        seam_ends (take i c) (s ++ drop i c) n (omega (arith, length-append s (drop i c)))
        (seam_ends s (drop i c) n more t)

    pub right_child : begins_with_lf (drop at (p ++ (c ++ n))) ≡ true
        → begins_with_lf (drop i c) ≡ true
    right_child lf = sym (begins_append (drop i c) n (omega (arith, length-drop i c)))
        ∙ ap begins_with_lf (sym rest_of) ∙ lf

  -- the seam before, if the inserted text isn't first
  pub before_inside : IsSeam p c → 1 ≤ i → IsSeam p (take i c ++ (s ++ drop i c))
  before_inside seam some =
      seam_begins p (take i c) (s ++ drop i c) (omega (arith, length-take-le i c within))
      (seam-take i p c seam)

  -- the seam before, if the inserted text is before an LF
  pub before_lf : IsSeam p c → i ≡ 0 → 1 ≤ length c
      → begins_with_lf (drop at (p ++ (c ++ n))) ≡ true → (r : List ℕ) → IsSeam p r
  before_lf seam none some lf r =
      let first : begins_with_lf c ≡ true = sym (begins_append c n some)
      ∙ ap (λ j. begins_with_lf (drop j c ++ n)) (sym none) ∙ ap begins_with_lf (sym rest_of)
      ∙ lf in
      no_cr p r (first_false (ends_in_cr p) (begins_with_lf c) seam.apart first)
