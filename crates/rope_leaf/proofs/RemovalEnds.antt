-- The neighbours that a text may have after a removal.
use Rattle.std.proofs.Common.{◌≡◌, ℕ, ◌≤◌, false, List, [], ◌∷◌, ◌++◌, length, refl, arith}
use Rattle.std.proofs.lemmas.List.{append-nil, length-append}
use Rattle.std.proofs.Math.Bool.{and-false}
use Rattle.rope_text.specs.Breaks.{begins_with_lf, ends_in_cr}
use Rattle.rope_leaf.specs.Leaves.{IsSeam}
use Rattle.rope_leaf.specs.Removal.{KeepsEnds}
use Rattle.rope_leaf.proofs.LeafLaws.{seam_of_left, seam_of_right}
use Rattle.rope_leaf.proofs.InsertLaws.{no_cr, seam_begins, seam_ends}

no_lf : (p r : List ℕ) → begins_with_lf r ≡ false → IsSeam p r
no_lf p r e = record { apart = rw e (and-false (ends_in_cr p)) }

first_kept : (f x y p : List ℕ) → 1 ≤ length f → IsSeam p (f ++ x) → IsSeam p (f ++ y)
first_kept [] x y p some s = absurd (omega arith)
first_kept (c ∷ cs) x y p some s = record { apart = s.apart }

last_kept : (f part b n : List ℕ) → 1 ≤ length b → IsSeam (f ++ (part ++ b)) n → IsSeam (f ++ b) n
last_kept f part b n some s =
    seam_ends f b n some (seam_of_right part b n (seam_of_right f (part ++ b) n s))

-- from the middle
ends_of_both : (f part b : List ℕ) → 1 ≤ length f → 1 ≤ length b
    → KeepsEnds (f ++ (part ++ b)) (f ++ b)
ends_of_both f part b front back = record {
  before = λ p s. first_kept f (part ++ b) b p front s;
  after = λ n s. last_kept f part b n back s;
}

-- from the beginning, if the rest doesn't begin with LF
ends_of_back : (f part b : List ℕ) → f ≡ [] → 1 ≤ length b → begins_with_lf b ≡ false
    → KeepsEnds (f ++ (part ++ b)) (f ++ b)
ends_of_back f part b none back lf =
    rw none (record { before = λ p s. no_lf p b lf; after = λ n s. seam_of_right part b n s })

-- up to the end, if the rest doesn't end in CR
ends_of_front : (f part b : List ℕ) → 1 ≤ length f → b ≡ [] → ends_in_cr f ≡ false
    → KeepsEnds (f ++ (part ++ b)) (f ++ b)
ends_of_front f part b front none cr = record {
  before = λ p s. first_kept f (part ++ b) b p front s;
  after = λ n s. rw (none, append-nil) (no_cr f n cr);
}

-- if the new ends are neither LF first nor CR last
pub ends_kept : (f part b : List ℕ) → 1 ≤ length (f ++ b)
    → (length f ≡ 0 → begins_with_lf b ≡ false) → (length b ≡ 0 → ends_in_cr f ≡ false)
    → KeepsEnds (f ++ (part ++ b)) (f ++ b)
ends_kept [] part b some first last = ends_of_back [] part b refl some (first refl)
ends_kept (x ∷ xs) part [] some first last =
    ends_of_front (x ∷ xs) part [] (omega arith) refl (last refl)
ends_kept (x ∷ xs) part (y ∷ ys) some first last =
    ends_of_both (x ∷ xs) part (y ∷ ys) (omega arith) (omega arith)

-- the ends of a text in which the middle keeps its own
pub ends_around : (l c u r : List ℕ) → 1 ≤ length u → KeepsEnds c u
    → KeepsEnds (l ++ (c ++ r)) (l ++ (u ++ r))
ends_around l c u r some k = record {
  before = λ p s. before l p s;
  after = λ n s. after r n s;
} where
  before : (l p : List ℕ) → IsSeam p (l ++ (c ++ r)) → IsSeam p (l ++ (u ++ r))
  before [] p s = seam_begins p u r some (k.before p (seam_of_left p c r s))
  before (x ∷ xs) p s = record { apart = s.apart }

  after : (r n : List ℕ) → IsSeam (l ++ (c ++ r)) n → IsSeam (l ++ (u ++ r)) n
  after [] n s =
      let own : IsSeam c n = rw append-nil at (seam_of_right l (c ++ []) n s) in
      rw append-nil (seam_ends l u n some (k.after n own))
  after (x ∷ xs) n s =
      let own = seam_of_right c (x ∷ xs) n (seam_of_right l (c ++ (x ∷ xs)) n s) in
      seam_ends l (u ++ (x ∷ xs)) n (omega (arith, length-append u (x ∷ xs)))
      (seam_ends u (x ∷ xs) n (omega arith) own)
