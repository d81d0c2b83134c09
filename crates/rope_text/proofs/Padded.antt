-- Bytes with zeros after them: no break begins at a zero, and the breaks before it are unchanged.
use Rattle.std.proofs.Common.{◌≡◌, ℕ, zero, suc, false, cond, List, [], ◌∷◌, ◌++◌, drop, get_or, refl, ap, ◌∙◌, arith}
use Rattle.rope_text.specs.declared.line_breaks.LineBreaks.{LineBreaks}
use Rattle.rope_text.specs.declared.line_breaks.LineBreaks.TheVariants.{Lf, CrLf, Unicode}
use Rattle.rope_text.specs.ByteBreaks.{break_at, byte_break_count}

-- each of them is 0
abbrev pub AreZeros : List ℕ → Type 0
AreZeros zs = (k : ℕ) → get_or zs k 0 ≡ 0

pub zeros_dropped : (n : ℕ) (zs : List ℕ) → AreZeros zs → AreZeros (drop n zs)
zeros_dropped zero zs a k = a k
zeros_dropped (suc n) [] a k = refl
zeros_dropped (suc n) (z ∷ zs) a k = zeros_dropped n zs (λ j. a (suc j)) k

no_break : (b : LineBreaks) (y z : ℕ) → break_at b 0 y z ≡ false
no_break Lf y z = refl
no_break CrLf y z = refl
no_break Unicode y z = refl

pub no_breaks : (b : LineBreaks) (zs : List ℕ) → AreZeros zs → byte_break_count b zs ≡ 0
no_breaks b [] a = refl
no_breaks b (z ∷ zs) a =
    let first : cond {A = ℕ} (break_at b z (get_or zs 0 0) (get_or zs 1 0)) 1 0 ≡ 0 =
    ap (λ x. cond {A = ℕ} (break_at b x (get_or zs 0 0) (get_or zs 1 0)) 1 0) (a 0)
    ∙ ap (λ t. cond {A = ℕ} t 1 0) (no_break b (get_or zs 0 0) (get_or zs 1 0)) in
    omega (arith, first, no_breaks b zs (λ j. a (suc j)))

same_at : (xs zs : List ℕ) → AreZeros zs → (k : ℕ) → get_or (xs ++ zs) k 0 ≡ get_or xs k 0
same_at [] zs a k = a k
same_at (x ∷ xs) zs a zero = refl
same_at (x ∷ xs) zs a (suc k) = same_at xs zs a k

pub breaks_padded : (b : LineBreaks) (xs zs : List ℕ) → AreZeros zs
    → byte_break_count b (xs ++ zs) ≡ byte_break_count b xs
breaks_padded b [] zs a = no_breaks b zs a
breaks_padded b (x ∷ xs) zs a =
    let first =
    ap (λ y. cond {A = ℕ} (break_at b x y (get_or (xs ++ zs) 1 0)) 1 0) (same_at xs zs a 0)
    ∙ ap (λ z. cond {A = ℕ} (break_at b x (get_or xs 0 0) z) 1 0) (same_at xs zs a 1) in
    omega (arith, first, breaks_padded b xs zs a)
