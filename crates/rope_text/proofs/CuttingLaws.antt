-- Cuttings joined, counted and clipped.
use Rattle.std.proofs.Common.{◌≡◌, ℕ, ◌-◌, ◌<◌, false, ◌&&◌, List, [], ◌∷◌, ◌++◌, length, sum_by, refl, ap, sym, ◌∙◌, arith, append_assoc, All, zero, suc, take}
use Rattle.std.specs.List.{concat, slice_range}
use Rattle.std.proofs.lemmas.List.{append-nil}
use Rattle.std.proofs.lemmas.List.Elements.{All-nil, All-cons, All-tail}
use Rattle.std.proofs.lemmas.List.Sums.{sum_by-append}
use Rattle.rope_text.specs.declared.line_breaks.LineBreaks.{LineBreaks}
use Rattle.rope_text.specs.Breaks.{begins_with_lf, ends_in_cr, is_break_char, break_count}
use Rattle.rope_text.specs.Cutting.{parts_crlf, IsCutting, KeepsCrlf, clip, cons_nonempty}
use Rattle.rope_text.proofs.Measures.{IsMeasure}
use Rattle.rope_text.proofs.BreakLaws.{joins_break, break_count-append, break_ends-nil}
use Rattle.rope_text.proofs.ClipLaws.{concat-clip}

pub concat-append : (p q : List (List ℕ)) → concat (p ++ q) ≡ concat p ++ concat q
concat-append [] q = refl
concat-append (x ∷ p) q = ap (λ t. x ++ t) (concat-append p q)
    ∙ sym (append_assoc x (concat p) (concat q))

-- the last and the first character of joined texts
pub ends_in_cr-append : (s : List ℕ) (c : ℕ) (t : List ℕ)
    → ends_in_cr (s ++ c ∷ t) ≡ ends_in_cr (c ∷ t)
ends_in_cr-append [] c t = refl
ends_in_cr-append (a ∷ []) c t = refl
ends_in_cr-append (a ∷ b ∷ s) c t = ends_in_cr-append (b ∷ s) c t

pub begins_with_lf-take : (n : ℕ) (xs : List ℕ) → 0 < n
    → begins_with_lf (take n xs) ≡ begins_with_lf xs
begins_with_lf-take zero xs some = absurd (omega arith)
begins_with_lf-take (suc n) [] some = refl
begins_with_lf-take (suc n) (x ∷ xs) some = refl

-- where the second text isn't empty, only it can end before LF
pub parts_crlf-append : (s : List ℕ) (c : ℕ) (t u : List ℕ)
    → parts_crlf (s ++ c ∷ t) u ≡ parts_crlf (c ∷ t) u
parts_crlf-append s c t u = ap (λ x. x && begins_with_lf u) (ends_in_cr-append s c t)

-- where no CR meets LF after two joined texts, none does after the second
pub apart_back : (s t u : List ℕ) → parts_crlf (s ++ t) u ≡ false → parts_crlf t u ≡ false
apart_back s [] u apart = refl
apart_back s (c ∷ t) u apart = sym (parts_crlf-append s c t u) ∙ apart

-- cuttings joined where CR doesn't meet LF
pub KeepsCrlf-append : (p q : List (List ℕ)) → All (λ chunk. 0 < length chunk) p → KeepsCrlf p
    → KeepsCrlf q → parts_crlf (concat p) (concat q) ≡ false → KeepsCrlf (p ++ q)
KeepsCrlf-append [] q full kp kq apart = kq
KeepsCrlf-append (x ∷ []) q full kp kq apart = (rw (append-nil x) at apart, kq)
KeepsCrlf-append (x ∷ [] ∷ p) q full kp kq apart = absurd (omega (arith, full 1 [] (omega arith)))
KeepsCrlf-append (x ∷ (c ∷ y) ∷ p) q full kp kq apart = (
  kp.0,
  KeepsCrlf-append ((c ∷ y) ∷ p) q
      (All-tail (λ chunk. 0 < length chunk) x ((c ∷ y) ∷ p) full) kp.1 kq
      (sym (parts_crlf-append x c (y ++ concat p) (concat q)) ∙ apart),
)

-- a size of the whole is the sum over the chunks
pub size-concat : (size : List ℕ → ℕ) → IsMeasure size → (chunks : List (List ℕ))
    → size (concat chunks) ≡ sum_by size chunks
size-concat size m [] = m.empty
size-concat size m (x ∷ chunks) =
    omega (
      arith,
      m.joined x (concat chunks),
      size-concat size m chunks,
      sum_by-append size (x ∷ []) chunks,
    )

-- the breaks of the whole are the breaks of the chunks, where no CRLF is cut
pub break_count-concat : (breaks : LineBreaks) (chunks : List (List ℕ)) → KeepsCrlf chunks
    → break_count breaks (concat chunks) ≡ sum_by (break_count breaks) chunks
break_count-concat breaks [] kept = ap length (break_ends-nil breaks)
break_count-concat breaks (x ∷ chunks) kept =
    let none : joins_break breaks x (concat chunks) ≡ false =
    ap (λ b. b && is_break_char breaks 13) kept.0 in
    let both = rw none at (break_count-append breaks x (concat chunks)) in
    omega (
      arith,
      break_count-concat breaks chunks kept.1,
      sum_by-append (break_count breaks) (x ∷ []) chunks,
    )

-- a slice's chunks are a cutting of the slice
pub clip_nonempty : (chunks : List (List ℕ)) (a b : ℕ)
    → All (λ chunk. 0 < length chunk) (clip chunks a b)
clip_nonempty [] a b = All-nil (λ chunk. 0 < length chunk)
clip_nonempty (chunk ∷ chunks) a b =
    kept (slice_range chunk a b) (clip_nonempty chunks (a - length chunk) (b - length chunk))
  where
    kept : (xs : List ℕ) → All (λ p. 0 < length p)
        (clip chunks (a - length chunk) (b - length chunk))
        → All (λ p. 0 < length p)
        (cons_nonempty xs (clip chunks (a - length chunk) (b - length chunk)))
    kept [] rest = rest
    kept (x ∷ xs) rest =
        All-cons (λ p. 0 < length p) (x ∷ xs) (clip chunks (a - length chunk) (b - length chunk))
        (omega arith) rest

pub IsCutting-clip : (text : List ℕ) (chunks : List (List ℕ)) (a b : ℕ) → IsCutting text chunks
    → IsCutting (slice_range text a b) (clip chunks a b)
IsCutting-clip text chunks a b cut =
    record {
      joined = concat-clip chunks a b ∙ ap (λ t. slice_range t a b) cut.joined;
      nonempty = clip_nonempty chunks a b;
    }
