-- The line break at the end of a text, by its last two characters.
use Rattle.std.proofs.Common.{◌≡◌, ℕ, suc, ◌+◌, ◌-◌, ◌≤◌, Bool, true, false, ◌&&◌, ◌==◌, not, if◌then◌else◌, List, [], ◌∷◌, ◌++◌, length, take, get_or, refl, ap, ◌∙◌, arith}
use Rattle.std.proofs.lemmas.Bool.Decides.{nat_tests}
use Rattle.std.proofs.lemmas.List.{drop_all, take_more}
use Rattle.rope_text.specs.declared.line_breaks.LineBreaks.{LineBreaks}
use Rattle.rope_text.specs.Breaks.{is_break_char, begins_with_lf, ends_in_cr, is_break_end}
use Rattle.rope_text.specs.LastBreak.{ends_in_break, ends_in_crlf, last_break_len}
use Rattle.rope_text.proofs.CuttingLaws.{ends_in_cr-append}

and_nothing : (x y : Bool) → (x && not (y && false)) ≡ x
and_nothing true true = refl
and_nothing true false = refl
and_nothing false y = refl

pub not_cr : (x : ℕ) (b : Bool) → (x ≡ 13 → ⊥) → (x == 13 && b) ≡ false
not_cr x b off = grind (arith, nat_tests)

-- a text of one character doesn't end in CR LF
pub too_short : (text : List ℕ) → length text ≤ 1 → ends_in_crlf text ≡ false
too_short [] l = refl
too_short (c ∷ []) l = refl
too_short (c ∷ d ∷ text) l = absurd (omega arith)

-- whether CR LF ends a text, by its last two characters
pub crlf_at_end : (text : List ℕ) (k : ℕ) → length text ≡ suc (suc k)
    → ends_in_crlf text ≡ (get_or text k 0 == 13 && get_or text (suc k) 0 == 10)
crlf_at_end text k long =
    let back : length text - 1 ≡ suc k = omega (arith, long) in
    let next : suc k ≡ k + 1 = omega arith in
    let last : take (suc k) text ≡ take k text ++ get_or text k 0 ∷ [] =
    ap (λ n. take n text) next ∙ take_more text k 0 (omega (arith, long)) in
    let cr : ends_in_cr (take (suc k) text) ≡ (get_or text k 0 == 13) =
    ap ends_in_cr last ∙ ends_in_cr-append (take k text) (get_or text k 0) [] in
    ap (λ j. ends_in_cr (take j text) && get_or text j 0 == 10) back
    ∙ ap (λ b. b && get_or text (suc k) 0 == 10) cr

-- the line break at the end, by the last character and a test for CR LF
module _ (breaks : LineBreaks) (text : List ℕ) (k : ℕ) (long : length text ≡ suc k) where
  ends_is : ends_in_break breaks text ≡ is_break_char breaks (get_or text k 0)
  ends_is =
      ap (is_break_end breaks text) long
      ∙ ap (λ rest. is_break_char breaks (get_or text k 0)
      && not (get_or text k 0 == 13 && begins_with_lf rest))
      (drop_all (suc k) text (omega (arith, long)))
      ∙ and_nothing (is_break_char breaks (get_or text k 0)) (get_or text k 0 == 13)

  pub some_end : is_break_char breaks (get_or text k 0) ≡ true → (pair : Bool)
      → (is_break_char breaks 13 && ends_in_crlf text) ≡ pair
      → last_break_len breaks text ≡ (if pair then 2 else 1)
  some_end some pair e = rw (ends_is ∙ some, e) refl
