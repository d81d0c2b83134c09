-- Indices between CR and LF, and the nearest indices outside.
use Rattle.std.proofs.Common.{◌≡◌, ℕ, zero, suc, ◌+◌, ◌-◌, ◌<◌, ◌≤◌, Bool, true, false, ◌&&◌, eqb, inl, inr, List, [], ◌∷◌, ◌++◌, length, take, drop, get_or, refl, ap, ap₂, sym, ◌∙◌, arith, add-one}
use Rattle.std.specs.Prelude.{Some, if◌then◌else◌}
use Rattle.std.specs.List.{slice_get}
use Rattle.std.proofs.Math.Bool.{and-true}
use Rattle.std.proofs.lemmas.Bool.{and_parts, cases_lt}
use Rattle.std.proofs.lemmas.Option.{get_or_from_slice_get, slice_get_within}
use Rattle.std.proofs.lemmas.Bool.Decides.{nat_tests}
use Rattle.std.proofs.lemmas.List.{append-nil, drop_all, drop_more, drop-take, get_or-take, length-take, take_more, take-take}
use Rattle.rope_text.specs.Breaks.{begins_with_lf, ends_in_cr}
use Rattle.rope_text.proofs.CuttingLaws.{ends_in_cr-append}
use Rattle.rope_text.proofs.LineSeams.{never}
use Rattle.rope_documents.specs.Sent.{is_inside_crlf, start_outside, cr_before, end_outside, lf_after}

pub ends_last : (text : List ℕ) (k : ℕ) → k < length text
    → ends_in_cr (take (k + 1) text) ≡ eqb (get_or text k 0) 13
ends_last text k within =
    ap ends_in_cr (take_more text k 0 within)
    ∙ ends_in_cr-append (take k text) (get_or text k 0) []

pub begins_first : (text : List ℕ) (i : ℕ) → i < length text
    → begins_with_lf (drop i text) ≡ eqb (get_or text i 0) 10
begins_first text i within = ap begins_with_lf (drop_more text i 0 within)

-- the characters around an index between CR and LF
pub record IsInside (text : List ℕ) (i : ℕ) : Type 0 where
  pub some : 1 ≤ i
  pub less : i < length text
  pub cr : get_or text (i - 1) 0 ≡ 13
  pub lf : get_or text i 0 ≡ 10

pub is_13 : (c : ℕ) → eqb c 13 ≡ true → c ≡ 13
is_13 c e = grind (arith, nat_tests)

pub is_10 : (c : ℕ) → eqb c 10 ≡ true → c ≡ 10
is_10 c e = grind (arith, nat_tests)

pub inside_facts : (text : List ℕ) (i : ℕ) → is_inside_crlf text i ≡ true → IsInside text i
inside_facts text zero e = absurd (cc)
inside_facts text (suc k) e =
    let both = and_parts (ends_in_cr (take (suc k) text)) (begins_with_lf (drop (suc k) text)) e in
    let back : suc k - 1 ≡ k = omega arith in
    elim (cases_lt (suc k) (length text)) [
      | inl less ↦
          let last : eqb (get_or text k 0) 13 ≡ true =
          sym (ends_last text k (omega arith)) ∙ ap (λ n. ends_in_cr (take n text)) (add-one k)
          ∙ both.0 in
          record {
            some = omega arith;
            less = less;
            cr = ap (λ n. get_or text n 0) back ∙ is_13 (get_or text k 0) last;
            lf = is_10 (get_or text (suc k) 0) (sym (begins_first text (suc k) less) ∙ both.1);
          }
      | inr past ↦
          let none : false ≡ true = sym (ap begins_with_lf (drop_all (suc k) text past)) ∙ both.1 in
          absurd (cc)
    ]

pub inside_is : (text : List ℕ) (k : ℕ) → k + 1 < length text → get_or text k 0 ≡ 13
    → get_or text (k + 1) 0 ≡ 10 → is_inside_crlf text (k + 1) ≡ true
inside_is text k less cr lf =
    ap₂ (λ x y. x && y) (ends_last text k (omega arith) ∙ ap (λ c. eqb c 13) cr)
    (begins_first text (k + 1) less ∙ ap (λ c. eqb c 10) lf)

-- an index before CR, or after LF, isn't inside
pub cr_outside : (text : List ℕ) (i : ℕ) → i < length text → get_or text i 0 ≡ 13
    → is_inside_crlf text i ≡ false
cr_outside text i less cr =
    ap (λ b. ends_in_cr (take i text) && b) (begins_first text i less ∙ ap (λ c. eqb c 10) cr)
    ∙ never (ends_in_cr (take i text))

pub lf_outside : (text : List ℕ) (i : ℕ) → i < length text → get_or text i 0 ≡ 10
    → ends_in_cr (take (i + 1) text) ≡ false
lf_outside text i less lf = ends_last text i less ∙ ap (λ c. eqb c 13) lf

-- the last index outside up to an index
pub record IsStart (text : List ℕ) (i j : ℕ) (before : List ℕ) : Type 0 where
  pub le : j ≤ i
  pub outside : is_inside_crlf text j ≡ false
  pub joins : take j text ++ before ≡ take i text

pub start_is : (text : List ℕ) (i : ℕ)
    → IsStart text i (start_outside text i) (cr_before text i)
start_is text i = go (is_inside_crlf text i) refl
  where
    go : (inside : Bool) → is_inside_crlf text i ≡ inside
        → IsStart text i (if inside then i - 1 else i) (if inside then 13 ∷ [] else [])
    go true e =
        let f = inside_facts text i e in
        let whole : i - 1 + 1 ≡ i = omega (arith, f.some) in
        let less : i - 1 < length text = omega (arith, f.less) in
        record {
          le = omega arith;
          outside = cr_outside text (i - 1) less f.cr;
          joins = ap (λ c. take (i - 1) text ++ c ∷ []) (sym f.cr)
              ∙ sym (take_more text (i - 1) 0 less) ∙ ap (λ n. take n text) whole;
        }
    go false e = record { le = omega arith; outside = e; joins = append-nil (take i text) }

begins_take : (text : List ℕ) → begins_with_lf (take 1 text) ≡ begins_with_lf text
begins_take [] = refl
begins_take (c ∷ text) = refl

-- texts that begin with the same characters, one more than come before an index
module _ (text new : List ℕ) (i : ℕ) (same : take (i + 1) new ≡ take (i + 1) text) where
  pub front_same : (j : ℕ) → j ≤ i + 1 → take j new ≡ take j text
  front_same j le =
      sym (take-take j (i + 1) new le) ∙ ap (take j) same ∙ take-take j (i + 1) text le

  pub inside_same : (j : ℕ) → j ≤ i → is_inside_crlf new j ≡ is_inside_crlf text j
  inside_same j le =
      let next : (t : List ℕ)
      → begins_with_lf (drop j t) ≡ begins_with_lf (drop j (take (j + 1) t)) =
      λ t. sym (begins_take (drop j t)) ∙ ap begins_with_lf (sym (drop-take j 1 t)) in
      ap₂ (λ x y. x && y) (ap ends_in_cr (front_same j (omega arith)))
      (next new ∙ ap (λ t. begins_with_lf (drop j t)) (front_same (j + 1) (omega arith))
      ∙ sym (next text))

  -- the first index outside from an index on
  pub record IsEnd (j : ℕ) (after : List ℕ) : Type 0 where
    pub ge : i ≤ j
    pub le : j ≤ length text
    pub outside : is_inside_crlf text j ≡ false
    pub apart : is_inside_crlf new j ≡ false
    pub front : take j new ≡ take j text
    pub joins : after ++ drop j new ≡ drop i new

  module _ (within : i ≤ length text) where
    end_inside : IsInside text i → IsEnd (i + 1) (10 ∷ [])
    end_inside f =
        let off = lf_outside text i f.less f.lf in
        let long : i < length new =
        omega (arith, f.less, ap length same, length-take (i + 1) new, length-take (i + 1) text) in
        let lf : get_or new i 0 ≡ 10 =
        sym (get_or-take (i + 1) new i 0 (omega arith)) ∙ ap (λ t. get_or t i 0) same
        ∙ get_or-take (i + 1) text i 0 (omega arith) ∙ f.lf in
        record {
          ge = omega arith;
          le = omega (arith, f.less);
          outside = ap (λ b. b && begins_with_lf (drop (i + 1) text)) off;
          apart = ap (λ t. ends_in_cr t && begins_with_lf (drop (i + 1) new)) same
              ∙ ap (λ b. b && begins_with_lf (drop (i + 1) new)) off;
          front = same;
          joins = ap (λ c. c ∷ drop (i + 1) new) (sym lf) ∙ sym (drop_more new i 0 long);
        }

    pub end_is : IsEnd (end_outside text i) (lf_after text i)
    end_is = go (is_inside_crlf text i) refl
      where
        go : (inside : Bool) → is_inside_crlf text i ≡ inside
            → IsEnd (if inside then i + 1 else i) (if inside then 10 ∷ [] else [])
        go true e = end_inside (inside_facts text i e)
        go false e = record {
          ge = omega arith;
          le = within;
          outside = e;
          apart = inside_same i (omega arith) ∙ e;
          front = front_same i (omega arith);
          joins = refl;
        }

-- the two characters around an index tell whether it is inside
pub inside_test : (text : List ℕ) (i c d : ℕ) → 1 ≤ i → slice_get text i ≡ Some c
    → slice_get text (i - 1) ≡ Some d → is_inside_crlf text i ≡ (eqb d 13 && eqb c 10)
inside_test text zero c d some here before = absurd (omega arith)
inside_test text (suc k) c d some here before =
    let back : suc k - 1 ≡ k = omega arith in
    let last : slice_get text k ≡ Some d = ap (slice_get text) (sym back) ∙ before in
    let front : ends_in_cr (take (suc k) text) ≡ eqb d 13 =
    ap (λ n. ends_in_cr (take n text)) (sym (add-one k))
    ∙ ends_last text k (slice_get_within text k d last)
    ∙ ap (λ x. eqb x 13) (get_or_from_slice_get text k d 0 last) in
    let rest : begins_with_lf (drop (suc k) text) ≡ eqb c 10 =
    begins_first text (suc k) (slice_get_within text (suc k) c here)
    ∙ ap (λ x. eqb x 10) (get_or_from_slice_get text (suc k) c 0 here) in
    ap₂ (λ x y. x && y) front rest

pub inside_by_cr : (text : List ℕ) (i c d : ℕ) → 1 ≤ i → slice_get text i ≡ Some c
    → slice_get text (i - 1) ≡ Some d → c ≡ 10 → eqb d 13 ≡ is_inside_crlf text i
inside_by_cr text i c d some here before lf =
    sym (inside_test text i c d some here before
    ∙ ap (λ x. eqb d 13 && eqb x 10) lf ∙ and-true (eqb d 13))

not_10 : (c : ℕ) → (c ≡ 10 → ⊥) → eqb c 10 ≡ false
not_10 c other = grind (arith, nat_tests)

pub outside_by_lf : (text : List ℕ) (i c : ℕ) → slice_get text i ≡ Some c → (c ≡ 10 → ⊥)
    → eqb c 10 ≡ is_inside_crlf text i
outside_by_lf text i c here other =
    let rest : begins_with_lf (drop i text) ≡ eqb c 10 =
    begins_first text i (slice_get_within text i c here)
    ∙ ap (λ x. eqb x 10) (get_or_from_slice_get text i c 0 here) in
    not_10 c other ∙ sym (ap (λ b. ends_in_cr (take i text) && b) (rest ∙ not_10 c other)
    ∙ never (ends_in_cr (take i text)))
