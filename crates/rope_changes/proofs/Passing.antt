-- Replacements that are passed, and indices that move through those that are left.
use Rattle.std.proofs.Common.{◌≡◌, ℕ, zero, suc, ◌+◌, ◌-◌, ◌%◌, ◌^◌, ◌<◌, ◌≤◌, List, [], ◌∷◌, length, get_or, set, drop, refl, ap, sym, ◌∙◌, subst, arith}
use Rattle.std.specs.Prelude.{map}
use Rattle.std.proofs.lemmas.List.{drop_all, drop_more}
use Rattle.rope_changes.specs.Ops.{Op, len_before, len_after}
use Rattle.rope_changes.specs.Change.{Edit, Change, keeping, inserting, deleting, ops_of, ops, AreApart, AreNormal}
use Rattle.rope_changes.specs.Moved.{moved}
use Rattle.rope_changes.specs.Packed.{AreLengthsOf}
use Rattle.rope_changes.specs.Passed.{step_of, IsPassed, IsBetween, mapped}
use Rattle.rope_changes.specs.declared.replacements.Lengths.{Lengths}
use Rattle.rope_changes.specs.declared.side.Side.{Side}
use Rattle.rope_changes.proofs.Prefixes.{keeping_before, kept_stays, inserted_passed, rest_stays}
use Rattle.rope_changes.proofs.Steps.{step_before, step_after, step_moved}

-- none is passed
pub none_passed : (c : Change) → IsPassed c (record { count = 0; end = 0; new_end = 0; start = 0 })
none_passed c = record {
  within = omega arith;
  moves =
      λ side i reaches. let whole : i - 0 ≡ i = omega arith in ap (moved side (ops c)) (sym whole)
      ∙ (let sum : moved side (ops c) (i - 0)
      ≡ 0 + moved side (ops c) (i - 0) = omega arith in sum);
  before_is = omega arith;
  after_is = omega arith;
}

-- the start of what a replacement in normal form keeps
pub apart_starts : (side : Side) (edits : List Edit) (rest : ℕ) → AreApart edits
    → moved side (ops_of edits rest) 0 ≡ 0
apart_starts side [] rest apart = rest_stays side rest 0 (omega arith)
apart_starts side (e ∷ edits) rest apart =
    kept_stays side e.kept 0 (inserting e.text (deleting e.deleted (ops_of edits rest)))
    (omega (arith, apart.0))

apart_later : (edits : List Edit) (k : ℕ) → AreApart edits → AreApart (drop k edits)
apart_later edits zero apart = apart
apart_later [] (suc k) apart = tt
apart_later (e ∷ edits) (suc k) apart = apart_later edits k apart.2

later_apart : (edits : List Edit) (k : ℕ) → AreNormal edits → AreApart (drop (suc k) edits)
later_apart [] k normal = tt
later_apart (e ∷ edits) k normal = apart_later edits k normal.1

pub normal_later : (edits : List Edit) (k : ℕ) → AreNormal edits → AreApart (drop (k + 1) edits)
normal_later edits k normal =
    let e : suc k ≡ k + 1 = omega arith in subst (λ n. AreApart (drop n edits)) e
    (later_apart edits k normal)

-- the next replacement, by its lengths
module _ (edits : List Edit) (rest k : ℕ) (e : Edit) (l : Lengths) (below : k < length edits)
    (are : AreLengthsOf (get_or edits k e) l) where
  abbrev pub later : List Op
  later = ops_of (drop (k + 1) edits) rest

  abbrev pub text : List ℕ
  text = (get_or edits k e).text

  pub ops_at : ops_of (drop k edits) rest ≡ step_of l text later
  ops_at =
      ap (λ es. ops_of es rest) (drop_more edits k e below)
      ∙ ap (λ n. keeping n (inserting text (deleting (get_or edits k e).deleted later)))
      (sym are.kept)
      ∙ ap (λ n. keeping l.kept (inserting text (deleting n later))) (sym are.deleted)

  pub next_passed : (end new_end start start' : ℕ)
      → IsPassed (record { edits = edits; rest = rest })
      (record { count = k; end = end; new_end = new_end; start = start })
      → IsPassed (record { edits = edits; rest = rest })
      (record {
        count = k + 1;
        end = end + (l.kept + l.deleted);
        new_end = new_end + (l.kept + l.inserted);
        start = start';
      })
  next_passed end new_end start start' passed =
      record {
        within = omega (arith, below);
        moves = λ side i reaches.
            let far : end + (l.kept + l.deleted) < i = reaches.more (omega arith) in
            let old = passed.moves side i (record { le = omega arith; more = λ _. omega arith }) in
            let through = step_moved l.kept text l.deleted later side (i - end) (omega arith)
            (inserted_passed side text (i - end - l.kept) (deleting l.deleted later) (omega arith))
            in
            let at : i - end - l.kept - l.deleted
            ≡ i - (end + (l.kept + l.deleted)) = omega arith in
            omega (
              arith,
              old,
              ap (λ x. moved side x (i - end)) ops_at,
              through,
              ap (moved side later) at,
              are.inserted,
            );
        before_is = omega (
          arith,
          passed.before_is,
          ap len_before ops_at,
          step_before l.kept text l.deleted later,
        );
        after_is = omega (
          arith,
          passed.after_is,
          ap len_after ops_at,
          step_after l.kept text l.deleted later,
          are.inserted,
        );
      }

  -- an index among the characters that it keeps
  pub between_next : (end new_end start : ℕ)
      → IsPassed (record { edits = edits; rest = rest })
      (record { count = k; end = end; new_end = new_end; start = start })
      → IsBetween (record { edits = edits; rest = rest })
      (record { count = k; end = end; new_end = new_end; start = end + l.kept })
  between_next end new_end start passed =
      record {
        within = omega (
          arith,
          passed.before_is,
          ap len_before ops_at,
          step_before l.kept text l.deleted later,
        );
        moves = λ side i after before.
            let old = passed.moves side i (record { le = omega arith; more = λ _. after }) in
            omega (
              arith,
              old,
              ap (λ x. moved side x (i - end)) ops_at,
              kept_stays side l.kept (i - end) (inserting text (deleting l.deleted later))
                  (omega arith),
            );
      }

-- an index after all replacements
pub between_last : (edits : List Edit) (rest k end new_end start start' : ℕ)
    → length edits ≤ k
    → IsPassed (record { edits = edits; rest = rest })
    (record { count = k; end = end; new_end = new_end; start = start })
    → start' ≡ len_before (ops_of edits rest) + 1
    → IsBetween (record { edits = edits; rest = rest })
    (record { count = k; end = end; new_end = new_end; start = start' })
between_last edits rest k end new_end start start' none passed last =
    record {
      within = omega arith;
      moves = λ side i after before.
          let old = passed.moves side i (record { le = omega arith; more = λ _. after }) in
          let nil : ops_of (drop k edits) rest ≡ keeping rest [] =
          ap (λ es. ops_of es rest) (drop_all k edits none) in
          omega (
            arith,
            old,
            ap (λ x. moved side x (i - end)) nil,
            ap len_before nil,
            keeping_before rest [],
            passed.before_is,
            rest_stays side rest (i - end) (omega (
              arith,
              ap len_before nil,
              keeping_before rest [],
              passed.before_is,
            )),
          );
    }

-- a difference that does not wrap, since it is below a small number
pub offset_is : (i first count : ℕ) → i < 2 ^ 64 → first + count < 2 ^ 64
    → (i + (2 ^ 64 - first)) % 2 ^ 64 < count → first + (i + (2 ^ 64 - first)) % 2 ^ 64 ≡ i
offset_is i first count fits small below = omega arith

-- a list whose first elements are mapped
pub mapped_at : (f : ℕ → ℕ) (i d : ℕ) (xs : List ℕ) → get_or (mapped f i xs) i d ≡ get_or xs i d
mapped_at f zero d xs = refl
mapped_at f (suc i) d [] = refl
mapped_at f (suc i) d (x ∷ xs) = mapped_at f i d xs

pub mapped_next : (f : ℕ → ℕ) (i d : ℕ) (xs : List ℕ) → i < length xs
    → set (mapped f i xs) i (f (get_or xs i d)) ≡ mapped f (i + 1) xs
mapped_next f i d [] below = absurd (omega arith)
mapped_next f zero d (x ∷ xs) below = refl
mapped_next f (suc i) d (x ∷ xs) below =
    ap (λ u. f x ∷ u) (mapped_next f i d xs (omega arith))
    ∙ (let e : suc (i + 1) ≡ suc i + 1 = omega arith in ap (λ n. mapped f n (x ∷ xs)) e)

pub mapped_all : (f : ℕ → ℕ) (n : ℕ) (xs : List ℕ) → length xs ≤ n → mapped f n xs ≡ map f xs
mapped_all f zero [] all = refl
mapped_all f zero (x ∷ xs) all = absurd (omega arith)
mapped_all f (suc n) [] all = refl
mapped_all f (suc n) (x ∷ xs) all = ap (λ u. f x ∷ u) (mapped_all f n xs (omega arith))

pub mapped_length : (f : ℕ → ℕ) (n : ℕ) (xs : List ℕ) → length (mapped f n xs) ≡ length xs
mapped_length f zero xs = refl
mapped_length f (suc n) [] = refl
mapped_length f (suc n) (x ∷ xs) = ap suc (mapped_length f n xs)
