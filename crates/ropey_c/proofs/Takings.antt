-- What a builder's bytes become.
use Rattle.std.proofs.Common.{◌≡◌, ◌≢◌, ℕ, ◌+◌, ◌-◌, ◌<◌, ◌≤◌, ◌^◌, List, [], ◌++◌, length, take, drop, None, refl, ap, sym, ◌∙◌, subst, arith, inl, inr, append_assoc, append-nil, zero-add}
use Rattle.std.proofs.lemmas.Bool.{cases_lt, cond-true, lt-ltb}
use Rattle.std.proofs.lemmas.List.{length-take, nil_from_length}
use Rattle.std.proofs.lemmas.Str.{chars-nil}
use Rattle.std.specs.Str.{chars}
use Rattle.std.specs.Str.Lossy.{utf8_valid_len}
use Rattle.rope_text.specs.Edit.{size_error}
use Rattle.rope_text.specs.Read.{text_front, text_rest}
use Rattle.rope_text.specs.Text.{byte_len}
use Rattle.ropey.specs.Building.{Building}
use Rattle.ropey_c.specs.Intake.{Taking, Takes, IsIntake}
use Rattle.ropey_c.specs.Status.{IsStatus}
use Rattle.ropey_c.specs.declared.status.TheConstants.{OK, INVALID_UTF8}
use Rattle.ropey_c.proofs.Pending as waits

-- what an intake shows keeps
pub record IsTaking (t : Taking) : Type 0 where
  pub fits : t.refused ≡ OK → byte_len t.text < 2 ^ 63
  pub short : length t.rest ≤ 3
  pub no_text : utf8_valid_len t.rest ≡ 0

pub taking_of : (texts : Building) (taken : ℕ) (rest : List ℕ) (rest_len refused : ℕ) (t : Taking)
    → IsIntake texts taken rest rest_len refused
    → record {
      text = texts.text;
      rest = take rest_len rest;
      breaks = texts.breaks;
      refused = refused;
    } ≡ t → IsTaking t
taking_of texts taken rest rest_len refused t i e =
    let shown : IsTaking (record {
      text = texts.text;
      rest = take rest_len rest;
      breaks = texts.breaks;
      refused = refused;
    }) = record {
      fits = λ open_. omega (arith, i.taken_is open_, i.fits);
      short = omega (arith, i.short, length-take rest_len rest);
      no_text = i.no_text;
    } in
    subst IsTaking e shown

-- a text and bytes following it were taken, where none waited
pub record Settles (old : Taking) (text bytes : List ℕ) (status valid_old valid_new : ℕ)
    (new : Taking) : Type 0 where
  pub faulty : 4 ≤ length (text_rest bytes) → status ≡ INVALID_UTF8
  pub fine : length (text_rest bytes) < 4
      → IsStatus (size_error (byte_len old.text + (length text + length (text_front bytes)))) status
  pub place : status ≡ INVALID_UTF8 → valid_new
      ≡ byte_len old.text + (length text + utf8_valid_len bytes)
  pub kept : status ≢ INVALID_UTF8 → valid_new ≡ valid_old
  pub taken : status ≡ OK → (new.text ≡ old.text ++ chars text ++ chars (text_front bytes))
      × (new.rest ≡ text_rest bytes)
  pub refused : new.refused ≡ status
  pub breaks : new.breaks ≡ old.breaks

-- no bytes change nothing
pub takes_none : (old : Taking) (bytes : List ℕ) (valid : ℕ) → IsTaking old → old.refused ≡ OK
    → bytes ≡ [] → Takes old bytes OK valid valid old
takes_none old bytes valid k open_ none =
    let Taken : List ℕ → Type 0 = λ all. Takes old all OK valid valid old in
    let whole : old.rest ++ [] ≡ old.rest = append-nil old.rest in
    let len : utf8_valid_len (old.rest ++ []) ≡ 0 = ap utf8_valid_len whole ∙ k.no_text in
    let front : text_front (old.rest ++ []) ≡ [] = ap (λ n. take n (old.rest ++ [])) len in
    let rest : text_rest (old.rest ++ []) ≡ old.rest = ap (λ n. drop n (old.rest ++ [])) len
    ∙ whole in
    let size : size_error (byte_len old.text + length (text_front (old.rest ++ []))) ≡ None =
    cond-true _ _ _ (lt-ltb (byte_len old.text + length (text_front (old.rest ++ []))) (2 ^ 63)
    (omega (arith, ap length front, k.fits open_))) in
    subst Taken (sym none) (record {
      earlier = λ closed. absurd (closed open_);
      faulty = λ _ four. absurd (omega (arith, ap length rest, k.short));
      fine = λ _ _. rw size (inl refl);
      place = λ _ bad. absurd (omega (arith, bad));
      kept = λ _. refl;
      taken = λ _. (
        sym (ap (λ xs. old.text ++ chars xs) front ∙ ap (λ xs. old.text ++ xs) chars-nil
            ∙ append-nil old.text),
        sym rest,
      );
      empty = λ _ _. (refl, refl);
      refused = open_;
      breaks = refl;
    })

module _ (old new : Taking) (bytes : List ℕ) (status valid_old valid_new : ℕ)
    (open_ : old.refused ≡ OK) (some : 0 < length bytes) where
  -- nothing waited
  pub takes_all : length old.rest ≡ 0 → Settles old [] bytes status valid_old valid_new new
      → Takes old bytes status valid_old valid_new new
  takes_all none s =
      let all : bytes ≡ old.rest ++ bytes =
      ap (λ xs. xs ++ bytes) (sym (nil_from_length old.rest none)) in
      let Left : List ℕ → Type 0 = λ xs. 4 ≤ length (text_rest xs) → status ≡ INVALID_UTF8 in
      let Fits : List ℕ → Type 0 = λ xs. length (text_rest xs) < 4
      → IsStatus (size_error (byte_len old.text + length (text_front xs))) status in
      let Told : List ℕ → Type 0 = λ xs. status ≡ INVALID_UTF8
      → valid_new ≡ byte_len old.text + utf8_valid_len xs in
      let Grown : List ℕ → Type 0 = λ xs. status ≡ OK
      → (new.text ≡ old.text ++ chars (text_front xs)) × (new.rest ≡ text_rest xs) in
      let front = chars (text_front bytes) in
      let Sized : ℕ → Type 0 = λ n. IsStatus (size_error (byte_len old.text + n)) status in
      record {
        earlier = λ closed. absurd (closed open_);
        faulty = λ _. subst Left all s.faulty;
        fine = λ _. subst Fits all
            (λ few. subst Sized (zero-add (length (text_front bytes))) (s.fine few));
        place = λ _. subst Told all (λ bad. s.place bad
            ∙ ap (λ n. byte_len old.text + n) (zero-add (utf8_valid_len bytes)));
        kept = s.kept;
        taken = subst Grown all (λ ok. (
          (s.taken ok).0
              ∙ ap (λ xs. xs ++ front) (ap (λ xs. old.text ++ xs) chars-nil ∙ append-nil old.text),
          (s.taken ok).1,
        ));
        empty = λ _ zero. absurd (omega arith);
        refused = s.refused;
        breaks = s.breaks;
      }

  module _ (k : ℕ) (no_text : utf8_valid_len old.rest ≡ 0) (few : length old.rest ≤ 3) where
    -- the bytes that wait begin a text with some more
    pub takes_split : 0 < utf8_valid_len (old.rest ++ take k bytes)
        → Settles old (text_front (old.rest ++ take k bytes))
        (drop (utf8_valid_len (old.rest ++ take k bytes) - length old.rest) bytes) status valid_old
        valid_new new
        → Takes old bytes status valid_old valid_new new
    takes_split more s =
        let rest = waits.split_rest old.rest bytes k no_text more in
        let front = waits.split_front_len old.rest bytes k no_text more in
        let len = waits.split_len old.rest bytes k no_text more in
        let texts = waits.split_chars old.rest bytes k no_text more in
        let Left : List ℕ → Type 0 = λ xs. 4 ≤ length xs → status ≡ INVALID_UTF8 in
        let Short : List ℕ → Type 0 = λ xs. length xs < 4 in
        let Fits : ℕ → Type 0 = λ n. IsStatus (size_error (byte_len old.text + n)) status in
        let first = chars (text_front (old.rest ++ take k bytes)) in
        record {
          earlier = λ closed. absurd (closed open_);
          faulty = λ _. subst Left (sym rest) s.faulty;
          fine = λ _ l. subst Fits (sym front) (s.fine (subst Short rest l));
          place = λ _ bad. s.place bad ∙ ap (λ n. byte_len old.text + n) (sym len);
          kept = s.kept;
          taken = λ ok. (
            (s.taken ok).0 ∙ append_assoc old.text first _
                ∙ ap (λ xs. old.text ++ xs) (sym texts),
            (s.taken ok).1 ∙ sym rest,
          );
          empty = λ _ zero. absurd (omega arith);
          refused = s.refused;
          breaks = s.breaks;
        }

    -- they don't
    pub takes_head : k ≡ 4 - length old.rest → utf8_valid_len (old.rest ++ take k bytes) ≡ 0
        → Settles old [] (old.rest ++ take k bytes) status valid_old valid_new new
        → Takes old bytes status valid_old valid_new new
    takes_head k_is nothing s =
        let head = old.rest ++ take k bytes in
        let all = old.rest ++ bytes in
        let none = waits.none_in_all old.rest bytes k no_text nothing few k_is in
        let rest = waits.rest_of_all old.rest bytes k no_text nothing few k_is in
        let front = waits.front_of_all old.rest bytes k no_text nothing few k_is in
        let head_rest = waits.rest_of_head old.rest bytes k no_text nothing few k_is in
        let head_front = waits.front_of_head old.rest bytes k no_text nothing few k_is in
        let many_more : 4 ≤ length head → 4 ≤ length all =
        waits.as_many old.rest bytes k no_text nothing few k_is in
        let whole : length head < 4 → head ≡ all =
        waits.whole old.rest bytes k no_text nothing few k_is in
        let many : 4 ≤ length all → 4 ≤ length head = λ l. elim (cases_lt (length head) 4) [
          | inl less ↦ absurd (omega (arith, ap length (whole less)))
          | inr more ↦ more
        ] in
        let fault : 4 ≤ length head → status ≡ INVALID_UTF8 =
        λ l. s.faulty (omega (arith, ap length head_rest)) in
        let short : length all < 4 → length head < 4 = λ l. elim (cases_lt (length head) 4) [
          | inl less ↦ less
          | inr more ↦ absurd (omega (arith, many_more more))
        ] in
        let Sized : ℕ → Type 0 = λ n. IsStatus (size_error (byte_len old.text + n)) status in
        record {
          earlier = λ closed. absurd (closed open_);
          faulty = λ _ four. fault (many (omega (arith, ap length rest)));
          fine = λ _ l. subst Sized (zero-add (length (text_front head))
              ∙ ap length (head_front ∙ sym front))
              (s.fine (let h = short (omega (arith, ap length rest)) in
              omega (arith, ap length head_rest)));
          place = λ _ bad. s.place bad
              ∙ ap (λ n. byte_len old.text + n) (zero-add (utf8_valid_len head) ∙ nothing
              ∙ sym none);
          kept = s.kept;
          taken = λ ok. elim (cases_lt (length head) 4) [
            | inl less ↦
                let grown : new.text ≡ old.text = (s.taken ok).0
                ∙ ap (λ xs. old.text ++ chars [] ++ chars xs) head_front
                ∙ ap (λ xs. old.text ++ xs ++ xs) chars-nil ∙ append-nil _ ∙ append-nil old.text in
                let same : old.text ++ chars (text_front all) ≡ old.text =
                ap (λ xs. old.text ++ chars xs) front ∙ ap (λ xs. old.text ++ xs) chars-nil
                ∙ append-nil old.text in
                (grown ∙ sym same, (s.taken ok).1 ∙ head_rest ∙ whole less ∙ sym rest)
            | inr more ↦ let bad = fault more in absurd (omega (arith, bad, ok))
          ];
          empty = λ _ zero. absurd (omega arith);
          refused = s.refused;
          breaks = s.breaks;
        }
