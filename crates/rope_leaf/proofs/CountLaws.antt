-- The counts of a text after an insert into it, or after a removal.
use Rattle.std.proofs.Common.{◌≡◌, ℕ, ◌+◌, ◌-◌, ◌<◌, ◌≤◌, Bool, true, false, ◌&&◌, cond, eqb, List, [], ◌∷◌, ◌++◌, length, take, drop, refl, sym, ap, subst, ◌∙◌, arith, inl, inr}
use Rattle.std.proofs.lemmas.Bool.{cases_Bool, eqb-true}
use Rattle.std.proofs.lemmas.List.{take-append-drop, length-append, length-take, length-drop, drop-drop}
use Rattle.rope_text.specs.declared.line_breaks.LineBreaks.{LineBreaks}
use Rattle.rope_text.specs.declared.line_breaks.LineBreaks.TheVariants.{Lf, CrLf, Unicode}
use Rattle.rope_text.specs.declared.text_info.TextInfo.{TextInfo}
use Rattle.rope_text.specs.Text.{byte_len, surrogate_count}
use Rattle.rope_text.specs.Breaks.{is_break_char, break_count, ends_in_cr, begins_with_lf}
use Rattle.rope_text.specs.Cutting.{parts_crlf}
use Rattle.rope_text.specs.Edit.{inserted, removed}
use Rattle.rope_text.specs.TextInfo.{info_of, info_sum, shared_breaks, HasPart}
use Rattle.rope_text.proofs.BreakLaws.{break_count-append, break_count-cons, break_char_13, one_less}
use Rattle.rope_text.proofs.InfoLaws.{surrogate_count-append}
use Rattle.rope_text.proofs.Measures.{IsMeasure-byte_len}
use Rattle.rope_leaf.proofs.InsertTrees.{inserted_is, byte_len-inserted, length-inserted}

shared_first : (breaks : LineBreaks) (f a b : List ℕ) → 1 ≤ length a
    → shared_breaks breaks f (a ++ b) ≡ shared_breaks breaks f a
shared_first breaks f [] b some = absurd (omega arith)
shared_first breaks f (x ∷ xs) b some = refl

-- the line breaks, with one less for each CR that meets an LF
pub breaks_inserted : (breaks : LineBreaks) (f a b : List ℕ) → 1 ≤ length a
    → break_count breaks (f ++ (a ++ b)) + (shared_breaks breaks f a + shared_breaks breaks a b)
    ≡ (break_count breaks (f ++ b) + break_count breaks a) + shared_breaks breaks f b
breaks_inserted breaks f a b some =
    omega (
      arith,
      break_count-append breaks f (a ++ b),
      break_count-append breaks a b,
      break_count-append breaks f b,
      shared_first breaks f a b some,
    )

-- a text has at least the line breaks that it shares with the text after it
shared_after : (breaks : LineBreaks) (a b : List ℕ)
    → shared_breaks breaks a b ≤ break_count breaks a
shared_after breaks [] b = omega arith
shared_after breaks (c ∷ []) b =
    omega (
      arith,
      one_less (is_break_char breaks c) (eqb c 13) (begins_with_lf b)
          (is_break_char breaks 13) (break_char_13 breaks c),
      break_count-cons breaks c [],
    )
shared_after breaks (c ∷ d ∷ a) b =
    omega (arith, shared_after breaks (d ∷ a) b, break_count-cons breaks c (d ∷ a))

-- an LF is a line break of every set
lf_counts : (breaks : LineBreaks) (a : List ℕ)
    → break_count breaks (10 ∷ a) ≡ 1 + break_count breaks a
lf_counts Lf a = break_count-cons Lf 10 a
lf_counts CrLf a = break_count-cons CrLf 10 a
lf_counts Unicode a = break_count-cons Unicode 10 a

-- a text that begins with LF has at least one line break more than it shares with the text after it
shared_after_lf : (breaks : LineBreaks) (a b : List ℕ)
    → 1 + shared_breaks breaks (10 ∷ a) b ≤ break_count breaks (10 ∷ a)
shared_after_lf breaks [] b = omega (arith, lf_counts breaks [])
shared_after_lf breaks (d ∷ a) b =
    omega (arith, lf_counts breaks (d ∷ a), shared_after breaks (d ∷ a) b)

shared_before : (p q r : Bool) → cond {A = ℕ} ((p && q) && r) 1 0 ≤ cond {A = ℕ} q 1 0
shared_before true true true = omega arith
shared_before true true false = omega arith
shared_before true false r = omega arith
shared_before false q r = omega arith

shared_at_ends : (breaks : LineBreaks) (x : ℕ) (a b : List ℕ)
    → cond {A = ℕ} (eqb x 10) 1 0 + shared_breaks breaks (x ∷ a) b ≤ break_count breaks (x ∷ a)
shared_at_ends breaks x a b = elim (cases_Bool (eqb x 10)) [
  | inl lf ↦ subst (λ y. cond {A = ℕ} (eqb y 10) 1 0 + shared_breaks breaks (y ∷ a) b ≤ break_count
      breaks (y ∷ a)) (sym (eqb-true x 10 lf)) (shared_after_lf breaks a b)
  | inr off ↦ rw off (omega (arith, shared_after breaks (x ∷ a) b))
]

shared_around : (breaks : LineBreaks) (f a b : List ℕ) → 1 ≤ length a
    → shared_breaks breaks f a + shared_breaks breaks a b ≤ break_count breaks a
shared_around breaks f [] b some = absurd (omega arith)
shared_around breaks f (x ∷ a) b some =
    omega (
      arith,
      shared_before (ends_in_cr f) (eqb x 10) (is_break_char breaks 13),
      shared_at_ends breaks x a b,
    )

-- no count falls by an insert
counts_around : (breaks : LineBreaks) (f a b : List ℕ) → 1 ≤ length a
    → HasPart (info_of breaks (f ++ (a ++ b))) (info_of breaks (f ++ b))
counts_around breaks f a b some = record {
  bytes = omega (
    arith,
    IsMeasure-byte_len.joined f (a ++ b),
    IsMeasure-byte_len.joined a b,
    IsMeasure-byte_len.joined f b,
  );
  chars = omega (arith, length-append f (a ++ b), length-append a b, length-append f b);
  pairs = omega (
    arith,
    surrogate_count-append f (a ++ b),
    surrogate_count-append a b,
    surrogate_count-append f b,
  );
  breaks = omega (arith, breaks_inserted breaks f a b some, shared_around breaks f a b some);
}

pub counts_grow : (breaks : LineBreaks) (text a : List ℕ) (at : ℕ) → 1 ≤ length a
    → HasPart (info_of breaks (inserted text at a)) (info_of breaks text)
counts_grow breaks text a at some =
    let around = counts_around breaks (take at text) a (drop at text) some in
    rw (inserted_is text at a)
    (subst (λ t. HasPart (info_of breaks (take at text ++ (a ++ drop at text))) (info_of breaks t))
    (take-append-drop at text) around)

-- no count grows by a removal
pub counts_fall : (breaks : LineBreaks) (text : List ℕ) (start end : ℕ) → start < end
    → end ≤ length text → HasPart (info_of breaks text) (info_of breaks (removed text start end))
counts_fall breaks text start end order within =
    let part = take (end - start) (drop start text) in
    let tail : drop (end - start) (drop start text) ≡ drop end text =
    drop-drop (end - start) start text ∙ ap (λ n. drop n text) (omega arith) in
    let following : part ++ drop end text ≡ drop start text = ap (λ t. part ++ t) (sym tail)
    ∙ take-append-drop (end - start) (drop start text) in
    let whole : take start text ++ (part ++ drop end text) ≡ text =
    ap (λ t. take start text ++ t) following ∙ take-append-drop start text in
    let some : 1 ≤ length part =
    omega (arith, length-take (end - start) (drop start text), length-drop start text) in
    subst (λ t. HasPart (info_of breaks t) (info_of breaks (removed text start end))) whole
    (counts_around breaks (take start text) part (drop end text) some)

-- no CR meets an LF
pub none_shared : (breaks : LineBreaks) (s t : List ℕ) → ends_in_cr s ≡ false
    → shared_breaks breaks s t ≡ 0
none_shared breaks s t no_cr =
    ap (λ b. cond {A = ℕ} ((b && begins_with_lf t) && is_break_char breaks 13) 1 0) no_cr

-- the counts of the old text and of the new one give the counts of both
pub info_inserted : (breaks : LineBreaks) (text a : List ℕ) (at : ℕ) (more : TextInfo) (n : ℕ)
    → 1 ≤ length a → more ≡ info_sum (info_of breaks text) (info_of breaks a)
    → n + (shared_breaks breaks (take at text) a + shared_breaks breaks a (drop at text))
    ≡ more.break_count + shared_breaks breaks (take at text) (drop at text)
    → ◌≡◌ {A = TextInfo} (record {
      bytes = more.bytes;
      chars = more.chars;
      utf16_surrogates = more.utf16_surrogates;
      break_count = n;
    }) (info_of breaks (inserted text at a))
info_inserted breaks text a at more n some sums left =
    let whole = take-append-drop at text in
    let is = inserted_is text at a in
    let bytes : more.bytes ≡ byte_len (inserted text at a) =
    omega (arith, ap (λ i. i.bytes) sums, byte_len-inserted text at a) in
    let chars : more.chars ≡ length (inserted text at a) =
    omega (arith, ap (λ i. i.chars) sums, length-inserted text at a) in
    let pairs : more.utf16_surrogates ≡ surrogate_count (inserted text at a) =
    omega (
      arith,
      ap (λ i. i.utf16_surrogates) sums,
      ap surrogate_count is,
      ap surrogate_count whole,
      surrogate_count-append (take at text) (a ++ drop at text),
      surrogate_count-append a (drop at text),
      surrogate_count-append (take at text) (drop at text),
    ) in
    let count : n ≡ break_count breaks (inserted text at a) =
    omega (
      arith,
      ap (λ i. i.break_count) sums,
      ap (break_count breaks) is,
      ap (break_count breaks) whole,
      breaks_inserted breaks (take at text) a (drop at text) some,
      left,
    ) in
    cc

-- where no CR meets an LF, the counts are sums
pub info_apart : (breaks : LineBreaks) (f a b : List ℕ) (more : TextInfo) → 1 ≤ length a
    → more ≡ info_sum (info_of breaks (f ++ b)) (info_of breaks a)
    → ends_in_cr f ≡ false → ends_in_cr a ≡ false → more ≡ info_of breaks (f ++ (a ++ b))
info_apart breaks f a b more some sums no_cr no_cr_within =
    let count : more.break_count ≡ break_count breaks (f ++ (a ++ b)) =
    omega (
      arith,
      ap (λ i. i.break_count) sums,
      breaks_inserted breaks f a b some,
      none_shared breaks f a no_cr,
      none_shared breaks f b no_cr,
      none_shared breaks a b no_cr_within,
    ) in
    let bytes : more.bytes ≡ byte_len (f ++ (a ++ b)) =
    omega (
      arith,
      ap (λ i. i.bytes) sums,
      IsMeasure-byte_len.joined f (a ++ b),
      IsMeasure-byte_len.joined a b,
      IsMeasure-byte_len.joined f b,
    ) in
    let chars : more.chars ≡ length (f ++ (a ++ b)) =
    omega (
      arith,
      ap (λ i. i.chars) sums,
      length-append f (a ++ b),
      length-append a b,
      length-append f b,
    ) in
    let pairs : more.utf16_surrogates ≡ surrogate_count (f ++ (a ++ b)) =
    omega (
      arith,
      ap (λ i. i.utf16_surrogates) sums,
      surrogate_count-append f (a ++ b),
      surrogate_count-append a b,
      surrogate_count-append f b,
    ) in
    cc

pub shared_le : (breaks : LineBreaks) (s t : List ℕ) → shared_breaks breaks s t ≤ 1
shared_le breaks s t =
    elim (parts_crlf s t && is_break_char breaks 13) as (λ b. cond {A = ℕ} b 1 0 ≤ 1) [
      | true ↦
          omega arith
      | false ↦ omega arith
    ]

pub record Corrects (breaks : LineBreaks) (text a : List ℕ) (at : ℕ) (more : TextInfo)
    (apart met : ℕ) : Type 0 where
  pub apart_le : apart ≤ 1
  pub met_le : met ≤ more.break_count + apart
  pub whole : ◌≡◌ {A = TextInfo} (record {
    bytes = more.bytes;
    chars = more.chars;
    utf16_surrogates = more.utf16_surrogates;
    break_count = more.break_count + apart - met;
  }) (info_of breaks (inserted text at a))

-- the line breaks are corrected where the texts meet
pub corrects : (breaks : LineBreaks) (text a front back : List ℕ) (at : ℕ) (more : TextInfo)
    (apart first second : ℕ) → 1 ≤ length a
    → front ≡ take at text → back ≡ drop at text
    → more ≡ info_sum (info_of breaks text) (info_of breaks a)
    → apart ≡ shared_breaks breaks front back → first ≡ shared_breaks breaks front a
    → second ≡ shared_breaks breaks a back → Corrects breaks text a at more apart (first + second)
corrects breaks text a front back at more apart first second some is_front is_back sums apart_is
    first_is second_is =
    let count =
    ap (break_count breaks) (ap (λ f. f ++ (a ++ back)) is_front
    ∙ ap (λ b. take at text ++ (a ++ b)) is_back ∙ sym (inserted_is text at a)) in
    let old =
    ap (break_count breaks) (ap (λ f. f ++ back) is_front ∙ ap (λ b. take at text ++ b) is_back
    ∙ take-append-drop at text) in
    let sum = ap (λ i. i.break_count) sums in
    let even = breaks_inserted breaks front a back some in
    let n : ℕ = more.break_count + apart - (first + second) in
    let left : n + (first + second) ≡ more.break_count + apart =
    omega (arith, even, count, old, sum, apart_is, first_is, second_is) in
    record {
      apart_le = omega (arith, apart_is, shared_le breaks front back);
      met_le = omega (arith, even, count, old, sum, apart_is, first_is, second_is);
      whole = info_inserted breaks text a at more n some sums
          (rw (sym is_front, sym is_back) (omega (arith, left, apart_is, first_is, second_is)));
    }

pub record Uncounts (breaks : LineBreaks) (front back : List ℕ) (info less : TextInfo)
    (met meeting : ℕ) : Type 0 where
  pub bytes_le : less.bytes ≤ info.bytes
  pub chars_le : less.chars ≤ info.chars
  pub pairs_le : less.utf16_surrogates ≤ info.utf16_surrogates
  pub breaks_le : less.break_count ≤ info.break_count + met
  pub meeting_le : meeting ≤ info.break_count + met - less.break_count
  pub met_le : met ≤ 2
  pub whole : ◌≡◌ {A = TextInfo} (record {
    bytes = info.bytes - less.bytes;
    chars = info.chars - less.chars;
    utf16_surrogates = info.utf16_surrogates - less.utf16_surrogates;
    break_count = info.break_count + met - less.break_count - meeting;
  })
      (info_of breaks (front ++ back))

-- the counts of a text less those of a slice, with the line breaks corrected where the slice met
-- its neighbours and where these meet
pub uncounts : (breaks : LineBreaks) (front part back : List ℕ) (info less : TextInfo)
    (first second meeting : ℕ) → 1 ≤ length part → info ≡ info_of breaks (front ++ (part ++ back))
    → less ≡ info_of breaks part
    → first ≡ shared_breaks breaks front part → second ≡ shared_breaks breaks part back
    → meeting ≡ shared_breaks breaks front back
    → Uncounts breaks front back info less (first + second) meeting
uncounts breaks front part back info less first second meeting some all own first_is second_is
    meeting_is =
    let bytes = ap (λ i. i.bytes) all in
    let chars = ap (λ i. i.chars) all in
    let pairs = ap (λ i. i.utf16_surrogates) all in
    let count = ap (λ i. i.break_count) all in
    let less_bytes = ap (λ i. i.bytes) own in
    let less_chars = ap (λ i. i.chars) own in
    let less_pairs = ap (λ i. i.utf16_surrogates) own in
    let less_breaks = ap (λ i. i.break_count) own in
    let joined = IsMeasure-byte_len.joined front (part ++ back) in
    let even = breaks_inserted breaks front part back some in
    let b : info.bytes ≡ less.bytes + byte_len (front ++ back) =
    omega (
      arith,
      bytes,
      less_bytes,
      joined,
      IsMeasure-byte_len.joined part back,
      IsMeasure-byte_len.joined front back,
    ) in
    let c : info.chars ≡ less.chars + length (front ++ back) =
    omega (
      arith,
      chars,
      less_chars,
      length-append front (part ++ back),
      length-append part back,
      length-append front back,
    ) in
    let p : info.utf16_surrogates ≡ less.utf16_surrogates + surrogate_count (front ++ back) =
    omega (
      arith,
      pairs,
      less_pairs,
      surrogate_count-append front (part ++ back),
      surrogate_count-append part back,
      surrogate_count-append front back,
    ) in
    let l : info.break_count + (first + second)
    ≡ less.break_count + break_count breaks (front ++ back) + meeting =
    omega (arith, count, less_breaks, even, first_is, second_is, meeting_is) in
    let bytes_left : info.bytes - less.bytes ≡ byte_len (front ++ back) = omega (arith, b) in
    let chars_left : info.chars - less.chars ≡ length (front ++ back) = omega (arith, c) in
    let pairs_left : info.utf16_surrogates - less.utf16_surrogates
    ≡ surrogate_count (front ++ back) = omega (arith, p) in
    let breaks_left : info.break_count + (first + second) - less.break_count - meeting
    ≡ break_count breaks (front ++ back) = omega (arith, l) in
    record {
      bytes_le = omega (arith, b);
      chars_le = omega (arith, c);
      pairs_le = omega (arith, p);
      breaks_le = omega (arith, l);
      meeting_le = omega (arith, l);
      met_le = omega (
        arith,
        first_is,
        second_is,
        shared_le breaks front part,
        shared_le breaks part back,
      );
      whole = cc;
    }
