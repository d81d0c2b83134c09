-- A writing under way.
use Rattle.std.proofs.Common.{◌≡◌, ◌+◌, ◌<◌, ℕ, Bool, false, true, List, [], ◌∷◌, ◌++◌, arith, refl, cond, sym, ap, subst, ◌∙◌, append_assoc, Option, None, Some}
use Rattle.std.proofs.KnownBytes.{Appends-trans}
use Rattle.std.proofs.lemmas.Bool.{ltb-false}
use Rattle.std.proofs.lemmas.List.{append-nil}
use Rattle.std.specs.Io.KnownBytes.{Appends}
use Rattle.rope_io.specs.Writing.{AppendsFront}
use Rattle.rope_io.proofs.Writings.{front_more}
use Rattle.rope_files.specs.Encodings.{encode, layout_of, mark_of}
use Rattle.rope_files.specs.Layouts.{laid_out, char_bytes, bytes_in}
use Rattle.rope_files.specs.Writing.{first_above, unencodable_in}
use Rattle.rope_files.specs.declared.encoding.Encoding.{Encoding}
use Rattle.rope_files.specs.declared.encoding.Encoding.TheVariants.{Utf8, Utf8Bom, Utf16Le, Utf16LeBom, Utf16Be, Utf16BeBom, Latin1}
use Rattle.rope_files.specs.declared.layout.Layout.{Layout}
use Rattle.rope_files.specs.declared.layout.Layout.TheVariants.{Bytes, CodeUnits}
use Rattle.rope_files.proofs.Decodings.{laid_out-append}

-- the bytes of the mark and the characters before those ahead were sent, or are gathered
pub record IsGathering (l : Layout) (start now : Option (List ℕ))
    (mark text ahead gathered : List ℕ) : Type 0 where
  pub sent : List ℕ
  pub before : List ℕ
  pub passed : text ≡ before ++ ahead
  pub whole : sent ++ gathered ≡ mark ++ laid_out l before
  pub appended : Appends start now sent

-- each character ahead has its bytes
pub record CanHave (l : Layout) (ahead : List ℕ) : Type 0 where
  pub index : ℕ
  pub can : l ≡ Bytes → first_above index ahead ≡ None

-- a beginning of the mark is one of the file
pub front_front : (old new : Option (List ℕ)) (xs ys : List ℕ) → AppendsFront old new xs
    → AppendsFront old new (xs ++ ys)
front_front old new xs ys p = record {
  front = p.front;
  back = p.back ++ ys;
  whole = ap (λ zs. zs ++ ys) p.whole
      ∙ append_assoc p.front p.back ys;
  appended = p.appended;
}

-- a beginning of what follows what was appended whole
pub front_after : (old mid new : Option (List ℕ)) (xs ys : List ℕ) → Appends old mid xs
    → AppendsFront mid new ys → AppendsFront old new (xs ++ ys)
front_after old mid new xs ys p q = front_more old mid new (xs ++ ys) xs ys []
    (ap (λ zs. xs ++ zs) (sym (append-nil ys))) p q

first_bytes : (i : ℕ) (b : Bool) (rest : Option ℕ) → cond b (Some i) rest ≡ None → (b ≡ false)
    × (rest ≡ None)
first_bytes i false rest e = (refl, e)
first_bytes i true rest e = cc

pub can_first : (l : Layout) (c : ℕ) (more : List ℕ) → CanHave l (c ∷ more) → l ≡ Bytes → c < 0x100
can_first l c more h e = omega (arith, ltb-false 0xFF c (first_bytes h.index _ _ (h.can e)).0)

pub can_rest : (l : Layout) (c : ℕ) (more : List ℕ) → CanHave l (c ∷ more) → CanHave l more
can_rest l c more h = record {
  index = h.index + 1;
  can = λ e. (first_bytes h.index _ _ (h.can e)).1;
}

pub can_all : (l : Layout) (text : List ℕ) → unencodable_in (Some l) text ≡ None → CanHave l text
can_all Bytes text e = record { index = 0; can = λ _. e }
can_all (CodeUnits o) text e = record { index = 0; can = λ same. cc }

-- before the first character
pub gather_none : (l : Layout) (start now : Option (List ℕ)) (mark text ahead gathered : List ℕ)
    → ahead ≡ text → gathered ≡ [] → Appends start now mark
    → IsGathering l start now mark text ahead gathered
gather_none l start now mark text ahead gathered all none p = record {
  sent = mark;
  before = [];
  passed = sym all;
  whole = ap (λ xs. mark ++ xs) none;
  appended = p;
}

module _ (l : Layout) (start now new : Option (List ℕ)) (mark text gathered : List ℕ) where
  -- one more character
  pub gather_more : (ahead more sent_now kept after : List ℕ) (c : ℕ)
      → IsGathering l start now mark text ahead gathered → ahead ≡ c ∷ more
      → gathered ≡ sent_now ++ kept → Appends now new sent_now → after ≡ kept ++ char_bytes l c
      → IsGathering l start new mark text more after
  gather_more ahead more sent_now kept after c i e f p q = record {
    sent = i.sent ++ sent_now;
    before = i.before ++ c ∷ [];
    passed = i.passed ∙ ap (λ xs. i.before ++ xs) e ∙ sym (append_assoc i.before (c ∷ []) more);
    whole = ap (λ xs. (i.sent ++ sent_now) ++ xs) q
        ∙ sym (append_assoc (i.sent ++ sent_now) kept (char_bytes l c))
        ∙ ap (λ xs. xs ++ char_bytes l c)
        (append_assoc i.sent sent_now kept ∙ ap (λ xs. i.sent ++ xs) (sym f) ∙ i.whole)
        ∙ append_assoc mark (laid_out l i.before) (char_bytes l c)
        ∙ ap (λ xs. mark ++ xs) (ap (λ xs. laid_out l i.before ++ xs)
        (sym (append-nil (char_bytes l c))) ∙ sym (laid_out-append l i.before (c ∷ [])));
    appended = Appends-trans start now new i.sent sent_now i.appended p;
  }

  -- the whole file, as what was sent, what is gathered and what is ahead
  pub gathered_whole : (ahead : List ℕ) (i : IsGathering l start now mark text ahead gathered)
      → mark ++ laid_out l text ≡ i.sent ++ (gathered ++ laid_out l ahead)
  gathered_whole ahead i =
      ap (λ xs. mark ++ xs) (ap (λ xs. laid_out l xs) i.passed ∙ laid_out-append l i.before ahead)
      ∙ sym (append_assoc mark (laid_out l i.before) (laid_out l ahead))
      ∙ ap (λ xs. xs ++ laid_out l ahead) (sym i.whole)
      ∙ append_assoc i.sent gathered (laid_out l ahead)

  pub gathered_front : (ahead : List ℕ) (i : IsGathering l start now mark text ahead gathered)
      → AppendsFront now new gathered → AppendsFront start new (mark ++ laid_out l text)
  gathered_front ahead i q = front_more start now new (mark ++ laid_out l text) i.sent gathered
      (laid_out l ahead) (gathered_whole ahead i) i.appended q

  pub gathered_all : (ahead : List ℕ) (i : IsGathering l start now mark text ahead gathered)
      → ahead ≡ [] → Appends now new gathered → Appends start new (mark ++ laid_out l text)
  gathered_all ahead i e p =
      subst (Appends start new) (sym
      (gathered_whole ahead i ∙ ap (λ xs. i.sent ++ (gathered ++ laid_out l xs)) e
      ∙ ap (λ xs. i.sent ++ xs) (append-nil gathered)))
      (Appends-trans start now new i.sent gathered i.appended p)

in_encoding : (e : Encoding) (text : List ℕ)
    → mark_of e ++ bytes_in (layout_of e) text ≡ encode e text
in_encoding Utf8 text = refl
in_encoding Utf8Bom text = refl
in_encoding Utf16Le text = refl
in_encoding Utf16LeBom text = refl
in_encoding Utf16Be text = refl
in_encoding Utf16BeBom text = refl
in_encoding Latin1 text = refl

-- the mark and the bytes in the layout of an encoding are those of a file in it
pub encoded : (e : Encoding) (layout : Option Layout) (mark text : List ℕ) → layout ≡ layout_of e
    → mark ≡ mark_of e → mark ++ bytes_in layout text ≡ encode e text
encoded e layout mark text p q = ap (λ l. mark ++ bytes_in l text) p
    ∙ ap (λ m. m ++ bytes_in (layout_of e) text) q ∙ in_encoding e text

pub appends_encoded : (old mid new : Option (List ℕ)) (e : Encoding) (layout : Option Layout)
    (mark text : List ℕ) → mid ≡ old → layout ≡ layout_of e → mark ≡ mark_of e
    → Appends mid new (mark ++ bytes_in layout text) → Appends old new (encode e text)
appends_encoded old mid new e layout mark text same p q h =
    subst (λ o. Appends o new (encode e text)) same
    (subst (Appends mid new) (encoded e layout mark text p q) h)

pub front_encoded : (old mid new : Option (List ℕ)) (e : Encoding) (layout : Option Layout)
    (mark text : List ℕ) → mid ≡ old → layout ≡ layout_of e → mark ≡ mark_of e
    → AppendsFront mid new (mark ++ bytes_in layout text) → AppendsFront old new (encode e text)
front_encoded old mid new e layout mark text same p q h =
    subst (λ o. AppendsFront o new (encode e text)) same
    (subst (AppendsFront mid new) (encoded e layout mark text p q) h)
