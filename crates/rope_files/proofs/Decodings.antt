-- A decoding under way.
use Rattle.std.proofs.Common.{◌≡◌, ℕ, ◌+◌, ◌-◌, ◌^◌, ◌<◌, ◌≤◌, min, Bool, true, false, List, [], ◌∷◌, ◌++◌, length, take, drop, refl, sym, ap, subst, ◌∙◌, append_assoc, arith, inl, inr, cond, Option, Some, None, Result, Ok, Err}
use Rattle.std.proofs.Math.Seq.{take-add}
use Rattle.std.proofs.lemmas.Bool.{ltb-true}
use Rattle.std.proofs.lemmas.Grind.{flat_map-append}
use Rattle.std.proofs.lemmas.List.{append-nil, length-append, length-drop, length-take-le, take-append-drop}
use Rattle.std.proofs.lemmas.Str.{chars-encodes, encodes-append}
use Rattle.std.proofs.str.Laws.{scalars-append}
use Rattle.std.specs.Char.{encode_utf8}
use Rattle.std.specs.Io.KnownBytes.{Consumes, IsAtEnd}
use Rattle.std.specs.List.{copy_within}
use Rattle.std.specs.Result.{IsErrAnd}
use Rattle.std.specs.Str.{all_scalars, chars, encode_utf8_all}
use Rattle.rope_text.specs.Edit.{size_error}
use Rattle.rope_text.specs.Text.{byte_len}
use Rattle.rope_text.specs.declared.error.Error.{Error}
use Rattle.rope_io.proofs.Buffers as buffers
use Rattle.rope_files.specs.Decoding.{IsDecoded, Settles, Parts, IsSettleError, IsEndError}
use Rattle.rope_files.specs.Layouts.{BeginsWith, char_bytes, laid_out, EndsHalf, EndsUnpaired}
use Rattle.rope_files.specs.Reading.{IsOpen, Answers, Gives}
use Rattle.rope_files.specs.declared.error.ReadAnyError.{ReadAnyError}
use Rattle.rope_files.specs.declared.error.ReadAnyError.TheVariants.{Read, NoMark, InvalidUtf8, UnpairedSurrogate, HalfCodeUnit, Rope}
use Rattle.rope_files.specs.declared.layout.Layout.{Layout}
use Rattle.rope_files.specs.declared.layout.Layout.TheVariants.{Bytes, CodeUnits}

pub laid_out-append : (l : Layout) (xs ys : List ℕ)
    → laid_out l (xs ++ ys) ≡ laid_out l xs ++ laid_out l ys
laid_out-append l xs ys = flat_map-append (char_bytes l) xs ys

pub decoded_none : (l : Layout) (bytes : List ℕ) → IsDecoded l bytes 0 []
decoded_none l bytes = record {
  text = [];
  within = omega arith;
  laid = refl;
  encoded = refl;
  scalars = refl;
  most = omega arith;
}

-- one more character
pub decoded_more : (l : Layout) (bytes utf8 more : List ℕ) (at c n : ℕ) → IsDecoded l bytes at utf8
    → BeginsWith l (drop at bytes) c n → more ≡ utf8 ++ encode_utf8 c
    → IsDecoded l bytes (at + n) more
decoded_more l bytes utf8 more at c n d b e = record {
  text = d.text ++ c ∷ [];
  within = omega (arith, d.within, b.within, length-drop at bytes);
  laid = take-add at n bytes ∙ ap (λ xs. xs ++ take n (drop at bytes)) d.laid
      ∙ ap (λ ys. laid_out l d.text ++ ys) (b.first ∙ sym (append-nil (char_bytes l c)))
      ∙ sym (laid_out-append l d.text (c ∷ []));
  encoded = e ∙ ap (λ xs. xs ++ encode_utf8 c) d.encoded
      ∙ ap (λ ys. encode_utf8_all d.text ++ ys) (sym (append-nil (encode_utf8 c)))
      ∙ sym (encodes-append d.text (c ∷ []));
  scalars = scalars-append d.text (c ∷ []) d.scalars (rw b.scalar);
  most = omega (arith, d.most, b.most, ap length e, length-append utf8 (encode_utf8 c));
}

-- the held bytes in two
pub decoded_parts : (l : Layout) (held utf8 : List ℕ) (n : ℕ) (d : IsDecoded l held n utf8)
    → Parts l held d.text (drop n held)
decoded_parts l held utf8 n d = record {
  whole = sym (take-append-drop n held)
      ∙ ap (λ xs. xs ++ drop n held) d.laid;
  scalars = d.scalars;
}

pub decoded_length : (l : Layout) (held utf8 : List ℕ) (n : ℕ) (d : IsDecoded l held n utf8)
    → length (laid_out l d.text) ≡ n
decoded_length l held utf8 n d = ap length (sym d.laid) ∙ length-take-le n held d.within

pub decoded_chars : (l : Layout) (held utf8 : List ℕ) (n : ℕ) (d : IsDecoded l held n utf8)
    → chars utf8 ≡ d.text
decoded_chars l held utf8 n d = ap chars d.encoded ∙ chars-encodes d.text d.scalars

pub decoded_size : (l : Layout) (held utf8 : List ℕ) (n : ℕ) (d : IsDecoded l held n utf8)
    (old : List ℕ) → byte_len (old ++ d.text) ≡ byte_len old + length utf8
decoded_size l held utf8 n d old = ap length (encodes-append old d.text)
    ∙ length-append (encode_utf8_all old) (encode_utf8_all d.text)
    ∙ ap (λ xs. byte_len old + length xs) (sym d.encoded)

pub open_short : (l : Layout) (rest : List ℕ) → IsOpen (Some l) rest → length rest < 4
open_short l rest (inl e) = omega (arith, e)
open_short Bytes rest (inr p) = absurd p
open_short (CodeUnits o) rest (inr (inl p)) = omega (arith, p)
open_short (CodeUnits o) rest (inr (inr p)) = p.2

-- what is left at the end
pub ends_half : (l : Layout) (rest : List ℕ) → IsOpen (Some l) rest → length rest ≡ 1
    → EndsHalf l rest
ends_half l rest (inl e) one = absurd (omega (arith, e, one))
ends_half Bytes rest (inr p) one = absurd p
ends_half (CodeUnits o) rest (inr p) one = one

pub ends_unpaired : (l : Layout) (rest : List ℕ) → IsOpen (Some l) rest → (length rest ≡ 0 → ⊥)
    → (length rest ≡ 1 → ⊥) → EndsUnpaired l rest
ends_unpaired l rest (inl e) some more = absurd (some e)
ends_unpaired Bytes rest (inr p) some more = absurd p
ends_unpaired (CodeUnits o) rest (inr (inl p)) some more = absurd (omega (arith, p, some, more))
ends_unpaired (CodeUnits o) rest (inr (inr p)) some more = p

-- the bytes given so far are those of the text and the held ones, which may become a character
pub record IsReading (l : Layout) (mark : ℕ) (start now : Option (List ℕ)) (text buffer : List ℕ)
    (filled offset : ℕ) (marked : Bool) : Type 0 where
  pub given : Consumes start now (laid_out l text ++ take filled buffer)
  pub is_open : IsOpen (Some l) (take filled buffer)
  pub room : filled < 4
  pub size : length buffer ≡ 1968
  pub clear : marked ≡ false
  pub at : offset ≡ min (mark + length (laid_out l text)) (2 ^ 64 - 1)
  pub fits : byte_len text < 2 ^ 63
  pub scalars : all_scalars text ≡ true

-- the bytes of a text, and those of one more, and the rest
pub laid_more : (l : Layout) (text more rest held : List ℕ) → Parts l held more rest
    → laid_out l text ++ held ≡ laid_out l (text ++ more) ++ rest
laid_more l text more rest held p =
    ap (λ xs. laid_out l text ++ xs) p.whole
    ∙ sym (append_assoc (laid_out l text) (laid_out l more) rest)
    ∙ ap (λ xs. xs ++ rest) (sym (laid_out-append l text more))

pub length-laid_more : (l : Layout) (text more : List ℕ)
    → length (laid_out l (text ++ more)) ≡ length (laid_out l text) + length (laid_out l more)
length-laid_more l text more = ap length (laid_out-append l text more)
    ∙ length-append (laid_out l text) (laid_out l more)

-- the rest of a buffer, moved to its front
pub moved_rest : (buf moved : List ℕ) (n f : ℕ) → n ≤ f → f ≤ length buf
    → moved ≡ copy_within buf n f 0 → take (length (take f buf) - n) moved ≡ drop n (take f buf)
moved_rest buf moved n f h g same = ap (λ j. take (j - n) moved) (length-take-le f buf g)
    ∙ ap (take (f - n)) same ∙ buffers.moved_rest buf n f h g

size_small_at : (b : Bool) (e : Error) → cond b None (Some e) ≡ None → b ≡ true
size_small_at true e h = refl
size_small_at false e h = cc

pub size_small : (n : ℕ) → size_error n ≡ None → n < 2 ^ 63
size_small n e = ltb-true n (2 ^ 63) (size_small_at _ _ e)

-- the text in them is added
pub read_on : (l : Layout) (mark : ℕ) (start new : Option (List ℕ))
    (text text_new held buf_new : List ℕ) (n offset filled_new offset_new : ℕ) (marked : Bool)
    → Consumes start new (laid_out l text ++ held)
    → offset ≡ min (mark + length (laid_out l text)) (2 ^ 64 - 1) → marked ≡ false
    → Settles l text text_new held buf_new n → length buf_new ≡ 1968 → byte_len text_new < 2 ^ 63
    → filled_new ≡ length held - n → offset_new ≡ min (offset + n) (2 ^ 64 - 1)
    → all_scalars text ≡ true
    → IsReading l mark start new text_new buf_new filled_new offset_new marked
read_on l mark start new text text_new held buf_new n offset filled_new offset_new marked given at
    clear s size fits same moved scalars =
    let parts : Parts l held s.text (drop n held) = record {
      whole = sym (take-append-drop n held)
          ∙ ap (λ xs. xs ++ drop n held) s.laid;
      scalars = s.scalars;
    } in
    let laid : length (laid_out l s.text) ≡ n = ap length (sym s.laid)
    ∙ length-take-le n held s.within in
    let short : length (drop n held) < 4 = open_short l (drop n held) s.is_open in
    let rest : take filled_new buf_new ≡ drop n held = ap (λ k. take k buf_new) same ∙ s.rest in
    record {
      given = subst (Consumes start new)
          (laid_more l text s.text (drop n held) held parts
          ∙ ap (λ xs. laid_out l xs ++ drop n held) (sym s.added)
          ∙ ap (λ xs. laid_out l text_new ++ xs) (sym rest)) given;
      is_open = subst (IsOpen (Some l)) (sym rest) s.is_open;
      room = omega (arith, short, same, length-drop n held);
      size = size;
      clear = clear;
      at = omega (
        arith,
        at,
        moved,
        laid,
        ap (λ xs. length (laid_out l xs)) s.added,
        length-laid_more l text s.text,
      );
      fits = fits;
      scalars = subst (λ xs. all_scalars xs ≡ true) (sym s.added)
          (scalars-append text s.text scalars s.scalars);
    }

pub length_on : (l : Layout) (text text_new held buf_new : List ℕ) (n : ℕ)
    (s : Settles l text text_new held buf_new n)
    → length (laid_out l text_new) ≡ length (laid_out l text) + n
length_on l text text_new held buf_new n s =
    omega (
      arith,
      ap length (sym s.laid)
          ∙ length-take-le n held s.within,
      ap (λ xs. length (laid_out l xs)) s.added,
      length-laid_more l text s.text,
    )

module _ (l : Layout) (mark : ℕ) (start new : Option (List ℕ)) (marked : Bool) where
  -- why the held bytes were not added
  pub settle_answers : (text shown held : List ℕ) (offset : ℕ) (r : Result (Unit {0}) ReadAnyError)
      (e : ReadAnyError) → IsErrAnd r (λ y. y ≡ e) → IsSettleError l text held offset e
      → Consumes start new (laid_out l text ++ held) → marked ≡ false
      → offset ≡ min (mark + length (laid_out l text)) (2 ^ 64 - 1) → all_scalars text ≡ true
      → Gives start new (λ bytes. Answers (λ _. shown) (laid_out l)
      (Some l) mark bytes new marked r)
  settle_answers text shown held offset (Ok x) e is refused given clear at scalars = absurd is
  settle_answers text shown held offset (Err y) e is refused given clear at scalars =
      subst (λ z. Gives start new (λ bytes. Answers {R = Unit {0}} (λ _. shown) (laid_out l)
      (Some l) mark bytes new marked (Err z))) (sym is)
      (refused_answers text shown held offset e refused given clear at scalars)
    where
      refused_answers : (text shown held : List ℕ) (offset : ℕ) (e : ReadAnyError)
          → IsSettleError l text held offset e
          → Consumes start new (laid_out l text ++ held) → marked ≡ false
          → offset ≡ min (mark + length (laid_out l text)) (2 ^ 64 - 1)
          → all_scalars text ≡ true
          → Gives start new (λ bytes. Answers {R = Unit {0}} (λ _. shown) (laid_out l)
          (Some l) mark bytes new marked (Err e))
      refused_answers text shown held offset (Read e) refused given clear at scalars = absurd
          refused
      refused_answers text shown held offset NoMark refused given clear at scalars = absurd refused
      refused_answers text shown held offset InvalidUtf8 refused given clear at scalars = absurd
          refused
      refused_answers text shown held offset (UnpairedSurrogate k)
          (t, rest, parts, unpaired, where_) given clear at scalars =
          let k_is : k ≡ min (mark + length (laid_out l (text ++ t)))
          (2 ^ 64 - 1) = omega (arith, where_, at, length-laid_more l text t) in (
            laid_out l text ++ held,
            given,
            (
              clear,
              text ++ t,
              rest,
              record {
                whole = laid_more l text t rest held parts;
                scalars = scalars-append text t scalars parts.scalars;
              },
              k_is,
              l,
              refl,
              inl unpaired,
            ),
          )
      refused_answers text shown held offset (HalfCodeUnit k) refused given clear at scalars =
          absurd refused
      refused_answers text shown held offset (Rope e)
          (t, rest, parts, refusal) given clear at scalars = (
            laid_out l text ++ held,
            given,
            (
              clear,
              text ++ t,
              rest,
              record {
                whole = laid_more l text t rest held parts;
                scalars = scalars-append text t scalars parts.scalars;
              },
              refusal,
            ),
          )

  -- why the bytes that are left at the end are no text
  pub end_answers : (text shown buffer : List ℕ) (filled offset : ℕ) (e : ReadAnyError)
      → IsReading l mark start new text buffer filled offset marked → (filled ≡ 0 → ⊥) → IsAtEnd new
      → IsEndError filled offset e → Gives start new
      (λ bytes. Answers {R = Unit {0}} (λ _. shown) (laid_out l)
      (Some l) mark bytes new marked (Err e))
  end_answers text shown buffer filled offset (Read e) i some end is = absurd is
  end_answers text shown buffer filled offset NoMark i some end is = absurd is
  end_answers text shown buffer filled offset InvalidUtf8 i some end is = absurd is
  end_answers text shown buffer filled offset (UnpairedSurrogate k) i some end is =
      let size : length (take filled buffer)
      ≡ filled = length-take-le filled buffer (omega (arith, i.room, i.size)) in
      let unpaired = ends_unpaired l (take filled buffer) i.is_open (λ e. some (sym size ∙ e))
      (λ e. is.0 (sym size ∙ e)) in (
        laid_out l text ++ take filled buffer,
        i.given,
        (
          i.clear,
          text,
          take filled buffer,
          record { whole = refl; scalars = i.scalars },
          is.1
              ∙ i.at,
          l,
          refl,
          inr (unpaired, end),
        ),
      )
  end_answers text shown buffer filled offset (HalfCodeUnit k) i some end is =
      let size : length (take filled buffer)
      ≡ filled = length-take-le filled buffer (omega (arith, i.room, i.size)) in (
        laid_out l text ++ take filled buffer,
        i.given,
        (
          i.clear,
          text,
          take filled buffer,
          record { whole = refl; scalars = i.scalars },
          is.1
              ∙ i.at,
          l,
          refl,
          ends_half l (take filled buffer) i.is_open (size ∙ is.0),
          end,
        ),
      )
  end_answers text shown buffer filled offset (Rope e) i some end is = absurd is
