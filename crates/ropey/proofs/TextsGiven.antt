-- One text more of an iterator.
use Rattle.std.proofs.Common.{◌≡◌, ℕ, ◌+◌, List, [], ◌∷◌, ◌++◌, length, map, refl, ap, ap₂, subst, sym, ◌∙◌, append-nil}
use Rattle.std.proofs.Output.{concat-append}
use Rattle.std.proofs.lemmas.List.{map_push}
use Rattle.std.specs.Prelude.{Option, Some, None, Result, Ok, Err, IfErr}
use Rattle.std.specs.Result.{IsErrAnd}
use Rattle.std.specs.List.{concat}
use Rattle.std.specs.Str.{chars, IsUtf8}
use Rattle.std.specs.Iterator.{Yields}
use Rattle.rope_text.specs.declared.error.Error.{Error}
use Rattle.rope_text.specs.Text.{byte_len}
use Rattle.rope_text.specs.Edit.{or_else, size_error, IsRefusal}
use Rattle.rope_text.specs.declared.line_breaks.LineBreaks.TheVariants.{Unicode}
use Rattle.rope_text.proofs.Walks.{byte_len-chars}
use Rattle.rope_text.proofs.Measures.{IsMeasure-byte_len}
use Rattle.ropey.specs.Building.{Building, text_error}
use Rattle.ropey.specs.Texts.{joined_texts, YieldsAll, StopsRefused}

pub Yields-push : {S A : Type 0} (steps : S → Option A → S → Type 0) (s : S) (xs : List A) (t : S)
    (x : A) (u : S) → Yields steps s xs t → steps t (Some x) u → Yields steps s (xs ++ x ∷ []) u
Yields-push steps s [] t x u y gives = (u, subst (λ w. steps w (Some x) u) (sym y) gives, refl)
Yields-push steps s (z ∷ xs) t x u y gives = (y.0, y.1, Yields-push steps y.0 xs t x u y.2 gives)

pub joined_push : {A : Type 0} (bytes : A → List ℕ) (xs : List A) (x : A)
    → joined_texts bytes (xs ++ x ∷ []) ≡ joined_texts bytes xs ++ chars (bytes x)
joined_push bytes xs x =
    ap concat (map_push (λ y. chars (bytes y)) xs x)
    ∙ concat-append (map (λ y. chars (bytes y)) xs) (chars (bytes x) ∷ [])
    ∙ ap (λ l. joined_texts bytes xs ++ l) (append-nil (chars (bytes x)))

-- the error of a text passed in is that of the whole text
pub error_of_whole : (failed : Option Error) (before bytes : ℕ) (text more whole : List ℕ)
    → failed ≡ None → before ≡ byte_len text → bytes ≡ byte_len more → whole ≡ text ++ more
    → or_else failed (size_error (before + bytes)) ≡ size_error (byte_len whole)
error_of_whole failed before bytes text more whole none is_before is_bytes is_whole =
    ap (λ f. or_else f (size_error (before + bytes))) none
    ∙ ap size_error (ap₂ (λ a b. a + b) is_before is_bytes
    ∙ sym (IsMeasure-byte_len.joined text more) ∙ sym (ap byte_len is_whole))

-- the size of a text that was lent as bytes
size_of : (lent given : List ℕ) → IsUtf8 lent → lent ≡ given
    → length lent ≡ byte_len (chars given)
size_of lent given utf8 same =
    sym (byte_len-chars lent utf8) ∙ ap (λ bytes. byte_len (chars bytes)) same

module _ {S A : Type 0} (steps : S → Option A → S → Type 0) (bytes : A → List ℕ) where
  -- an iterator yielded texts, and a new builder was given them and took them all
  pub record Appended (from to : S) (built : Building) : Type 0 where
    pub texts : List A
    pub yielded : Yields steps from texts to
    pub text : built.text ≡ joined_texts bytes texts
    pub breaks : built.breaks ≡ Unicode
    pub failed : built.failed ≡ None
    pub fits : size_error (byte_len built.text) ≡ None

  fits_joined : (from t : S) (old : Building) (so : Appended from t old)
      → size_error (byte_len (joined_texts bytes so.texts)) ≡ None
  fits_joined from t old so = sym (ap (λ s. size_error (byte_len s)) so.text) ∙ so.fits

  -- one text more is taken
  pub Appended-push : (from t u : S) (x : A) (lent : List ℕ) (old new : Building)
      → Appended from t old → steps t (Some x) u → IsUtf8 lent → lent ≡ bytes x
      → text_error old (length lent) ≡ None → new.text ≡ old.text ++ chars lent
      → new.breaks ≡ old.breaks → new.failed ≡ None → Appended from u new
  Appended-push from t u x lent old new so gives utf8 same taken text breaks failed =
      let more = chars (bytes x) in
      let whole : new.text ≡ old.text ++ more = text ∙ ap (λ b. old.text ++ chars b) same in
      let size = size_of lent (bytes x) utf8 same in
      record {
        texts = so.texts ++ x ∷ [];
        yielded = Yields-push steps from so.texts t x u so.yielded gives;
        text = whole ∙ ap (λ s. s ++ more) so.text ∙ sym (joined_push bytes so.texts x);
        breaks = breaks ∙ so.breaks;
        failed = failed;
        fits = sym (error_of_whole old.failed (byte_len old.text) (length lent) old.text more
            new.text so.failed refl size whole) ∙ taken;
      }

  -- the next text is refused
  pub stops_at_text : (from t u : S) (x : A) (lent : List ℕ) (old : Building) (e : Error)
      → Appended from t old → steps t (Some x) u → IsUtf8 lent → lent ≡ bytes x
      → IsRefusal (text_error old (length lent)) e → StopsRefused steps bytes from u e
  stops_at_text from t u x lent old e so gives utf8 same is =
      let more = chars (bytes x) in
      let whole = joined_texts bytes (so.texts ++ x ∷ []) in
      let joined : whole ≡ old.text ++ more =
      joined_push bytes so.texts x ∙ ap (λ s. s ++ more) (sym so.text) in
      let error = error_of_whole old.failed (byte_len old.text) (length lent) old.text more whole
      so.failed refl (size_of lent (bytes x) utf8 same) joined in (
        so.texts,
        Some x,
        (t, so.yielded, gives),
        fits_joined from t old so,
        subst (λ o. IsRefusal o e) error is,
      )

  -- the end is reached
  pub yields_all : (from t u : S) (old : Building) (text : List ℕ)
      → Appended from t old → steps t None u
      → text ≡ old.text → YieldsAll steps bytes from u text
  yields_all from t u old text so none is = (so.texts, (t, so.yielded, none), is ∙ so.text)

  -- the end is refused
  pub stops_at_end : (from t u : S) (old : Building) (e : Error)
      → Appended from t old → steps t None u
      → IsRefusal old.failed e → StopsRefused steps bytes from u e
  stops_at_end from t u old e so none is =
      let whole : old.text ≡ joined_texts bytes (so.texts ++ []) =
      so.text ∙ ap (joined_texts bytes) (sym (append-nil so.texts)) in
      let error = so.failed ∙ sym so.fits ∙ ap (λ s. size_error (byte_len s)) whole in (
        so.texts,
        None,
        (t, so.yielded, none),
        fits_joined from t old so,
        subst (λ o. IsRefusal o e) error is,
      )

-- the error that a `?` passes on
pub passed_on : {A : Type 0} (r : Result A Error) (e : Error) (P : Error → Type 0)
    → IsErrAnd r (λ y. y ≡ e) → P e → IfErr r P
passed_on (Ok x) e P is p = tt
passed_on (Err y) e P is p = subst P (sym is) p
