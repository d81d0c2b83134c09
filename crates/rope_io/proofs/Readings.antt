-- A read in progress.
use Rattle.std.proofs.Common.{◌≡◌, ℕ, ◌+◌, ◌<◌, ◌≤◌, ◌^◌, Bool, false, IsTrue, List, [], ◌++◌, length, take, drop, refl, sym, ap, subst, ◌∙◌, append_assoc, arith, inl, inr, Option, None, Some}
use Rattle.std.specs.Io.KnownBytes.{Consumes, Keeps, IsAtEnd}
use Rattle.std.specs.Str.{IsUtf8, encode_utf8_all}
use Rattle.std.specs.Str.Lossy.{utf8_valid_len}
use Rattle.std.proofs.KnownBytes.{Consumes-nil, Consumes-kept}
use Rattle.std.proofs.lemmas.List.{take-append-drop, length-append}
use Rattle.std.proofs.lemmas.Str.{IsUtf8-append, IsUtf8-nil, utf8_valid_len_le, utf8_valid_len-IsUtf8}
use Rattle.rope_text.specs.Text.{byte_len}
use Rattle.rope_text.specs.Edit.{size_error, IsRefusal}
use Rattle.rope_text.specs.Read.{text_front, text_rest, IsRefused}
use Rattle.rope_text.specs.declared.error.Error.{Error}
use Rattle.rope_text.specs.declared.error.Error.TheVariants.{OutOfMemory}
use Rattle.rope_text.proofs.EditLaws.{size_error-none}
use Rattle.rope_text.proofs.ReadLaws.{IsUtf8-text_front, length-text_front, utf8_valid_len-append, text_rest-append}
use Rattle.std.specs.Prelude.{Result, Ok, Err}
use Rattle.std.specs.Result.{IsErrAnd}
use Rattle.rope_io.specs.declared.error.ReadError.{ReadError}
use Rattle.rope_io.specs.declared.error.ReadError.TheVariants.{Read, InvalidData, Rope}
use Rattle.rope_io.specs.Failing.{reader_failure}
use Rattle.rope_io.specs.Reading.{Fits, has_ended, Answers}
use Rattle.rope_io.proofs.Buffers.{length-front_read}
use Rattle.rope_io.proofs.Buffers as buffers
use borrow.Rule.Slice.PartMut.{put_mid}

-- no prefix of the rest is text
pub rest_stays : (bs : List ℕ) → utf8_valid_len (text_rest bs) ≡ 0
rest_stays bs =
    let e : utf8_valid_len bs ≡ length (text_front bs) + utf8_valid_len (text_rest bs) =
    ap utf8_valid_len (sym (take-append-drop (utf8_valid_len bs) bs))
    ∙ utf8_valid_len-append (text_front bs) (text_rest bs) (IsUtf8-text_front bs) in
    omega (arith, e, length-text_front bs)

-- the text at the front of a text and more bytes
pub front_after : (xs ys : List ℕ) → IsUtf8 xs
    → length (text_front (xs ++ ys)) ≡ length xs + length (text_front ys)
front_after xs ys u =
    omega (arith, length-text_front (xs ++ ys), length-text_front ys, utf8_valid_len-append xs ys u)

-- the bytes given so far are those of the text and the held ones, which begin with no text
pub record HasRead (start now : Option (List ℕ)) (text held : List ℕ) : Type 0 where
  pub given : Consumes start now (encode_utf8_all text ++ held)
  pub no_text : utf8_valid_len held ≡ 0
  pub utf8 : IsUtf8 (encode_utf8_all text)
  pub fits : byte_len text < 2 ^ 63

-- and the next read has room for a byte
pub record IsReading (start now : Option (List ℕ)) (text buffer : List ℕ) (filled : ℕ)
    (marked : Bool) : Type 0 where
  pub read : HasRead start now text (take filled buffer)
  pub room : filled < 1968
  pub size : length buffer ≡ 1968
  pub clear : marked ≡ false

pub nothing_read : (start : Option (List ℕ)) (text : List ℕ) → text ≡ []
    → HasRead start start text []
nothing_read start text e = subst (λ t. HasRead start start t []) (sym e) (record {
  given = Consumes-nil start;
  no_text = utf8_valid_len-IsUtf8 [] IsUtf8-nil;
  utf8 = IsUtf8-nil;
  fits = omega arith;
})

module _ (start now : Option (List ℕ)) (text held : List ℕ) (h : HasRead start now text held) where
  -- the rest of the bytes given is held, and their front is the text
  pub rest_is : text_rest (encode_utf8_all text ++ held) ≡ held
  rest_is = text_rest-append (encode_utf8_all text) held h.utf8 ∙ ap (λ n. drop n held) h.no_text

  pub front_fits : Fits (encode_utf8_all text ++ held)
  front_fits =
      size_error-none _ (omega (
        arith,
        front_after (encode_utf8_all text) held h.utf8,
        length-text_front held,
        h.no_text,
        h.fits,
      ))

  -- bytes held at the input's end, and a full buffer of held bytes, are refused
  pub refused_full : length held ≡ 1968 → IsRefused (encode_utf8_all text ++ held) (has_ended now)
  refused_full e = inr (omega (arith, ap length rest_is, e))

  pub refused_at_end : 0 < length held → IsAtEnd now
      → IsRefused (encode_utf8_all text ++ held) (has_ended now)
  refused_at_end some end = inl (ended now end, omega (arith, ap length rest_is, some))
    where
      ended : (o : Option (List ℕ)) → IsAtEnd o → IsTrue (has_ended o)
      ended None e = refl
      ended (Some bs) e = subst (λ xs. IsTrue (has_ended (Some xs))) (sym e) refl

  -- a failed read gave nothing
  pub given_kept : (new : Option (List ℕ)) → Keeps now new
      → Consumes start new (encode_utf8_all text ++ held)
  given_kept new k = Consumes-kept start now new (encode_utf8_all text ++ held) h.given k

-- the held bytes after one more read
module _ (start mid new : Option (List ℕ)) (text buf ys : List ℕ) (filled room count : ℕ)
    (within : filled ≤ length buf) (some : count ≤ length ys)
    (h : HasRead start mid text (take filled buf)) (more : Consumes mid new (take count ys)) where
  pub given_more : Consumes start new (encode_utf8_all text
      ++ take (filled + count) (put_mid filled room buf ys))
  given_more =
      buffers.given_more start mid new (encode_utf8_all text) buf ys filled room count within some
      h.given more

  pub length_held : length (take (filled + count) (put_mid filled room buf ys)) ≡ filled + count
  length_held = length-front_read buf ys filled room count within some

  -- the text at their front is moved to the builder
  pub read_on : (text_new rest : List ℕ) → encode_utf8_all text_new ≡ encode_utf8_all text
      ++ text_front (take (filled + count) (put_mid filled room buf ys))
      → rest ≡ text_rest (take (filled + count) (put_mid filled room buf ys))
      → byte_len text_new < 2 ^ 63 → HasRead start new text_new rest
  read_on text_new rest e f fits =
      let t : List ℕ = take (filled + count) (put_mid filled room buf ys) in
      let old : List ℕ = encode_utf8_all text in
      let whole : encode_utf8_all text_new ++ rest ≡ old ++ t = ap (λ xs. xs ++ rest) e
      ∙ ap (λ xs. (old ++ text_front t) ++ xs) f ∙ append_assoc old (text_front t) (text_rest t)
      ∙ ap (λ xs. old ++ xs) (take-append-drop (utf8_valid_len t) t) in
      record {
        given = subst (Consumes start new) (sym whole) given_more;
        no_text = ap utf8_valid_len f ∙ rest_stays t;
        utf8 = subst IsUtf8 (sym e) (IsUtf8-append old (text_front t) h.utf8 (IsUtf8-text_front t));
        fits = fits;
      }

  -- or refused
  pub refused_on : (e : Error)
      → IsRefusal (size_error (byte_len text + length
      (text_front (take (filled + count) (put_mid filled room buf ys))))) e
      → IsRefusal (size_error (length
      (text_front (encode_utf8_all text ++ take (filled + count) (put_mid filled room buf ys))))) e
  refused_on e r =
      subst (λ n. IsRefusal (size_error n) e)
      (sym (front_after (encode_utf8_all text) (take (filled + count) (put_mid filled room buf ys))
      h.utf8)) r

  pub bounded : filled + count ≤ 1968
      → length (encode_utf8_all text ++ take (filled + count) (put_mid filled room buf ys)) < 2 ^ 63
      + 1968
  bounded b =
      omega (
        arith,
        length-append (encode_utf8_all text)
            (take (filled + count) (put_mid filled room buf ys)),
        length_held,
        h.fits,
        b,
      )

  -- the number of bytes held after a move
  pub length_on : (text_new rest : List ℕ)
      → encode_utf8_all text_new ≡ encode_utf8_all text
      ++ text_front (take (filled + count) (put_mid filled room buf ys))
      → rest ≡ text_rest (take (filled + count) (put_mid filled room buf ys))
      → byte_len text_new + length rest ≡ byte_len text + (filled + count)
  length_on text_new rest e f =
      let t : List ℕ = take (filled + count) (put_mid filled room buf ys) in
      omega (
        arith,
        ap length e,
        ap length f,
        length-append (encode_utf8_all text) (text_front t),
        ap length (take-append-drop (utf8_valid_len t) t),
        length-append (text_front t) (text_rest t),
        length_held,
      )

-- an error that is passed on as the text's
pub refusal_answers : {R : Type 0} (text_of : R → List ℕ) (bytes : List ℕ) (left : Option (List ℕ))
    (failed : Bool) (r : Result R ReadError) (e : Error)
    → IsErrAnd r (λ y. y ≡ Rope e) → Answers text_of bytes left failed (Err (Rope e))
    → Answers text_of bytes left failed r
refusal_answers text_of bytes left failed (Ok x) e is answers = absurd is
refusal_answers text_of bytes left failed (Err y) e is answers =
    subst (λ z. Answers text_of bytes left failed (Err z)) (sym is) answers

-- and one that is passed on as it is
pub same_answers : {R Q : Type 0} (f : R → List ℕ) (h : Q → List ℕ) (bytes : List ℕ)
    (left : Option (List ℕ)) (failed : Bool) (e : ReadError) (r : Result Q ReadError)
    → IsErrAnd r (λ y. y ≡ e) → Answers f bytes left failed (Err e) → Answers h bytes left failed r
same_answers f h bytes left failed e (Ok x) is answers = absurd is
same_answers f h bytes left failed (Read e) (Err y) is answers =
    subst (λ z. Answers h bytes left failed (Err z)) (sym is) answers
same_answers f h bytes left failed InvalidData (Err y) is answers =
    subst (λ z. Answers h bytes left failed (Err z)) (sym is) answers
same_answers f h bytes left failed (Rope e) (Err y) is answers =
    subst (λ z. Answers h bytes left failed (Err z)) (sym is) answers

pub same_failure : (R : Type 0) {Q : Type 0} (e : ReadError) (r : Result Q ReadError)
    → IsErrAnd r (λ y. y ≡ e) → reader_failure {R = R} (Err e) ≡ reader_failure r
same_failure R e (Ok x) is = absurd is
same_failure R {Q} (Read e) (Err y) is = ap (λ z. reader_failure {R = Q} (Err z)) (sym is)
same_failure R {Q} InvalidData (Err y) is = ap (λ z. reader_failure {R = Q} (Err z)) (sym is)
same_failure R {Q} (Rope e) (Err y) is = ap (λ z. reader_failure {R = Q} (Err z)) (sym is)

-- a text whose nodes have no memory
pub no_memory : (bytes : List ℕ) → length bytes < 2 ^ 63
    → IsRefusal (size_error (length (text_front bytes))) OutOfMemory
no_memory bytes short =
    rw (size_error-none (length (text_front bytes))
    (omega (arith, length-text_front bytes, utf8_valid_len_le bytes))) refl
