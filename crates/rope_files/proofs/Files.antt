-- A file whose first bytes were looked at.
use Rattle.std.proofs.Common.{◌≡◌, ℕ, ◌≤◌, ◌⊎◌, Bool, true, false, List, [], ◌∷◌, ◌++◌, length, take, drop, nat_eq, refl, sym, ap, subst, ◌∙◌, append_assoc, arith, inl, inr, Option, Some, None, Result, Ok, Err, IfOk, if◌then◌else◌}
use Rattle.std.specs.Option.{unwrap_or}
use Rattle.std.proofs.lemmas.Bool.Decides.{Decides-eqb}
use Rattle.std.proofs.lemmas.List.{append-nil, take-append-le}
use Rattle.std.proofs.lemmas.Slice.Eq.{starts_is}
use Rattle.std.specs.Io.KnownBytes.{Consumes, IsAtEnd, prepend_known}
use Rattle.std.specs.List.{starts_with}
use Rattle.std.specs.Str.{encode_utf8_all}
use Rattle.rope_files.specs.Encodings.{mark_of, marked_encoding, encode, encode_unmarked, layout_of}
use Rattle.rope_files.specs.Layouts.{laid_out}
use Rattle.rope_files.specs.Reading.{any_failure, AreBytes, Answers, FailedAs, Gives, IsEncodingOf, IsReadFailure, ReadsAny, ReadsBeside, ReturnsEncoding, text_read}
use Rattle.rope_files.specs.declared.error.ReadAnyError.{ReadAnyError}
use Rattle.rope_files.specs.declared.error.ReadAnyError.TheVariants.{Read, NoMark, InvalidUtf8, UnpairedSurrogate, HalfCodeUnit, Rope}
use Rattle.rope_io.specs.declared.device.Failure.{Failure}
use Rattle.rope_text.specs.declared.line_breaks.LineBreaks.{LineBreaks}
use Rattle.ropey.specs.View.{IsBuilt, RopeView, text_of}
use Rattle.rope_files.specs.declared.encoding.Encoding.{Encoding}
use Rattle.rope_files.specs.declared.encoding.Encoding.TheVariants.{Utf8, Utf8Bom, Utf16Le, Utf16LeBom, Utf16Be, Utf16BeBom, Latin1}
use Rattle.rope_files.specs.declared.layout.Layout.{Layout}
use Rattle.rope_files.specs.declared.layout.Layout.TheVariants.{Bytes, CodeUnits}
use Rattle.rope_files.specs.declared.layout.ByteOrder.TheVariants.{Little, Big}

-- the mark is among three bytes
pub front_same : (head more : List ℕ) (k : ℕ) → (length head ≡ 3) ⊎ (more ≡ []) → k ≤ 3
    → take k (head ++ more) ≡ take k head
front_same head more k (inl e) h = take-append-le k head more (omega (arith, e, h))
front_same head more k (inr e) h = ap (λ xs. take k (head ++ xs)) e
    ∙ ap (λ xs. take k xs) (append-nil head)

pub marked_same : (head more : List ℕ) → (length head ≡ 3) ⊎ (more ≡ [])
    → marked_encoding (head ++ more) ≡ marked_encoding head
marked_same head more h = rw (
  front_same head more 3 h (omega arith),
  front_same head more 2 h (omega arith),
)

-- the encoding that the first bytes say is that of the file
pub encoding_of_file : (declared : Option Encoding) (before mid : Option (List ℕ)) (head : List ℕ)
    (encoding : Encoding) → Consumes before mid head
    → (length head ≡ 3) ⊎ IsAtEnd mid → IsEncodingOf declared (Some head) encoding
    → IsEncodingOf declared before encoding
encoding_of_file (Some d) before mid head e p h is = is
encoding_of_file None None mid head e p h is = tt
encoding_of_file None (Some xs) None head e p h is = absurd p
encoding_of_file None (Some xs) (Some ys) head e p h is = is ∙ sym (marked_same head ys h)
    ∙ ap marked_encoding (sym p)

pub after_mark : (head mark : List ℕ) → starts_with nat_eq head mark ≡ true
    → head ≡ mark ++ drop (length mark) head
after_mark head mark e = (starts_is Decides-eqb head mark _ refl).0 e

-- what was given of the first bytes and of what follows them
pub given_after : (before mid left : Option (List ℕ)) (head mark body held bytes : List ℕ)
    → Consumes before mid head → head ≡ mark ++ body
    → Consumes (prepend_known body mid) (prepend_known held left) bytes
    → Consumes before left (mark ++ (bytes ++ held))
given_after None mid left head mark body held bytes p e q = tt
given_after (Some xs) None left head mark body held bytes p e q = absurd p
given_after (Some xs) (Some ys) None head mark body held bytes p e q = absurd q
given_after (Some xs) (Some ys) (Some zs) head mark body held bytes p e q =
    p ∙ ap (λ hs. hs ++ ys) e ∙ append_assoc mark body ys
    ∙ ap (λ bs. mark ++ bs) (q ∙ sym (append_assoc bytes held zs))
    ∙ sym (append_assoc mark (bytes ++ held) zs)

nil_front : (xs ys : List ℕ) → xs ++ ys ≡ [] → (xs ≡ []) × (ys ≡ [])
nil_front [] ys e = (refl, e)
nil_front (x ∷ xs) ys e = cc

-- at the end of the input the bytes are all that there were
pub whole_file : (before left : Option (List ℕ)) (mark bytes held spelled : List ℕ)
    → Consumes before left (mark ++ (bytes ++ held)) → IsAtEnd (prepend_known held left)
    → bytes ≡ spelled → AreBytes before (mark ++ spelled)
whole_file None left mark bytes held spelled p end e = tt
whole_file (Some xs) None mark bytes held spelled p end e = absurd p
whole_file (Some xs) (Some zs) mark bytes held spelled p end e =
    let n = nil_front held zs end in
    p ∙ ap (λ ys. (mark ++ (bytes ++ held)) ++ ys) n.1 ∙ append-nil (mark ++ (bytes ++ held))
    ∙ ap (λ hs. mark ++ (bytes ++ hs)) n.0 ∙ ap (λ bs. mark ++ bs) (append-nil bytes ∙ e)

-- the layout of an encoding gives its bytes
pub spelled_in : (encoding : Encoding) (layout : Layout) (text : List ℕ)
    → layout_of encoding ≡ Some layout → encode_unmarked encoding text ≡ laid_out layout text
spelled_in Utf8 l text e = cc
spelled_in Utf8Bom l text e = cc
spelled_in Utf16Le l text e = let same : CodeUnits Little ≡ l = cc in ap (λ y. laid_out y text) same
spelled_in Utf16LeBom l text e = let same : CodeUnits Little
    ≡ l = cc in ap (λ y. laid_out y text) same
spelled_in Utf16Be l text e = let same : CodeUnits Big ≡ l = cc in ap (λ y. laid_out y text) same
spelled_in Utf16BeBom l text e = let same : CodeUnits Big ≡ l = cc in ap (λ y. laid_out y text) same
spelled_in Latin1 l text e = let same : Bytes ≡ l = cc in ap (λ y. laid_out y text) same

pub spelled_utf8 : (encoding : Encoding) (text : List ℕ) → layout_of encoding ≡ None
    → encode_unmarked encoding text ≡ encode_utf8_all text
spelled_utf8 Utf8 text e = refl
spelled_utf8 Utf8Bom text e = refl
spelled_utf8 Utf16Le text e = cc
spelled_utf8 Utf16LeBom text e = cc
spelled_utf8 Utf16Be text e = cc
spelled_utf8 Utf16BeBom text e = cc
spelled_utf8 Latin1 text e = cc

-- what is returned of the bytes in a layout is that of the encoding
module _ {R : Type 0} (text_of : R → List ℕ) (mark : ℕ) (bytes : List ℕ) (left : Option (List ℕ))
    (failed : Bool) (r : Result R ReadAnyError) where
  pub answers_laid : (encoding : Encoding) (layout : Layout) → layout_of encoding ≡ Some layout
      → Answers text_of (laid_out layout) (Some layout) mark bytes left failed r
      → Answers text_of (encode_unmarked encoding) (layout_of encoding) mark bytes left failed r
  answers_laid encoding layout e a =
      subst (λ o. Answers text_of (encode_unmarked encoding) o mark bytes left failed r) (sym e)
      (subst (λ (f : List ℕ → List ℕ). Answers text_of f (Some layout) mark bytes left failed r)
      (λ i text. sym (spelled_in encoding layout text e) i) a)

  pub answers_utf8 : (encoding : Encoding) → layout_of encoding ≡ None
      → Answers text_of encode_utf8_all None mark bytes left failed r
      → Answers text_of (encode_unmarked encoding) (layout_of encoding) mark bytes left failed r
  answers_utf8 encoding e a =
      subst (λ o. Answers text_of (encode_unmarked encoding) o mark bytes left failed r) (sym e)
      (subst (λ (f : List ℕ → List ℕ). Answers text_of f None mark bytes left failed r)
      (λ i text. sym (spelled_utf8 encoding text e) i) a)

-- some encoding is that of the file
pub some_encoding : (declared : Option Encoding) (before : Option (List ℕ)) → (e : Encoding)
    × IsEncodingOf declared before e
some_encoding (Some d) before = (d, refl)
some_encoding None None = (Utf8, tt)
some_encoding None (Some xs) = (marked_encoding xs, refl)

pub encoding_is : (declared : Option Encoding) (head : List ℕ) (encoding : Encoding)
    → encoding ≡ unwrap_or declared (marked_encoding head)
    → IsEncodingOf declared (Some head) encoding
encoding_is (Some d) head e is = is
encoding_is None head e is = is

answers_beside : (spell : List ℕ → List ℕ) (layout : Option Layout) (mark : ℕ) (bytes : List ℕ)
    (left : Option (List ℕ)) (failed : Bool) (r : Result RopeView ReadAnyError)
    (encoding : Encoding)
    (f : Result (RopeView × Encoding) ReadAnyError) → ReadsBeside r encoding f
    → Answers text_of spell layout mark bytes left failed r
    → Answers text_read spell layout mark bytes left failed f
answers_beside spell layout mark bytes left failed (Ok rope) e (Ok file) b a =
    (a.0, a.1 ∙ ap (λ (x : RopeView). spell x.text) (sym b.0), a.2)
answers_beside spell layout mark bytes left failed (Ok rope) e (Err x) b a = absurd b
answers_beside spell layout mark bytes left failed (Err x) e (Ok file) b a = absurd b
answers_beside spell layout mark bytes left failed (Err x) e (Err y) b a = subst
    (λ z. Answers text_read spell layout mark bytes left failed (Err z)) (sym b) (same_error x a)
  where
    same_error : (x : ReadAnyError)
        → Answers {R = RopeView} text_of spell layout mark bytes left failed (Err x)
        → Answers {R = RopeView × Encoding} text_read spell layout mark bytes left failed (Err x)
    same_error (Read e) a = a
    same_error NoMark a = a
    same_error InvalidUtf8 a = a
    same_error (UnpairedSurrogate at) a = a
    same_error (HalfCodeUnit at) a = a
    same_error (Rope e) a = a

returns_beside : (r : Result RopeView ReadAnyError) (encoding : Encoding)
    (f : Result (RopeView × Encoding) ReadAnyError) → ReadsBeside r encoding f
    → ReturnsEncoding encoding f
returns_beside (Ok rope) e (Ok file) b = b.1
returns_beside (Ok rope) e (Err x) b = absurd b
returns_beside (Err x) e (Ok file) b = absurd b
returns_beside (Err x) e (Err y) b = tt

-- the first bytes were read, and what follows their mark
pub file_reads : (declared : Option Encoding) (before mid left : Option (List ℕ))
    (head held : List ℕ) (encoding : Encoding) (failed : Bool) (r : Result RopeView ReadAnyError)
    (f : Result (RopeView × Encoding) ReadAnyError) → Consumes before mid head → (length head ≡ 3)
    ⊎ IsAtEnd mid → encoding ≡ unwrap_or declared (marked_encoding head)
    → starts_with nat_eq head (mark_of encoding) ≡ true → length held ≤ 3
    → Gives (prepend_known (drop (length (mark_of encoding)) head) mid) (prepend_known held left)
    (λ bytes.
    Answers text_of (encode_unmarked encoding) (layout_of encoding)
    (length (mark_of encoding)) bytes (prepend_known held left) failed r)
    → ReadsBeside r encoding f → ReadsAny text_read declared before left failed f
file_reads declared before mid left head held encoding failed r f p end is begins short a b =
    let given = given_after before mid left head (mark_of encoding)
    (drop (length (mark_of encoding)) head) held a.0 p
    (after_mark head (mark_of encoding) begins) a.1 in
    let answers = answers_beside (encode_unmarked encoding) (layout_of encoding)
    (length (mark_of encoding)) a.0 (prepend_known held left) failed r encoding f b a.2 in (
      encoding,
      encoding_of_file declared before mid head encoding p end
          (encoding_is declared head encoding is),
      returns_beside r encoding f b,
      inr (held, short, (mark_of encoding ++ (a.0 ++ held), given, (a.0, refl, answers))),
    )

-- an `Ok` is of the whole file, in the file's encoding
pub reads_whole : (declared : Option Encoding) (before left : Option (List ℕ)) (failed : Bool)
    (f : Result (RopeView × Encoding) ReadAnyError)
    → ReadsAny text_read declared before left failed f
    → IfOk f (λ file. AreBytes before (encode file.1 file.0.text))
reads_whole declared before left failed (Err e) a = tt
reads_whole declared before left failed (Ok file) (e, is, same, inl h) = absurd h.2
reads_whole declared before left failed (Ok file)
    (e, is, same, inr (held, short, (all, given, (bytes, all_is, answers)))) =
    subst (λ x. AreBytes before (encode x file.0.text)) (sym same)
    (whole_file before left (mark_of e) bytes held (encode_unmarked e file.0.text)
    (subst (Consumes before left) all_is given) answers.2 answers.1)

pub reads_encoding : (declared : Option Encoding) (before left : Option (List ℕ)) (failed : Bool)
    (f : Result (RopeView × Encoding) ReadAnyError)
    → ReadsAny text_read declared before left failed f
    → IfOk f (λ file. IsEncodingOf declared before file.1)
reads_encoding declared before left failed (Err e) a = tt
reads_encoding declared before left failed (Ok file) a = subst (IsEncodingOf declared before)
    (sym a.2) a.1

-- a result with the encoding beside its rope says of failures what the one without it says
err_failure : (e : ReadAnyError)
    → any_failure {R = RopeView} (Err e) ≡ any_failure {R = RopeView × Encoding} (Err e)
err_failure (Read e) = refl
err_failure NoMark = refl
err_failure InvalidUtf8 = refl
err_failure (UnpairedSurrogate at) = refl
err_failure (HalfCodeUnit at) = refl
err_failure (Rope e) = refl

pub failure_beside : (r : Result RopeView ReadAnyError) (encoding : Encoding)
    (f : Result (RopeView × Encoding) ReadAnyError) → ReadsBeside r encoding f
    → any_failure r ≡ any_failure f
failure_beside (Ok rope) encoding (Ok file) h = refl
failure_beside (Ok rope) encoding (Err e) h = absurd h
failure_beside (Err e) encoding (Ok file) h = absurd h
failure_beside (Err e) encoding (Err same) h =
    err_failure e ∙ ap (λ x. any_failure {R = RopeView × Encoding} (Err x)) (sym h)

-- the failure of a source, which a quiet reader hides
pub failed_as : {R : Type 0} (quiet : Bool) (known : Option Failure) (f : Result R ReadAnyError)
    → (if quiet then None else known) ≡ any_failure f → FailedAs f known
failed_as quiet known (Ok r) h = tt
failed_as true known (Err (Read e)) h = cc
failed_as false known (Err (Read e)) h = h
failed_as quiet known (Err NoMark) h = tt
failed_as quiet known (Err InvalidUtf8) h = tt
failed_as quiet known (Err (UnpairedSurrogate at)) h = tt
failed_as quiet known (Err (HalfCodeUnit at)) h = tt
failed_as quiet known (Err (Rope e)) h = tt

err_read : (A B : Type 0) (e : ReadAnyError) → IsReadFailure {R = A} (Err e)
    → IsReadFailure {R = B} (Err e)
err_read A B (Read e) h = tt
err_read A B NoMark h = absurd h
err_read A B InvalidUtf8 h = absurd h
err_read A B (UnpairedSurrogate at) h = absurd h
err_read A B (HalfCodeUnit at) h = absurd h
err_read A B (Rope e) h = absurd h

pub read_beside : (r : Result RopeView ReadAnyError) (encoding : Encoding)
    (f : Result (RopeView × Encoding) ReadAnyError) → ReadsBeside r encoding f
    → (IsReadFailure f → IsReadFailure r) × (IsReadFailure r → IsReadFailure f)
read_beside (Ok rope) encoding (Ok file) h = (λ x. x, λ x. x)
read_beside (Ok rope) encoding (Err e) h = absurd h
read_beside (Err e) encoding (Ok file) h = absurd h
read_beside (Err e) encoding (Err same) h = (
  λ x. err_read (RopeView × Encoding) RopeView e
      (subst (λ y. IsReadFailure {R = RopeView × Encoding} (Err y)) h x),
  λ x. subst (λ y. IsReadFailure {R = RopeView × Encoding} (Err y)) (sym h)
      (err_read RopeView (RopeView × Encoding) e x),
)

never_both : (b : Bool) → b ≡ false → b ≡ true → ⊥
never_both b e f = cc

pub fails_as : (spell : List ℕ → List ℕ) (layout : Option Layout) (mark : ℕ) (bytes : List ℕ)
    (left : Option (List ℕ)) (failed : Bool) (r : Result RopeView ReadAnyError)
    → Answers text_of spell layout mark bytes left failed r
    → (IsReadFailure r → failed ≡ true) × (failed ≡ true → IsReadFailure r)
fails_as spell layout mark bytes left failed (Ok rope) a = (λ x. absurd x, never_both failed a.0)
fails_as spell layout mark bytes left failed (Err (Read e)) a = (λ _. a.0, λ _. tt)
fails_as spell layout mark bytes left failed (Err NoMark) a = absurd a
fails_as spell layout mark bytes left failed (Err InvalidUtf8) a =
    (λ x. absurd x, never_both failed a.0)
fails_as spell layout mark bytes left failed (Err (UnpairedSurrogate at)) a =
    (λ x. absurd x, never_both failed a.0)
fails_as spell layout mark bytes left failed (Err (HalfCodeUnit at)) a =
    (λ x. absurd x, never_both failed a.0)
fails_as spell layout mark bytes left failed (Err (Rope e)) a =
    (λ x. absurd x, never_both failed a.0)

pub built_beside : (breaks : LineBreaks) (r : Result RopeView ReadAnyError) (encoding : Encoding)
    (f : Result (RopeView × Encoding) ReadAnyError) → ReadsBeside r encoding f
    → IfOk r (IsBuilt breaks) → IfOk f (λ file. IsBuilt breaks file.0)
built_beside breaks (Ok rope) encoding (Ok file) h k = subst (IsBuilt breaks) (sym h.0) k
built_beside breaks (Ok rope) encoding (Err e) h k = absurd h
built_beside breaks (Err e) encoding (Ok file) h k = absurd h
built_beside breaks (Err e) encoding (Err same) h k = tt
