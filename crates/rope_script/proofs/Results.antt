-- The effect of an edit of one rope of a list, by the effect of the rope's own edit.
use Rattle.std.proofs.Common.{◌≡◌, ℕ, zero, suc, ◌<◌, ◌⊎◌, List, [], ◌∷◌, All, length, arith, get_or, slice_set, MatchBool, Option, Some, None, Bool, true, false, Result, Ok, Err, IsOk, OnOk, OnErr, IfErr, refl, sym, ap, ◌∙◌, inl, inr, true≢false}
use Rattle.std.specs.List.{concat}
use Rattle.std.proofs.lemmas.List.{set-get_or}
use Rattle.std.proofs.lemmas.List.Elements.{All-head}
use Rattle.std.proofs.lemmas.Option.{slice_get_read}
use Rattle.rope_text.specs.declared.error.Error.{Error}
use Rattle.rope_text.specs.declared.error.Error.TheVariants.{OutOfMemory}
use Rattle.rope_text.specs.declared.line_breaks.LineBreaks.{LineBreaks}
use Rattle.rope_text.specs.Content.{Content, IsRope, HasFewChunks}
use Rattle.rope_text.specs.Cutting.{IsChunkSize}
use Rattle.rope_text.specs.Text.{byte_len}
use Rattle.rope_text.specs.Edit.{IsRefusal}
use Rattle.rope_script.specs.declared.script.Reply.{Reply}
use Rattle.rope_script.specs.declared.script.Reply.TheVariants.{Refused}
use Rattle.rope_script.specs.Step.{OfRope, Unless, OrNoMemory, IsRopeOf, Changes, KeepsChunks, Edits, edit_reply}

-- a fact about a rope that exists
pub of_rope : (P : Content → Type 0) (old new : List Content) (r : ℕ) (rope : Content)
    (reply : Reply) → r < length old → rope ≡ get_or old r rope → P rope → OfRope r P old reply new
of_rope P old new r rope reply h e p = rw (slice_get_read old (length old) r rope refl h e) p

-- writing a rope back to its index changes nothing
pub written_back : (old : List Content) (r : ℕ) (rope after : Content) → rope ≡ get_or old r rope
    → after ≡ rope → slice_set old r after ≡ old
written_back old r rope after e same = ap (slice_set old r) (same ∙ e) ∙ set-get_or old r rope

-- the rope after an edit has the expected text and set of line breaks
pub is_rope_of : (text : List ℕ) (breaks : LineBreaks) (rope : Content) → rope.text ≡ text
    → rope.breaks ≡ breaks → IsRope rope → IsRopeOf text breaks rope
is_rope_of text breaks rope t b k = record { text_is = t; breaks_are = b; kept = k }

-- one of two facts, by a test
on_test : (test : Bool) (P Q : Type 0) → (test ≡ true → P) → Q → MatchBool test P Q
on_test true P Q p q = p refl
on_test false P Q p q = q

-- the error is that of the arguments, or `OutOfMemory` if they give none
pub unless_refused : (first : Option Error) (error : Error) (P : Type 0) (old new : List Content)
    → IsRefusal first error → new ≡ old → (first ≡ None → error ≡ OutOfMemory → P)
    → Unless first P old (Refused error) new
unless_refused None error P old new refusal same p = p refl refusal
unless_refused (Some first) error P old new refusal same p = (ap Refused refusal, same)

-- the edit follows from the result of the rope's own edit
pub edits_by : {T : Type 0} (result : Result T Error) (old : List Content) (r : ℕ)
    (rope after : Content) (error : Option Error) (idle : Bool) (text : List ℕ)
    → rope ≡ get_or old r rope → OnOk result ((error ≡ None) × (after.text ≡ text))
    → IfErr result (IsRefusal error) → OnErr result (after ≡ rope)
    → (idle ≡ true → error ≡ None → IsOk result × (after ≡ rope)) → after.breaks ≡ rope.breaks
    → IsRope after
    → Edits r rope.breaks error idle text old (edit_reply result) (slice_set old r after)
edits_by (Ok done) old r rope after error idle text e ok refusal same still breaks_are kept =
    rw ok.0 (on_test idle _ _
    (λ z. (refl, written_back old r rope after e (still z ok.0).1))
    (inl (after, is_rope_of text rope.breaks after ok.1 breaks_are kept, tt, refl, refl)))
edits_by (Err fault) old r rope after error idle text e ok refusal same still breaks_are kept =
    let back = written_back old r rope after e same in
    unless_refused error fault _ old (slice_set old r after) refusal back
    (λ fine memory. on_test idle _ _ (λ z. absurd (true≢false (sym (still z fine).0)))
    (inr (ap Refused memory, back)))

-- a change that is never idle follows from the result of the rope's own edit
pub changes_by : {T : Type 0} (result : Result T Error) (old : List Content) (r : ℕ)
    (rope after : Content) (error : Option Error) (text : List ℕ) (Q : Content → Type 0)
    → rope ≡ get_or old r rope → OnOk result ((error ≡ None) × (after.text ≡ text))
    → IfErr result (IsRefusal error) → OnErr result (after ≡ rope)
    → (error ≡ None → Q after) → after.breaks ≡ rope.breaks → IsRope after
    → Unless error (OrNoMemory
    (Changes r rope.breaks text Q old (edit_reply result) (slice_set old r after)) old
    (edit_reply result) (slice_set old r after))
    old (edit_reply result) (slice_set old r after)
changes_by (Ok done) old r rope after error text Q e ok refusal same q breaks_are kept =
    rw ok.0 (inl (
      after,
      is_rope_of text rope.breaks after ok.1 breaks_are kept,
      q ok.0,
      refl,
      refl,
    ))
changes_by (Err fault) old r rope after error text Q e ok refusal same q breaks_are kept =
    let back = written_back old r rope after e same in
    unless_refused error fault _ old (slice_set old r after) refusal back
    (λ fine memory. inr (ap Refused memory, back))

-- a re-chunking follows from the result of the rope's own
pub shrinks_by : {T : Type 0} (result : Result T Error) (old : List Content) (r : ℕ)
    (rope after : Content)
    → rope ≡ get_or old r rope → after.text ≡ rope.text → after.breaks ≡ rope.breaks → IsRope after
    → OnOk result (HasFewChunks after) → IfErr result (λ e. e ≡ OutOfMemory)
    → OnErr result (after ≡ rope)
    → OrNoMemory (Changes r rope.breaks rope.text HasFewChunks old (edit_reply result)
    (slice_set old r after)) old (edit_reply result) (slice_set old r after)
shrinks_by (Ok done) old r rope after e text_is breaks_are kept few memory same =
    inl (after, is_rope_of rope.text rope.breaks after text_is breaks_are kept, few, refl, refl)
shrinks_by (Err fault) old r rope after e text_is breaks_are kept few memory same =
    inr (ap Refused memory, written_back old r rope after e same)

zero_or_more : (n : ℕ) → (n ≡ 0) ⊎ (0 < n)
zero_or_more zero = inl refl
zero_or_more (suc n) = inr (omega arith)

-- chunks that join to an empty text are none, since each has a byte
none : (chunks : List (List ℕ)) → length (concat chunks) ≡ 0
    → All (λ chunk. IsChunkSize (byte_len chunk)) chunks → chunks ≡ []
none [] e k = refl
none ([] ∷ chunks) e k = let size : IsChunkSize (byte_len []) =
    All-head (λ chunk. IsChunkSize (byte_len chunk)) [] chunks k in absurd (omega (arith, size.0))
none ((c ∷ cs) ∷ chunks) e k = absurd (omega (arith, e))

-- an empty text has no chunk
no_chunks : (rope : Content) → IsRope rope → length rope.text ≡ 0 → rope.chunks ≡ []
no_chunks rope k e = none rope.chunks (ap length k.cut.joined ∙ e) k.cut.sized

-- the result of an append with an empty side
pub keeps_chunks : (rope other after : Content) → IsRope rope → IsRope other
    → (length other.text ≡ 0 → after ≡ rope)
    → (length rope.text ≡ 0 → 0 < length other.text → after ≡ other)
    → KeepsChunks rope other after
keeps_chunks rope other after k l right left = (
  λ e. elim (zero_or_more (length other.text)) [
    | inl z ↦ ap (λ c. c.chunks) (right z) ∙ no_chunks rope k e ∙ sym (no_chunks other l z)
    | inr p ↦ ap (λ c. c.chunks) (left e p)
  ],
  λ e. ap (λ c. c.chunks) (right e),
)
