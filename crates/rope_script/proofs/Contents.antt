-- Edits of one rope of a list, by contents.
use Rattle.std.proofs.Common.{◌≡◌, ℕ, ◌<◌, List, [], ◌∷◌, ◌++◌, length, take, drop, get_or, slice_set, map, Option, Some, None, MatchOption, Bool, true, Result, Ok, Err, IsOk, OnOk, OnErr, IfErr, refl, ap, sym, subst, ◌∙◌, inl, inr, arith}
use Rattle.std.proofs.lemmas.List.{map-set, map-append, length-map, length-set, set-get_or, get_or_default}
use Rattle.std.proofs.Math.ListN.{get_or-map}
use Rattle.rope_text.specs.declared.error.Error.{Error}
use Rattle.rope_text.specs.declared.error.Error.TheVariants.{OutOfMemory}
use Rattle.rope_text.specs.Content.{Content}
use Rattle.rope_text.specs.Content as of_content_specs
use Rattle.rope_text.specs.Cutting.{IsChunkSize}
use Rattle.rope_text.specs.Text.{byte_len}
use Rattle.rope_slice.proofs.Clips.{whole_part, whole_clip}
use Rattle.rope_slice.proofs.PartsBetween as parts_between
use Rattle.rope_slice.specs.Sliced.{IsSlice}
use Rattle.rope_text.specs.Edit.{IsRefusal, char_index_error, append_error}
use Rattle.ropey.specs.View.{RopeView, IsRope, HasFewChunks, content}
use Rattle.rope_script.specs.declared.script.Reply.{Reply}
use Rattle.rope_script.specs.declared.script.Reply.TheVariants.{Made, NoSlice, Refused}
use Rattle.rope_script.specs.Part.{part_of}
use Rattle.rope_script.specs.Step.{Any, OfRope, Unchanged, Unless, OrNoMemory, Adds, AddsSame, Copies, Changes, KeepsChunks, Edits, Cuts, Joins, Shrinks, edit_reply}
use Rattle.rope_script.proofs.Results.{of_rope, is_rope_of, unless_refused, edits_by, changes_by, shrinks_by, keeps_chunks}

-- one of the ropes
pub inside : (old : List RopeView) (r : ℕ) → r < length old → r < length (map content old)
inside old r h = omega (arith, length-map old content)

pub read_at : (old : List RopeView) (r : ℕ) (rope : RopeView) → rope ≡ get_or old r rope
    → content rope ≡ get_or (map content old) r (content rope)
read_at old r rope e = ap content e ∙ sym (get_or-map content old r rope)

pub of_content : (P : Content → Type 0) (old : List RopeView) (new : List Content) (r : ℕ)
    (rope : RopeView) (reply : Reply)
    → r < length old → rope ≡ get_or old r rope → P (content rope)
    → OfRope r P (map content old) reply new
of_content P old new r rope reply h e p =
    of_rope P (map content old) new r (content rope) reply (inside old r h) (read_at old r rope e) p

same_content : {T : Type 0} (result : Result T Error) (rope after : RopeView)
    → OnErr result (after ≡ rope) → OnErr result (content after ≡ content rope)
same_content (Ok done) rope after h = tt
same_content (Err error) rope after h = ap content h

-- the edit of one of the ropes follows from the result of the rope's own edit
pub edit_of : {T : Type 0} (result : Result T Error) (old : List RopeView) (r : ℕ)
    (rope after : RopeView) (error : Option Error) (idle : Bool) (text : List ℕ)
    → rope ≡ get_or old r rope → OnOk result ((error ≡ None) × (after.text ≡ text))
    → IfErr result (IsRefusal error) → OnErr result (after ≡ rope)
    → (idle ≡ true → error ≡ None → IsOk result × (after ≡ rope)) → after.breaks ≡ rope.breaks
    → IsRope after
    → Edits r rope.breaks error idle text (map content old) (edit_reply result)
    (map content (slice_set old r after))
edit_of result old r rope after error idle text e ok refusal same still breaks_are kept =
    rw (map-set content old r after)
    (edits_by result (map content old) r (content rope) (content after) error idle text
    (read_at old r rope e) ok refusal (same_content result rope after same)
    (λ z fine. let s = still z fine in (s.0, ap content s.1)) breaks_are kept.content)

-- another rope is added
pushed : (old new : List RopeView) (rope : RopeView) → new ≡ old ++ rope ∷ []
    → map content new ≡ map content old ++ content rope ∷ []
pushed old new rope e = ap (map content) e ∙ map-append content old (rope ∷ [])

made : (old : List RopeView) (reply : Reply) → reply ≡ Made (length old)
    → reply ≡ Made (length (map content old))
made old reply e = e ∙ ap Made (sym (length-map old content))

-- a clone of one of the ropes is added
pub clone_of : (old new : List RopeView) (r : ℕ) (rope clone : RopeView) (reply : Reply)
    → r < length old → rope ≡ get_or old r rope
    → clone ≡ rope → reply ≡ Made (length old) → new ≡ old ++ clone ∷ []
    → OfRope r (λ cloned. OrNoMemory (AddsSame cloned (map content old) reply (map content new))
    (map content old) reply (map content new)) (map content old) reply (map content new)
clone_of old new r rope clone reply h e same reply_is new_is =
    of_content _ old (map content new) r rope reply h e
    (inl (
      made old reply reply_is,
      pushed old new clone new_is
          ∙ ap (λ c. map content old ++ content c ∷ []) same,
    ))

-- a clone that runs out of memory
pub unmade_of : (old : List RopeView) (r : ℕ) (rope : RopeView) → r < length old
    → rope ≡ get_or old r rope
    → OfRope r (λ cloned. OrNoMemory
    (AddsSame cloned (map content old) (Refused OutOfMemory) (map content old)) (map content old)
    (Refused OutOfMemory) (map content old))
    (map content old) (Refused OutOfMemory) (map content old)
unmade_of old r rope h e =
    of_content _ old (map content old) r rope (Refused OutOfMemory) h e (inr (refl, refl))

-- one of the ropes is split, and its back added
pub cut_of : (old new : List RopeView) (r i : ℕ) (rope front back : RopeView) (reply : Reply)
    → r < length old → rope ≡ get_or old r rope
    → char_index_error i (length rope.text) ≡ None → front.text ≡ take i rope.text
    → back.text ≡ drop i rope.text → front.breaks ≡ rope.breaks → back.breaks ≡ rope.breaks
    → IsRope front → IsRope back → reply ≡ Made (length (slice_set old r front))
    → new ≡ slice_set old r front ++ back ∷ []
    → Cuts r i (map content old) reply (map content new)
cut_of old new r i rope front back reply h e fine f b fs bs k l reply_is new_is =
    of_content _ old (map content new) r rope reply h e
    (rw fine (inl (
      content front,
      content back,
      is_rope_of (take i rope.text) rope.breaks (content front) f fs k.content,
      is_rope_of (drop i rope.text) rope.breaks (content back) b bs l.content,
      reply_is ∙ ap Made (length-set old r front ∙ sym (length-map old content)),
      pushed (slice_set old r front) new back new_is
          ∙ ap (λ cs. cs ++ content back ∷ []) (map-set content old r front),
    )))

-- a split fails
pub uncut_of : (old : List RopeView) (r i : ℕ) (rope after : RopeView) (error : Error)
    → r < length old → rope ≡ get_or old r rope
    → IsRefusal (char_index_error i (length rope.text)) error → after ≡ rope
    → Cuts r i (map content old) (Refused error) (map content (slice_set old r after))
uncut_of old r i rope after error h e refusal same =
    let back : map content (slice_set old r after) ≡ map content old =
    ap (map content) (ap (slice_set old r) (same ∙ e) ∙ set-get_or old r rope) in
    of_content _ old _ r rope (Refused error) h e
    (unless_refused (char_index_error i (length rope.text)) error _ (map content old) _ refusal back
    (λ fine memory. inr (ap Refused memory, back)))

-- the text of one of the ropes is appended to another, by the result of the rope's own append
pub join_of : {T : Type 0} (result : Result T Error) (old : List RopeView) (r s : ℕ)
    (rope other after : RopeView)
    → r < length old → rope ≡ get_or old r rope → s < length old → other ≡ get_or old s other
    → OnOk result ((append_error rope.breaks other.breaks rope.text other.text ≡ None)
    × (after.text ≡ rope.text ++ other.text))
    → IfErr result (IsRefusal (append_error rope.breaks other.breaks rope.text other.text))
    → OnErr result (after ≡ rope)
    → (append_error rope.breaks other.breaks rope.text other.text ≡ None → length other.text ≡ 0
    → IsOk result × (after ≡ rope))
    → (append_error rope.breaks other.breaks rope.text other.text ≡ None → length rope.text ≡ 0
    → 0 < length other.text → IsOk result × (after ≡ other))
    → IsRope rope → IsRope other → after.breaks ≡ rope.breaks → IsRope after
    → Joins r s (map content old) (edit_reply result) (map content (slice_set old r after))
join_of result old r s rope other after h e j f ok refusal same right left k l breaks_are kept =
    let error = append_error rope.breaks other.breaks rope.text other.text in
    let joined : Unless error
    (OrNoMemory (Changes r rope.breaks (rope.text ++ other.text)
    (KeepsChunks (content rope) (content other)) (map content old) (edit_reply result)
    (slice_set (map content old) r (content after)))
    (map content old) (edit_reply result) (slice_set (map content old) r (content after)))
    (map content old) (edit_reply result) (slice_set (map content old) r (content after)) =
    changes_by result (map content old) r (content rope) (content after) error
    (rope.text ++ other.text) (KeepsChunks (content rope) (content other))
    (read_at old r rope e) ok refusal (same_content result rope after same)
    (λ fine. keeps_chunks (content rope) (content other) (content after) k.content l.content
    (λ z. ap content (right fine z).1) (λ z p. ap content (left fine z p).1))
    breaks_are kept.content in
    rw (map-set content old r after)
    (of_content _ old _ r rope _ h e (of_content _ old _ s other _ j f joined))

-- a join fails by its ropes' contents, or else for lack of memory
pub unjoined_of : (old : List RopeView) (r s : ℕ) (rope other : RopeView) (found : Option Error)
    (error : Error) → r < length old → rope ≡ get_or old r rope → s < length old
    → other ≡ get_or old s other
    → found ≡ append_error rope.breaks other.breaks rope.text other.text → IsRefusal found error
    → Joins r s (map content old) (Refused error) (map content old)
unjoined_of old r s rope other found error h e j f is refusal =
    of_content _ old _ r rope _ h e (of_content _ old _ s other _ j f
    (rw (← is) (unless_refused found error _ (map content old) (map content old) refusal refl
    (λ fine memory. inr (ap Refused memory, refl)))))

-- one of the ropes is re-chunked, as the result of the rope's own shrinking says
pub shrink_of : {T : Type 0} (result : Result T Error) (old : List RopeView) (r : ℕ)
    (rope after : RopeView) → r < length old → rope ≡ get_or old r rope
    → after.text ≡ rope.text → after.breaks ≡ rope.breaks → IsRope after
    → OnOk result (HasFewChunks after) → IfErr result (λ e. e ≡ OutOfMemory)
    → OnErr result (after ≡ rope)
    → Shrinks r (map content old) (edit_reply result) (map content (slice_set old r after))
shrink_of result old r rope after h e text_is breaks_are kept few memory same =
    rw (map-set content old r after)
    (of_content _ old _ r rope _ h e
    (shrinks_by result (map content old) r (content rope) (content after) (read_at old r rope e)
    text_is breaks_are kept.content few memory (same_content result rope after same)))

-- a rope read at the same index is the same rope
pub same_place : (old : List RopeView) (r : ℕ) (a b : RopeView) → r < length old
    → a ≡ get_or old r a → b ≡ get_or old r b → a ≡ b
same_place old r a b h e f = e ∙ get_or_default old r a b h ∙ sym f

-- a rope of a slice of one of the ropes is added, as requested
pub copied_of : (old new : List RopeView) (r : ℕ) (range : Option (ℕ × ℕ)) (rope copy : RopeView)
    (part : Content) (reply : Reply) → r < length old → rope ≡ get_or old r rope
    → part_of (content rope) range ≡ Some part → copy.text ≡ part.text → copy.breaks ≡ part.breaks
    → IsRope copy → reply ≡ Made (length old) → new ≡ old ++ copy ∷ []
    → Copies r range (map content old) reply (map content new)
copied_of old new r range rope copy part reply h e found t b k reply_is new_is =
    of_content _ old (map content new) r rope reply h e
    (subst (λ f. MatchOption f (Unchanged NoSlice (map content old) reply (map content new))
    (λ p. OrNoMemory (Adds p.text p.breaks Any (map content old) reply (map content new))
    (map content old) reply (map content new))) (sym found)
    (inl (
      content copy,
      is_rope_of part.text part.breaks (content copy) t b k.content,
      tt,
      made old reply reply_is,
      pushed old new copy new_is,
    )))

-- a copy that runs out of memory
pub uncopied_of : (old : List RopeView) (r : ℕ) (range : Option (ℕ × ℕ)) (rope : RopeView)
    (part : Content) (error : Error) → r < length old → rope ≡ get_or old r rope
    → part_of (content rope) range ≡ Some part → error ≡ OutOfMemory
    → Copies r range (map content old) (Refused error) (map content old)
uncopied_of old r range rope part error h e found memory =
    of_content _ old (map content old) r rope (Refused error) h e
    (subst (λ f. MatchOption f
    (Unchanged NoSlice (map content old) (Refused error) (map content old))
    (λ p. OrNoMemory (Adds p.text p.breaks Any (map content old) (Refused error) (map content old))
    (map content old) (Refused error) (map content old))) (sym found)
    (inr (ap Refused memory, refl)))

-- a chunk of a rope has a character
some_chunk : (chunk : List ℕ) → IsChunkSize (byte_len chunk) → 0 < length chunk
some_chunk [] size = absurd (omega arith)
some_chunk (c ∷ chunk) size = omega arith

-- the slice of all of a rope has the rope's content
pub whole_slice : (rope slice : Content) → of_content_specs.IsRope rope
    → IsSlice rope 0 (length rope.text) slice → slice ≡ rope
whole_slice rope slice kept s =
    parts_between.same_content slice rope
    (s.text ∙ whole_part rope.text 0 (length rope.text) refl refl)
    (s.chunks ∙ whole_clip rope.chunks 0 (length rope.text)
    (λ i d l. some_chunk _ (kept.cut.sized i d l)) refl (ap length (sym kept.cut.joined)))
    s.breaks
