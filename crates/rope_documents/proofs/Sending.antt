-- A peer that applies the list of a change has the text after the change.
use Rattle.std.proofs.Common.{◌≡◌, ℕ, ◌+◌, ◌<◌, ◌≤◌, List, [], ◌∷◌, ◌++◌, length, take, drop, refl, ap, ap₂, sym, ◌∙◌, arith, append_assoc}
use Rattle.std.specs.Prelude.{◌^◌, true, false, Some, None, if◌then◌else◌}
use Rattle.std.specs.List.{replace_range}
use Rattle.std.proofs.Common.{ltb}
use Rattle.std.proofs.lemmas.Bool.{le-ltb, lt-ltb}
use Rattle.std.proofs.Math.Seq.{take-add, drop-append_seam}
use Rattle.std.proofs.lemmas.List.{drop-drop, length-take, length-take-le, take-append-drop, take-append-le, take-take}
use Rattle.rope_text.specs.declared.line_breaks.LineBreaks.{LineBreaks}
use Rattle.rope_text.specs.Text.{byte_len}
use Rattle.rope_text.proofs.Measures.{IsMeasure-byte_len, size_le}
use Rattle.rope_position.specs.declared.encoding.Encoding.{Encoding}
use Rattle.rope_position.specs.Encodings.{clamped_char, position_in}
use Rattle.rope_changes.specs.Ops.{run, len_before}
use Rattle.rope_changes.specs.Change.{Edit, inserting, deleting, ops_of, AreApart, AreNormal}
use Rattle.rope_changes.proofs.Runs.{run_keeping, run_kept}
use Rattle.rope_changes.proofs.Spliced.{step_runs}
use Rattle.rope_changes.proofs.Steps.{step_before}
use Rattle.rope_documents.specs.declared.error.DocumentError.TheVariants.{RangeInvalid, TooLong}
use Rattle.rope_documents.specs.Received.{TextChange, changed, all_changed, change_error, first_error, or_next}
use Rattle.rope_documents.specs.Sent.{is_inside_crlf, start_outside, cr_before, end_outside, lf_after, sent_change, sent, text_bytes}
use Rattle.rope_documents.proofs.Batches.{changed_append, error_append}
use Rattle.rope_documents.proofs.Clamped.{clamped_returns, position_same}
use Rattle.rope_documents.proofs.Insides.{IsStart, start_is, front_same, inside_same, IsEnd, end_is}

-- a text that is changed from an index on, by replacements that keep the character there
abbrev pub changed_from : List ℕ → ℕ → List Edit → ℕ → List ℕ
changed_from text at edits rest = take at text ++ run (ops_of edits rest) (drop at text)

kept_front : (text : List ℕ) (at : ℕ) (edits : List Edit) (rest : ℕ) → AreApart edits
    → at + len_before (ops_of edits rest) ≡ length text
    → take (at + 1) (changed_from text at edits rest) ≡ take (at + 1) text
kept_front text at [] rest apart fits =
    ap (λ u. take (at + 1) (take at text ++ u)) (run_kept rest (drop at text))
    ∙ ap (take (at + 1)) (take-append-drop at text)
kept_front text at (e ∷ edits) rest apart fits =
    let next = inserting e.text (deleting e.deleted (ops_of edits rest)) in
    let later : List ℕ = run next (drop e.kept (drop at text)) in
    let size = step_before e.kept e.text e.deleted (ops_of edits rest) in
    let some : 1 ≤ e.kept = apart.0 in
    let long : length (take (at + e.kept) text) ≡ at + e.kept =
    length-take-le (at + e.kept) text (omega arith) in
    ap (λ u. take (at + 1) (take at text ++ u)) (run_keeping e.kept next (drop at text))
    ∙ ap (take (at + 1)) (sym (append_assoc (take at text) (take e.kept (drop at text)) later))
    ∙ ap (λ u. take (at + 1) (u ++ later)) (sym (take-add at e.kept text))
    ∙ take-append-le (at + 1) (take (at + e.kept) text) later (omega arith)
    ∙ take-take (at + 1) (at + e.kept) text (omega arith)

-- an index of the text before, read in a text that begins with the same characters
module _ (encoding : Encoding) (breaks : LineBreaks) (text new : List ℕ) (i : ℕ)
    (within : i ≤ length text) (same : take i new ≡ take i text)
    (apart : is_inside_crlf text i ≡ false) (outside : is_inside_crlf new i ≡ false) where
  long : i ≤ length new
  long = omega (arith, ap length same, length-take i new, length-take i text)

  pub read_back : clamped_char encoding breaks new (position_in encoding breaks text i) ≡ i
  read_back =
      ap (clamped_char encoding breaks new)
      (position_same encoding breaks text new i within long apart outside same)
      ∙ clamped_returns breaks new i long outside encoding

regrouped : (a b c d e : List ℕ) → (a ++ (b ++ (c ++ d))) ++ e ≡ ((a ++ b) ++ c) ++ (d ++ e)
regrouped a b c d e = simp append_assoc

-- what a peer makes of one replacement of a text whose end is changed already
module _ (encoding : Encoding) (breaks : LineBreaks) (text new : List ℕ) (start end : ℕ)
    (with : List ℕ) (ordered : start ≤ end) (within : end ≤ length text)
    (same : take (end + 1) new ≡ take (end + 1) text) where
  abbrev first : ℕ
  first = start_outside text start

  abbrev last : ℕ
  last = end_outside text end

  abbrev one : TextChange
  one = sent_change encoding breaks text start end with

  s : IsStart text start first (cr_before text start)
  s = start_is text start

  e : IsEnd text new end same last (lf_after text end)
  e = end_is text new end same within

  front : take first new ≡ take first text
  front = front_same text new end same first (let f = s in omega (arith, f.le))

  first_read : clamped_char encoding breaks new (position_in encoding breaks text first) ≡ first
  first_read =
      let f = s in
      read_back encoding breaks text new first (omega (arith, f.le)) front f.outside
      (inside_same text new end same first (omega (arith, f.le)) ∙ f.outside)

  last_read : clamped_char encoding breaks new (position_in encoding breaks text last) ≡ last
  last_read = let l = e in read_back encoding breaks text new last l.le l.front l.outside l.apart

  pub one_changed : changed encoding breaks new one ≡ (take start text ++ with) ++ drop end new
  one_changed =
      let f = s in
      let l = e in
      let all : List ℕ = cr_before text start ++ (with ++ lf_after text end) in
      ap₂ (λ i j. replace_range new i j all) first_read last_read
      ∙ ap (λ u. (u ++ all) ++ drop last new) front
      ∙ regrouped (take first text) (cr_before text start) with (lf_after text end) (drop last new)
      ∙ ap₂ (λ u v. (u ++ with) ++ v) f.joins l.joins

  -- it adds no more than its text
  pub one_grows : byte_len (changed encoding breaks new one) ≤ byte_len new + byte_len one.text
  one_grows =
      let kept : take start text ≡ take start new =
      sym (front_same text new end same start (omega arith)) in
      let parts = IsMeasure-byte_len.joined (take start text ++ with) (drop end new) in
      let parts' = IsMeasure-byte_len.joined (take start text) with in
      let whole = IsMeasure-byte_len.joined (take end new) (drop end new) in
      let all = ap byte_len (take-append-drop end new) in
      let sent' = IsMeasure-byte_len.joined (cr_before text start) (with ++ lf_after text end) in
      let sent'' = IsMeasure-byte_len.joined with (lf_after text end) in
      omega (
        arith,
        ap byte_len one_changed,
        parts,
        parts',
        ap byte_len kept,
        size_le byte_len IsMeasure-byte_len new start end ordered,
        whole,
        all,
        sent',
        sent'',
      )

  -- a peer refuses it for nothing but its size
  pub one_accepted : byte_len new + byte_len one.text < 2 ^ 63
      → change_error encoding breaks new one ≡ None
  one_accepted few =
      let f = s in
      let l = e in
      let ordered' : ltb last first ≡ false = le-ltb last first (omega (arith, f.le, l.ge)) in
      let test : ltb (clamped_char encoding breaks new (position_in encoding breaks text last))
      (clamped_char encoding breaks new (position_in encoding breaks text first)) ≡ false =
      ap₂ ltb last_read first_read ∙ ordered' in
      let small : ltb (byte_len new + byte_len one.text) (2 ^ 63) ≡ true = lt-ltb _ _ few in
      ap₂ (λ a b. or_next (if a then Some (RangeInvalid
      (position_in encoding breaks text first) (position_in encoding breaks text last)) else None)
      (if b then None else Some TooLong)) test small

module _ (encoding : Encoding) (breaks : LineBreaks) (text : List ℕ) where
  apart_normal : (edits : List Edit) → AreApart edits → AreNormal edits
  apart_normal [] apart = tt
  apart_normal (e ∷ edits) apart = (apart.1, apart.2)

  pub sent_changes : (at : ℕ) (edits : List Edit) (rest : ℕ) → AreNormal edits
      → at + len_before (ops_of edits rest) ≡ length text
      → all_changed encoding breaks text (sent encoding breaks text at edits)
      ≡ changed_from text at edits rest
  sent_changes at [] rest normal fits =
      sym (ap (λ u. take at text ++ u) (run_kept rest (drop at text)) ∙ take-append-drop at text)
  sent_changes at (e ∷ edits) rest normal fits =
      let start : ℕ = at + e.kept in
      let end : ℕ = at + e.kept + e.deleted in
      let later = ops_of edits rest in
      let size = step_before e.kept e.text e.deleted later in
      let left : end + len_before later ≡ length text = omega arith in
      let new : List ℕ = changed_from text end edits rest in
      let before = sent_changes end edits rest (apart_normal edits normal.1) left in
      let now = sent_change encoding breaks text start end e.text in
      let same = kept_front text end edits rest normal.1 left in
      let front : length (take end text) ≡ end = length-take-le end text (omega arith) in
      let back : drop end new ≡ run later (drop end text) =
      ap (λ n. drop n new) (sym front)
      ∙ drop-append_seam (take end text) (run later (drop end text)) in
      let step : take at text ++ run (ops_of (e ∷ edits) rest) (drop at text)
      ≡ (take start text ++ e.text) ++ run later (drop end text) =
      ap (λ u. take at text ++ u) (step_runs e.kept e.text e.deleted later (drop at text))
      ∙ sym (append_assoc (take at text) (take e.kept (drop at text))
      (e.text ++ run later (drop (e.kept + e.deleted) (drop at text))))
      ∙ ap (λ u. u ++ (e.text ++ run later (drop (e.kept + e.deleted) (drop at text))))
      (sym (take-add at e.kept text))
      ∙ sym (append_assoc (take start text) e.text
      (run later (drop (e.kept + e.deleted) (drop at text))))
      ∙ ap (λ u. (take start text ++ e.text) ++ run later u) (drop-drop (e.kept + e.deleted) at text
      ∙ ap (λ n. drop n text) (let sum : at + (e.kept + e.deleted) ≡ end = omega arith in sum)) in
      changed_append encoding breaks text (sent encoding breaks text end edits) (now ∷ [])
      ∙ ap (λ u. changed encoding breaks u now) before
      ∙ one_changed encoding breaks text new start end e.text (omega arith) (omega arith) same
      ∙ ap (λ u. (take start text ++ e.text) ++ u) back ∙ sym step

  bytes_append : (a b : List TextChange) → text_bytes (a ++ b) ≡ text_bytes a + text_bytes b
  bytes_append [] b = omega arith
  bytes_append (c ∷ a) b = omega (arith, bytes_append a b)

  -- the texts between are no longer than the text before and all that is sent
  record IsAccepted (changes : List TextChange) : Type 0 where
    grows : byte_len (all_changed encoding breaks text changes) ≤ byte_len text + text_bytes changes
    accepted : byte_len text + text_bytes changes < 2 ^ 63
        → first_error encoding breaks text changes ≡ None

  none_accepted : IsAccepted []
  none_accepted = record { grows = omega arith; accepted = λ few. refl }

  more_accepted : (changes : List TextChange) (c : TextChange) → IsAccepted changes
      → byte_len (changed encoding breaks (all_changed encoding breaks text changes) c)
      ≤ byte_len (all_changed encoding breaks text changes) + byte_len c.text
      → (byte_len (all_changed encoding breaks text changes) + byte_len c.text < 2 ^ 63
      → change_error encoding breaks (all_changed encoding breaks text changes) c ≡ None)
      → IsAccepted (changes ++ c ∷ [])
  more_accepted changes c before grow accept =
      let bytes = bytes_append changes (c ∷ []) in
      record {
        grows = omega (
          arith,
          ap byte_len (changed_append encoding breaks text changes (c ∷ [])),
          grow,
          before.grows,
          bytes,
        );
        accepted = λ few.
            error_append encoding breaks text changes (c ∷ [])
            ∙ ap₂ (λ a b. or_next a (or_next b None)) (before.accepted (omega (arith, few, bytes)))
            (accept (omega (arith, few, bytes, before.grows)));
      }

  sent_accepted : (at : ℕ) (edits : List Edit) (rest : ℕ) → AreNormal edits
      → at + len_before (ops_of edits rest) ≡ length text
      → IsAccepted (sent encoding breaks text at edits)
  sent_accepted at [] rest normal fits = none_accepted
  sent_accepted at (e ∷ edits) rest normal fits =
      let start : ℕ = at + e.kept in
      let end : ℕ = at + e.kept + e.deleted in
      let size = step_before e.kept e.text e.deleted (ops_of edits rest) in
      let left : end + len_before (ops_of edits rest) ≡ length text = omega arith in
      let tail = apart_normal edits normal.1 in
      let is = sent_changes end edits rest tail left in
      let same : take (end + 1)
      (all_changed encoding breaks text (sent encoding breaks text end edits))
      ≡ take (end + 1) text =
      ap (take (end + 1)) is ∙ kept_front text end edits rest normal.1 left in
      let new = all_changed encoding breaks text (sent encoding breaks text end edits) in
      more_accepted (sent encoding breaks text end edits)
      (sent_change encoding breaks text start end e.text)
      (sent_accepted end edits rest tail left)
      (one_grows encoding breaks text new start end e.text (omega arith) (omega arith) same)
      (one_accepted encoding breaks text new start end e.text (omega arith) (omega arith) same)

  pub all_accepted : (at : ℕ) (edits : List Edit) (rest : ℕ) → AreNormal edits
      → at + len_before (ops_of edits rest) ≡ length text
      → byte_len text + text_bytes (sent encoding breaks text at edits) < 2 ^ 63
      → first_error encoding breaks text (sent encoding breaks text at edits) ≡ None
  all_accepted at edits rest normal fits =
      let a = sent_accepted at edits rest normal fits in a.accepted
