-- Changes of a document in two parts, and one at a time.
use Rattle.std.proofs.Common.{◌≡◌, ℕ, ◌-◌, ◌≤◌, List, [], ◌∷◌, ◌++◌, length, take, drop, refl, ap, ap₂, sym, ◌∙◌, arith}
use Rattle.std.specs.Prelude.{Option, Some, None, map}
use Rattle.std.specs.List.{replace_range}
use Rattle.std.proofs.lemmas.List.{map-append, take-append-drop}
use Rattle.rope_text.specs.declared.line_breaks.LineBreaks.{LineBreaks}
use Rattle.rope_position.specs.declared.encoding.Encoding.{Encoding}
use Rattle.rope_changes.specs.Ops.{run}
use Rattle.rope_changes.specs.Change.{ops, before, after, replaced, IsInOrder}
use Rattle.rope_changes.specs.Built.{unchanged}
use Rattle.rope_changes.specs.Normal.{composed}
use Rattle.rope_changes.proofs.Prefixes.{keeping_before, keeping_after}
use Rattle.rope_changes.proofs.ReplacedLaws.{replaced_runs}
use Rattle.rope_changes.proofs.Runs.{run_kept}
use Rattle.rope_documents.specs.declared.content_change.ContentChange.{ContentChange}
use Rattle.rope_documents.specs.declared.error.DocumentError.{DocumentError}
use Rattle.rope_documents.specs.Received.{TextChange, text_change, changed, all_changed, one_change, all_composed, or_next, change_error, first_error}
use Rattle.rope_changes.proofs.Associative.{composed_twice}

or_next_twice : (a b c : Option DocumentError) → or_next a (or_next b c) ≡ or_next (or_next a b) c
or_next_twice None b c = refl
or_next_twice (Some e) b c = refl

module _ (encoding : Encoding) (breaks : LineBreaks) where
  pub changed_append : (text : List ℕ) (front back : List TextChange)
      → all_changed encoding breaks text (front ++ back)
      ≡ all_changed encoding breaks (all_changed encoding breaks text front) back
  changed_append text [] back = refl
  changed_append text (c ∷ front) back = changed_append (changed encoding breaks text c) front back

  pub error_append : (text : List ℕ) (front back : List TextChange)
      → first_error encoding breaks text (front ++ back)
      ≡ or_next (first_error encoding breaks text front)
      (first_error encoding breaks (all_changed encoding breaks text front) back)
  error_append text [] back = refl
  error_append text (c ∷ front) back =
      let next = changed encoding breaks text c in
      ap (or_next (change_error encoding breaks text c)) (error_append next front back)
      ∙ or_next_twice (change_error encoding breaks text c)
      (first_error encoding breaks next front)
      (first_error encoding breaks (all_changed encoding breaks next front) back)

  some_append : (text : List ℕ) (c : TextChange) (front : List TextChange) (d : TextChange)
      (back : List TextChange) → all_composed encoding breaks text ((c ∷ front) ++ (d ∷ back))
      ≡ composed (all_composed encoding breaks text (c ∷ front))
      (all_composed encoding breaks (all_changed encoding breaks text (c ∷ front)) (d ∷ back))
  some_append text c [] d back = refl
  some_append text c (e ∷ front) d back =
      let next = changed encoding breaks text c in
      ap (composed (ops (one_change encoding breaks text c))) (some_append next e front d back)
      ∙ sym (composed_twice (ops (one_change encoding breaks text c))
      (all_composed encoding breaks next (e ∷ front))
      (all_composed encoding breaks (all_changed encoding breaks next (e ∷ front)) (d ∷ back)))

  pub composed_append : (text : List ℕ) (front back : List TextChange) → 1 ≤ length front
      → 1 ≤ length back → all_composed encoding breaks text (front ++ back)
      ≡ composed (all_composed encoding breaks text front)
      (all_composed encoding breaks (all_changed encoding breaks text front) back)
  composed_append text [] back some more = absurd (omega arith)
  composed_append text (c ∷ front) [] some more = absurd (omega arith)
  composed_append text (c ∷ front) (d ∷ back) some more = some_append text c front d back

-- a list in two parts
pub split_list : (n : ℕ) (all front back : List ContentChange) → front ≡ take n all
    → back ≡ drop n all → map text_change all ≡ map text_change front ++ map text_change back
split_list n all front back front_is back_is =
    ap (map text_change) (sym (take-append-drop n all))
    ∙ map-append text_change (take n all) (drop n all)
    ∙ ap₂ (λ x y. map text_change x ++ map text_change y) (sym front_is) (sym back_is)

-- the second part is applied to the text that the first part left
module _ (encoding : Encoding) (breaks later : LineBreaks) (text left : List ℕ)
    (all front back : List TextChange) (split : all ≡ front ++ back) (same : later ≡ breaks) where
  pub error_first : (e : DocumentError) → first_error encoding breaks text front ≡ Some e
      → first_error encoding breaks text all ≡ Some e
  error_first e is =
      ap (first_error encoding breaks text) split ∙ error_append encoding breaks text front back
      ∙ ap (λ o. or_next o
      (first_error encoding breaks (all_changed encoding breaks text front) back)) is

  module _ (left_is : left ≡ all_changed encoding breaks text front) where
    pub error_later : (o : Option DocumentError) → first_error encoding breaks text front ≡ None
        → first_error encoding later left back ≡ o → first_error encoding breaks text all ≡ o
    error_later o none is =
        ap (first_error encoding breaks text) split ∙ error_append encoding breaks text front back
        ∙ ap (λ p. or_next p
        (first_error encoding breaks (all_changed encoding breaks text front) back)) none
        ∙ sym (ap₂ (λ b t. first_error encoding b t back) same left_is) ∙ is

    pub text_later : all_changed encoding later left back ≡ all_changed encoding breaks text all
    text_later =
        ap₂ (λ b t. all_changed encoding b t back) same left_is
        ∙ sym (ap (all_changed encoding breaks text) split
        ∙ changed_append encoding breaks text front back)

    pub change_later : 1 ≤ length front → 1 ≤ length back
        → composed (all_composed encoding breaks text front) (all_composed encoding later left back)
        ≡ all_composed encoding breaks text all
    change_later some more =
        ap (composed (all_composed encoding breaks text front))
        (ap₂ (λ b t. all_composed encoding b t back) same left_is)
        ∙ sym (ap (all_composed encoding breaks text) split
        ∙ composed_append encoding breaks text front back some more)

pub unchanged_before : (n : ℕ) → before (unchanged n) ≡ n
unchanged_before n = omega (arith, keeping_before n [])

pub unchanged_after : (n : ℕ) → after (unchanged n) ≡ n
unchanged_after n = omega (arith, keeping_after n [])

-- one replacement in a text
module _ (text : List ℕ) (start end : ℕ) (new : List ℕ) (ordered : start ≤ end)
    (within : end ≤ length text) where
  pub in_order : IsInOrder (unchanged (length text)) start end
  in_order = record {
    valid = ordered;
    within = omega (arith, unchanged_before (length text));
    later = omega (arith, unchanged_before (length text));
  }

  pub one_runs : run (ops (replaced (unchanged (length text)) start end new)) text
      ≡ replace_range text start end new
  one_runs =
      let n : ℕ = length text in
      let from : after (unchanged n) - (before (unchanged n) - start) ≡ start =
      omega (arith, unchanged_before n, unchanged_after n) in
      let to : after (unchanged n) - (before (unchanged n) - end) ≡ end =
      omega (arith, unchanged_before n, unchanged_after n) in
      replaced_runs (unchanged n) start end new text in_order (unchanged_before n)
      ∙ ap (λ u. replace_range u (after (unchanged n) - (before (unchanged n) - start))
      (after (unchanged n) - (before (unchanged n) - end)) new) (run_kept n text)
      ∙ ap (λ i. replace_range text i (after (unchanged n) - (before (unchanged n) - end)) new) from
      ∙ ap (λ i. replace_range text start i new) to
