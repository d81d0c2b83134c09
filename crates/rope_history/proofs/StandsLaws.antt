-- Where a rope stands after each move of a history.
use Rattle.std.proofs.Common.{◌≡◌, ℕ, ◌+◌, ◌<◌, List, [], ◌∷◌, ◌++◌, length, get_or, ap, sym, ◌∙◌, subst, refl, arith}
use Rattle.std.specs.Prelude.{Some}
use Rattle.std.proofs.Math.ListN.{get_or-append}
use Rattle.std.proofs.Math.Seq.{get_or-append_seam}
use Rattle.rope_changes.specs.Ops.{run}
use Rattle.rope_changes.specs.Change.{Change, ops, before, after}
use Rattle.rope_changes.specs.Inverted.{inverted}
use Rattle.rope_changes.proofs.ChangeLaws.{lengths}
use Rattle.rope_changes.proofs.InvertedLaws.{leads_back}
use Rattle.rope_changes.proofs.Prefixes.{keeping_before}
use Rattle.rope_changes.proofs.Runs.{run_kept}
use Rattle.rope_history.specs.declared.history.Version.{Version}
use Rattle.rope_history.specs.Versions.{Versions, IsHistory, version_at, parent_of, redo_of, first_version, with_child, committed, back_at, standing_at}
use Rattle.rope_history.specs.Texts.{text_of, texts_of, text_at, text_before, source, IsStep, StandsAt}
use Rattle.rope_history.proofs.TextLaws.{AreEarlier, length_texts, texts_push, steps_push, text_is, step_is}

-- each version was made of an earlier one
are_earlier : (h : Versions) → IsHistory h → AreEarlier [] h.versions
are_earlier h kept v p lt is = omega (arith, kept.earlier v p lt is)

-- a version's text is the text that it was made of with its change run on it
pub text_at_is : (first : List ℕ) (h : Versions) (v : ℕ) → IsHistory h → v < length h.versions
    → text_at first h v ≡ run (ops (version_at h v).change) (text_before first h v)
text_at_is first h v kept lt =
    let e : v ≡ 0 + v = omega arith in
    ap (λ k. get_or (texts_of first [] h.versions) k first) e
    ∙ text_is first [] h.versions v (are_earlier h kept) lt

-- a version is a step
module _ (first text : List ℕ) (h : Versions) (v : ℕ) (kept : IsHistory h)
    (lt : v < length h.versions) (stands : StandsAt first h text) where
  step_at : IsStep (text_before first h v) (version_at h v)
  step_at = step_is first [] h.versions v (are_earlier h kept) lt stands.steps

  pub inverse_leads_back : run (ops (version_at h v).inverse) (text_at first h v)
      ≡ text_before first h v
  inverse_leads_back =
      let change = (version_at h v).change in
      ap (λ (c : Change). run (ops c) (text_at first h v)) step_at.inverse_is
      ∙ ap (run (ops (inverted change (text_before first h v)))) (text_at_is first h v kept lt)
      ∙ leads_back change.edits change.rest (text_before first h v) step_at.before_is

  pub len_text_at : length (text_at first h v) ≡ after (version_at h v).change
  len_text_at =
      ap length (text_at_is first h v kept lt)
      ∙ lengths (ops (version_at h v).change) (text_before first h v) step_at.before_is

-- a text is the one of the first version
pub first_stands : (len : ℕ) (text : List ℕ) → length text ≡ len
    → StandsAt text (first_version len) text
first_stands len text is =
    record {
      steps = (record { before_is = omega (arith, keeping_before len []); inverse_is = refl }, tt);
      text_is = sym (run_kept len text);
    }

pub texts_stay : (first : List ℕ) (h : Versions) (change inverse : Change) (v : ℕ)
    → v < length h.versions
    → text_at first (with_child h change inverse) v ≡ text_at first h v
texts_stay first h change inverse v lt =
    let child : Version = record { parent = Some h.current; change = change; inverse = inverse } in
    let texts = texts_of first [] h.versions in
    ap (λ ts. get_or ts v first) (texts_push first [] h.versions child)
    ∙ get_or-append texts (text_of first texts child ∷ []) first v
    (omega (arith, length_texts first [] h.versions))

pub commit_stands : (first text : List ℕ) (h : Versions) (change : Change)
    → before change ≡ length text
    → StandsAt first h text → StandsAt first (committed h change text) (run (ops change) text)
commit_stands first text h change fits stands =
    let child : Version =
    record { parent = Some h.current; change = change; inverse = inverted change text } in
    let texts = texts_of first [] h.versions in
    let source_is : text ≡ source first texts child.parent = stands.text_is in
    let n : length h.versions ≡ length texts = omega (arith, length_texts first [] h.versions) in
    record {
      steps = steps_push first [] h.versions child stands.steps
          (subst (λ s. IsStep s child) source_is (record { before_is = fits; inverse_is = refl }));
      text_is = sym (ap (λ ts. get_or ts (length h.versions) first)
          (texts_push first [] h.versions child)
          ∙ ap (λ k. get_or (texts ++ text_of first texts child ∷ []) k first) n
          ∙ get_or-append_seam texts (text_of first texts child) [] first
          ∙ ap (run (ops change)) (sym source_is));
    }

pub undo_stands : (first text : List ℕ) (h : Versions) (parent : ℕ) → IsHistory h
    → parent_of h h.current ≡ Some parent → StandsAt first h text
    → StandsAt first (back_at h (Some parent)) (run (ops (version_at h h.current).inverse) text)
undo_stands first text h parent kept up stands =
    record {
      steps = stands.steps;
      text_is = ap (run (ops (version_at h h.current).inverse)) stands.text_is
          ∙ inverse_leads_back first text h h.current kept kept.within stands
          ∙ ap (source first (texts_of first [] h.versions)) up;
    }

pub redo_stands : (first text : List ℕ) (h : Versions) (child : ℕ) → IsHistory h
    → redo_of h h.current ≡ Some child → StandsAt first h text
    → StandsAt first (standing_at h (Some child)) (run (ops (version_at h child).change) text)
redo_stands first text h child kept down stands =
    let is_child = kept.children h.current child kept.within down in
    record {
      steps = stands.steps;
      text_is = ap (run (ops (version_at h child).change))
          (stands.text_is ∙ ap (source first (texts_of first [] h.versions)) (sym is_child.1))
          ∙ sym (text_at_is first h child kept is_child.0);
    }
