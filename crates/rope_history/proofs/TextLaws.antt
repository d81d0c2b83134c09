-- The texts of versions that are added, and those of versions by their numbers.
use Rattle.std.proofs.Common.{◌≡◌, ℕ, zero, suc, ◌+◌, ◌<◌, List, [], ◌∷◌, ◌++◌, length, get_or, refl, ap, sym, ◌∙◌, subst, arith, length-append}
use Rattle.std.specs.Prelude.{Option, Some, None}
use Rattle.std.proofs.Math.ListN.{get_or-append}
use Rattle.std.proofs.Math.Seq.{get_or-append_seam}
use Rattle.rope_changes.specs.Ops.{run}
use Rattle.rope_changes.specs.Change.{ops}
use Rattle.rope_history.specs.declared.history.Version.{Version}
use Rattle.rope_history.specs.Versions.{root}
use Rattle.rope_history.specs.Texts.{source, text_of, texts_of, IsStep, AreSteps}

-- each version was made of one whose text stands before its own
abbrev pub AreEarlier : List (List ℕ) → List Version → Type 0
AreEarlier texts versions = (i p : ℕ) → i < length versions
    → (get_or versions i (root 0)).parent ≡ Some p → p < length texts + i

pub length_texts : (first : List ℕ) (texts : List (List ℕ)) (versions : List Version)
    → length (texts_of first texts versions) ≡ length texts + length versions
length_texts first texts [] = omega arith
length_texts first texts (v ∷ versions) =
    omega (
      arith,
      length_texts first (texts ++ text_of first texts v ∷ []) versions,
      length-append texts (text_of first texts v ∷ []),
    )

-- texts that are there stay
pub texts_keep : (first : List ℕ) (texts : List (List ℕ)) (versions : List Version) (k : ℕ)
    → k < length texts → get_or (texts_of first texts versions) k first ≡ get_or texts k first
texts_keep first texts [] k lt = refl
texts_keep first texts (v ∷ versions) k lt =
    let next = text_of first texts v ∷ [] in
    texts_keep first (texts ++ next) versions k (omega (arith, length-append texts next))
    ∙ get_or-append texts next first k lt

source_keeps : (first : List ℕ) (texts : List (List ℕ)) (versions : List Version)
    (parent : Option ℕ) → ((p : ℕ) → parent ≡ Some p → p < length texts)
    → source first (texts_of first texts versions) parent ≡ source first texts parent
source_keeps first texts versions None lt = refl
source_keeps first texts versions (Some p) lt = texts_keep first texts versions p (lt p refl)

-- the text of a version that is added comes last
pub texts_push : (first : List ℕ) (texts : List (List ℕ)) (versions : List Version) (v : Version)
    → texts_of first texts (versions ++ v ∷ [])
    ≡ texts_of first texts versions ++ text_of first (texts_of first texts versions) v ∷ []
texts_push first texts [] v = refl
texts_push first texts (w ∷ versions) v =
    texts_push first (texts ++ text_of first texts w ∷ []) versions v

pub steps_push : (first : List ℕ) (texts : List (List ℕ)) (versions : List Version) (v : Version)
    → AreSteps first texts versions
    → IsStep (source first (texts_of first texts versions) v.parent) v
    → AreSteps first texts (versions ++ v ∷ [])
steps_push first texts [] v steps here = (here, tt)
steps_push first texts (w ∷ versions) v steps here =
    (steps.0, steps_push first (texts ++ text_of first texts w ∷ []) versions v steps.1 here)

-- the first version was made of an earlier one
earlier_head : (texts : List (List ℕ)) (v : Version) (versions : List Version)
    → AreEarlier texts (v ∷ versions) → (p : ℕ) → v.parent ≡ Some p → p < length texts
earlier_head texts v versions earlier p is = omega (arith, earlier 0 p (omega arith) is)

earlier_tail : (first : List ℕ) (texts : List (List ℕ)) (v : Version) (versions : List Version)
    → AreEarlier texts (v ∷ versions) → AreEarlier (texts ++ text_of first texts v ∷ []) versions
earlier_tail first texts v versions earlier i p lt is =
    omega (
      arith,
      earlier (suc i) p (omega arith) is,
      length-append texts (text_of first texts v ∷ []),
    )

-- the text of a version is the one that it was made of with its change run on it
pub text_is : (first : List ℕ) (texts : List (List ℕ)) (versions : List Version) (i : ℕ)
    → AreEarlier texts versions → i < length versions
    → get_or (texts_of first texts versions) (length texts + i) first
    ≡ run (ops (get_or versions i (root 0)).change)
    (source first (texts_of first texts versions) (get_or versions i (root 0)).parent)
text_is first texts [] i earlier lt = absurd (omega arith)
text_is first texts (v ∷ versions) zero earlier lt =
    let next = text_of first texts v ∷ [] in
    let all = texts_of first (texts ++ next) versions in
    let e : length texts + 0 ≡ length texts = omega arith in
    ap (λ k. get_or all k first) e
    ∙ texts_keep first (texts ++ next) versions (length texts)
    (omega (arith, length-append texts next))
    ∙ get_or-append_seam texts (text_of first texts v) [] first
    ∙ ap (run (ops v.change))
    (sym (source_keeps first texts (v ∷ versions) v.parent (earlier_head texts v versions earlier)))
text_is first texts (v ∷ versions) (suc i) earlier lt =
    let next = text_of first texts v ∷ [] in
    let e : length texts + suc i ≡ length (texts ++ next) + i =
    omega (arith, length-append texts next) in
    ap (λ k. get_or (texts_of first (texts ++ next) versions) k first) e
    ∙ text_is first (texts ++ next) versions i (earlier_tail first texts v versions earlier)
    (omega arith)

-- a version is a step from the text that it was made of
pub step_is : (first : List ℕ) (texts : List (List ℕ)) (versions : List Version) (i : ℕ)
    → AreEarlier texts versions → i < length versions → AreSteps first texts versions
    → IsStep (source first (texts_of first texts versions) (get_or versions i (root 0)).parent)
    (get_or versions i (root 0))
step_is first texts [] i earlier lt steps = absurd (omega arith)
step_is first texts (v ∷ versions) zero earlier lt steps =
    subst (λ s. IsStep s v)
    (sym (source_keeps first texts (v ∷ versions) v.parent (earlier_head texts v versions earlier)))
    steps.0
step_is first texts (v ∷ versions) (suc i) earlier lt steps =
    step_is first (texts ++ text_of first texts v ∷ []) versions i
    (earlier_tail first texts v versions earlier) (omega arith) steps.1
