-- Histories after each move.
use Rattle.std.proofs.Common.{◌≡◌, ℕ, zero, suc, ◌+◌, ◌<◌, ◌≤◌, List, [], ◌∷◌, ◌++◌, length, get_or, take, ap, sym, ◌∙◌, subst, refl, arith, length-append, inl, inr}
use Rattle.std.specs.Prelude.{Option, Some, None}
use Rattle.std.proofs.Math.ListN.{get_or-append}
use Rattle.std.proofs.Math.Seq.{get_or-append_seam}
use Rattle.std.proofs.lemmas.Bool.{cases_lt, cases_eq}
use Rattle.std.proofs.lemmas.Grind.{get_or-set_at}
use Rattle.std.proofs.lemmas.List.{get_or-set_other, length-set}
use Rattle.rope_changes.specs.Change.{Change, before, after}
use Rattle.rope_changes.proofs.Prefixes.{keeping_before, keeping_after}
use Rattle.rope_history.specs.declared.history.Version.{Version}
use Rattle.rope_history.specs.Versions.{Versions, IsHistory, root, version_at, parent_of, redo_of, len_of, first_version, with_child, back_at, standing_at, ascended, IsAscent, IsPath}

abbrev parent : Version → Option ℕ
parent v = v.parent

abbrev BeginsAtEnd : Version → Type 0
BeginsAtEnd v = before v.inverse ≡ after v.change

abbrev EndsAtStart : Version → Type 0
EndsAtStart v = after v.inverse ≡ before v.change

pub first_is_history : (len : ℕ) → IsHistory (first_version len)
first_is_history len =
    let both : before (root len).change ≡ after (root len).change =
    keeping_before len [] ∙ sym (keeping_after len []) in
    record {
      within = omega arith;
      marked = omega arith;
      earlier = λ v p lt is. absurd (none v p lt is);
      follows = λ v p lt is. absurd (none v p lt is);
      inverses = λ v lt.
          let e : v ≡ 0 = omega arith in
          subst (λ k. BeginsAtEnd (version_at (first_version len) k)) (sym e) both;
      rooted = λ v lt is. omega arith;
      leads_back = λ v lt.
          let e : v ≡ 0 = omega arith in
          subst (λ k. EndsAtStart (version_at (first_version len) k)) (sym e) (sym both);
      children = λ v c lt is. absurd (unmarked v c lt is);
    }
  where
    none : (v p : ℕ) → v < 1 → parent_of (first_version len) v ≡ Some p → ⊥
    none v p lt is =
        let e : v ≡ 0 = omega arith in
        let root_is : parent_of (first_version len) v ≡ None =
        ap (parent_of (first_version len)) e in
        cc

    unmarked : (v c : ℕ) → v < 1 → redo_of (first_version len) v ≡ Some c → ⊥
    unmarked v c lt is =
        let e : v ≡ 0 = omega arith in
        let root_is : redo_of (first_version len) v ≡ None =
        ap (redo_of (first_version len)) e in
        cc

-- a history with a child of its current version
module _ (h : Versions) (change inverse : Change) where
  abbrev new : Versions
  new = with_child h change inverse

  abbrev added : Version
  added = record { parent = Some h.current; change = change; inverse = inverse }

  len_with_child : length new.versions ≡ length h.versions + 1
  len_with_child = omega (arith, length-append h.versions (added ∷ []))

  version_kept : (v : ℕ) → v < length h.versions → version_at new v ≡ version_at h v
  version_kept v lt = get_or-append h.versions _ (root 0) v lt

  version_added : (v : ℕ) → length h.versions ≤ v → v < length new.versions
      → version_at new v ≡ added
  version_added v last lt =
      let e : v ≡ length h.versions = omega (arith, len_with_child) in
      ap (version_at new) e ∙ get_or-append_seam h.versions _ [] (root 0)

  redo_kept : IsHistory h → (v : ℕ) → v < length h.versions → redo_of new v ≡ redo_of h v
  redo_kept kept v lt = get_or-append h.redo _ None v (omega (arith, kept.marked))

  redo_added : IsHistory h → (v : ℕ) → length h.versions ≤ v → v < length new.versions
      → redo_of new v ≡ None
  redo_added kept v last lt =
      let e : v ≡ length h.redo = omega (arith, len_with_child, kept.marked) in
      ap (redo_of new) e ∙ get_or-append_seam h.redo _ [] None

  -- a parent's number is below the one of its child
  child_earlier : IsHistory h → (v p : ℕ) → v < length new.versions
      → parent_of new v ≡ Some p → p < v
  child_earlier kept v p lt is =
      elim (cases_lt v (length h.versions)) [
        | inl less ↦ kept.earlier v p less (ap parent (sym (version_kept v less)) ∙ is)
        | inr last ↦
            let e : Some h.current ≡ Some p = ap parent (sym (version_added v last lt)) ∙ is in
            let same : h.current ≡ p = cc in
            omega (arith, kept.within)
      ]

  child_follows : IsHistory h → before change ≡ len_of h → (v p : ℕ)
      → v < length new.versions
      → parent_of new v ≡ Some p
      → before (version_at new v).change ≡ after (version_at new p).change
  child_follows kept fits v p lt is =
      elim (cases_lt v (length h.versions)) [
        | inl less ↦
            let was : parent_of h v ≡ Some p = ap parent (sym (version_kept v less)) ∙ is in
            let earlier = kept.earlier v p less was in
            ap (λ (x : Version). before x.change) (version_kept v less) ∙ kept.follows v p less was
            ∙ ap (λ (x : Version). after x.change) (sym (version_kept p (omega arith)))
        | inr last ↦
            let e : Some h.current ≡ Some p = ap parent (sym (version_added v last lt)) ∙ is in
            let same : h.current ≡ p = cc in
            ap (λ (x : Version). before x.change) (version_added v last lt) ∙ fits
            ∙ ap (λ (x : Version). after x.change) (sym (version_kept h.current kept.within))
            ∙ ap (λ k. after (version_at new k).change) same
      ]

  child_inverses : IsHistory h → before inverse ≡ after change → (v : ℕ)
      → v < length new.versions
      → before (version_at new v).inverse ≡ after (version_at new v).change
  child_inverses kept back v lt =
      elim (cases_lt v (length h.versions)) [
        | inl less ↦ subst BeginsAtEnd (sym (version_kept v less)) (kept.inverses v less)
        | inr last ↦ subst BeginsAtEnd (sym (version_added v last lt)) back
      ]

  child_leads_back : IsHistory h → after inverse ≡ before change → (v : ℕ)
      → v < length new.versions
      → after (version_at new v).inverse ≡ before (version_at new v).change
  child_leads_back kept back v lt =
      elim (cases_lt v (length h.versions)) [
        | inl less ↦ subst EndsAtStart (sym (version_kept v less)) (kept.leads_back v less)
        | inr last ↦ subst EndsAtStart (sym (version_added v last lt)) back
      ]

  child_rooted : IsHistory h → (v : ℕ) → v < length new.versions → parent_of new v ≡ None → v ≡ 0
  child_rooted kept v lt is =
      elim (cases_lt v (length h.versions)) [
        | inl less ↦ kept.rooted v less (ap parent (sym (version_kept v less)) ∙ is)
        | inr last ↦
            let e : Some h.current ≡ None = ap parent (sym (version_added v last lt)) ∙ is in
            absurd cc
      ]

  child_children : IsHistory h → (v c : ℕ) → v < length new.versions
      → redo_of new v ≡ Some c
      → (c < length new.versions) × (parent_of new c ≡ Some v)
  child_children kept v c lt is =
      elim (cases_lt v (length h.versions)) [
        | inl less ↦
            let was = kept.children v c less (sym (redo_kept kept v less) ∙ is) in (
              omega (arith, was.0, len_with_child),
              ap parent (version_kept c was.0) ∙ was.1,
            )
        | inr last ↦
            let none = redo_added kept v last lt in
            absurd (let e : None ≡ Some c = sym none ∙ is in cc)
      ]

  pub child_is_history : IsHistory h → before change ≡ len_of h → before inverse ≡ after change
      → after inverse ≡ before change → IsHistory new
  child_is_history kept fits back ends =
      record {
        within = omega (arith, len_with_child);
        marked = omega (arith, len_with_child, length-append h.redo (None ∷ []), kept.marked);
        earlier = child_earlier kept;
        follows = child_follows kept fits;
        inverses = child_inverses kept back;
        rooted = child_rooted kept;
        leads_back = child_leads_back kept ends;
        children = child_children kept;
      }

-- `redo` leads from the parent to the version that was left
back_children : (h : Versions) (p : ℕ) → IsHistory h → parent_of h h.current ≡ Some p
    → (v c : ℕ) → v < length h.versions → redo_of (back_at h (Some p)) v ≡ Some c
    → (c < length h.versions) × (parent_of h c ≡ Some v)
back_children h p kept up v c lt is =
    elim (cases_eq v p) [
      | inl same ↦
          let set_is : redo_of (back_at h (Some p)) v ≡ Some h.current =
          get_or-set_at h.redo p v (Some h.current) None same (omega (arith, kept.marked)) in
          let e : Some h.current ≡ Some c = sym set_is ∙ is in
          let current_is : h.current ≡ c = cc in (
            omega (arith, kept.within),
            ap (parent_of h) (sym current_is) ∙ up ∙ ap Some (sym same),
          )
      | inr other ↦
          let kept_is = get_or-set_other h.redo p v (Some h.current) None other in
          kept.children v c lt (sym kept_is ∙ is)
    ]

pub back_is_history : (h : Versions) (p : ℕ) → IsHistory h → parent_of h h.current ≡ Some p
    → IsHistory (back_at h (Some p))
back_is_history h p kept up =
    record {
      within = omega (arith, kept.earlier h.current p kept.within up, kept.within);
      marked = length-set h.redo p (Some h.current) ∙ kept.marked;
      earlier = kept.earlier;
      follows = kept.follows;
      inverses = kept.inverses;
      rooted = kept.rooted;
      leads_back = kept.leads_back;
      children = back_children h p kept up;
    }

pub standing_is_history : (h : Versions) (v : ℕ) → IsHistory h → v < length h.versions
    → IsHistory (standing_at h (Some v))
standing_is_history h v kept lt =
    record {
      within = lt;
      marked = kept.marked;
      earlier = kept.earlier;
      follows = kept.follows;
      inverses = kept.inverses;
      rooted = kept.rooted;
      leads_back = kept.leads_back;
      children = kept.children;
    }

pub up_is_history : (h : Versions) (parents : List ℕ) → IsHistory h → IsAscent h parents
    → IsHistory (ascended h parents)
up_is_history h [] kept up = kept
up_is_history h (p ∷ parents) kept up =
    up_is_history (back_at h (Some p)) parents (back_is_history h p kept up.0) up.1

pub versions_up : (h : Versions) (parents : List ℕ) → (ascended h parents).versions ≡ h.versions
versions_up h [] = refl
versions_up h (p ∷ parents) = versions_up (back_at h (Some p)) parents

-- one parent more
pub ascended_more : (h : Versions) (parents : List ℕ) (p : ℕ)
    → ascended h (parents ++ p ∷ []) ≡ back_at (ascended h parents) (Some p)
ascended_more h [] p = refl
ascended_more h (q ∷ parents) p = ascended_more (back_at h (Some q)) parents p

pub ascent_more : (h : Versions) (parents : List ℕ) (p : ℕ) → IsAscent h parents
    → parent_of (ascended h parents) (ascended h parents).current ≡ Some p
    → IsAscent h (parents ++ p ∷ [])
ascent_more h [] p up is = (is, tt)
ascent_more h (q ∷ parents) p up is = (up.0, ascent_more (back_at h (Some q)) parents p up.1 is)

-- a path that goes up to the next parent
pub path_more : (h : Versions) (v : ℕ) (path : List ℕ) (top p : ℕ) → IsPath h v path top
    → parent_of h top ≡ Some p → IsPath h v (path ++ top ∷ []) p
path_more h v [] top p is up = (sym is, (p, (ap (parent_of h) is ∙ up, refl)))
path_more h v (x ∷ path) top p is up =
    (is.0, (is.1.0, (is.1.1.0, path_more h is.1.0 path top p is.1.1.1 up)))

-- the last version of a path is a child of the version at the top
pub path_last : (h : Versions) (v : ℕ) (path : List ℕ) (c top : ℕ)
    → IsPath h v (path ++ c ∷ []) top
    → IsPath h v path c × (parent_of h c ≡ Some top)
path_last h v [] c top is =
    (sym is.0, ap (parent_of h) is.0 ∙ is.1.1.0 ∙ ap Some is.1.1.1)
path_last h v (x ∷ path) c top is =
    let rest = path_last h is.1.0 path c top is.1.1.1 in
    ((is.0, (is.1.0, (is.1.1.0, rest.0))), rest.1)

pub ascent_take : (h : Versions) (parents : List ℕ) (n : ℕ) → IsAscent h parents
    → IsAscent h (take n parents)
ascent_take h [] zero up = tt
ascent_take h [] (suc n) up = tt
ascent_take h (p ∷ parents) zero up = tt
ascent_take h (p ∷ parents) (suc n) up = (up.0, ascent_take (back_at h (Some p)) parents n up.1)

-- each parent of an ascent is the one of the version before
pub ascent_at : (h : Versions) (parents : List ℕ) (i : ℕ) → i < length parents → IsAscent h parents
    → parent_of (ascended h (take i parents)) (ascended h (take i parents)).current
    ≡ Some (get_or parents i 0)
ascent_at h [] i lt up = absurd (omega arith)
ascent_at h (p ∷ parents) zero lt up = up.0
ascent_at h (p ∷ parents) (suc i) lt up =
    ascent_at (back_at h (Some p)) parents i (omega arith) up.1

-- the version at the top of a path is one of the history
pub path_within : (h : Versions) (v : ℕ) (path : List ℕ) (top : ℕ) → IsHistory h
    → v < length h.versions → IsPath h v path top → top < length h.versions
path_within h v [] top kept lt is = subst (λ k. k < length h.versions) is lt
path_within h v (x ∷ path) top kept lt is =
    let less = kept.earlier v is.1.0 lt is.1.1.0 in
    path_within h is.1.0 path top kept (omega (arith, less)) is.1.1.1

pub path_none : (h : Versions) (v : ℕ) (path : List ℕ) (top : ℕ) → length path ≡ 0
    → IsPath h v path top → v ≡ top
path_none h v [] top none is = is
path_none h v (x ∷ path) top none is = absurd (omega arith)
