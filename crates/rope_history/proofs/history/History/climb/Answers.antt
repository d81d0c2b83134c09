use Rattle.std.proofs.Common.{◌≡◌, ◌≢◌, ◌⊎◌, ◌<◌, ◌++◌, ◌∷◌, [], ℕ, Some, inl, inr, get_or, refl, ap, sym, ◌∙◌, subst, arith, rules}
use Rattle.std.specs.List.{All}
use Rattle.std.proofs.lemmas.List.Elements.{All-push}
use Rattle.rope_changes.specs.Ops.{run}
use Rattle.rope_changes.specs.Change.{ops}
use Rattle.rope_history.specs.Texts.{source, texts_of}
use Rattle.rope_history.specs.Versions.{Versions, IsPath, IsAscent, root, parent_of, version_at, ascended}
use Rattle.rope_history.proofs.StandsLaws.{inverse_leads_back}
use Rattle.rope_history.proofs.VersionLaws.{path_more, versions_up, ascent_more, ascended_more}
use Rattle.rope_history.proofs.history.History.climb.Goals as goal

-- a version that was left is above the other end, and so is the one that is left now
below : {down y : ℕ} (up : ℕ) → (down < y) ⊎ (y ≡ up) → down < up → down < y
below up (inl above) less = above
below up (inr is) less = omega (arith, is, less)

-- so the other end is none of them
other : {down y : ℕ} (up : ℕ) → (down < y) ⊎ (y ≡ up) → up < down → down ≢ y
other up (inl above) less = λ e. absurd (omega (arith, e, above))
other up (inr is) less = λ e. absurd (omega (arith, e, is, less))

lower : {down p y : ℕ} (up : ℕ) → p < down → (down < y) ⊎ (y ≡ up) → (p < y) ⊎ (y ≡ up)
lower up less (inl above) = inl (omega (arith, less, above))
lower up less (inr is) = inr is

pub loop-up-preserved-else-is_err : goal.loop-up-preserved-else-is_err
loop-up-preserved-else-is_err c =
    let h = c.args.self.now in
    let up = c.loop-up.up in
    let p = c.in_ok-up.up in
    let parents = c.loop-up.parents.items in
    let inv = c.loop-up.invariant in
    let parent = c.in_ok-up.ensures.parent in
    let items : c.push.new.self.items ≡ parents ++ p ∷ [] = search rules in
    let g = ascended h parents in
    let is : parent_of g g.current ≡ Some p =
    ap (λ vs. (get_or vs g.current (root 0)).parent) (versions_up h parents)
    ∙ ap (parent_of h) inv.at ∙ parent.1 in
    record {
      up = subst (IsAscent h) (sym items) (ascent_more h parents p inv.up is);
      at = ap (λ xs. (ascended h xs).current) items
          ∙ ap (λ (s : Versions). s.current) (ascended_more h parents p);
      path = inv.path;
      apart = λ k d lt.
          let x = get_or c.loop-up.path.items k d in
          let other : x ≢ p = λ e. absurd (omega (arith, e, inv.above k d lt, parent.0)) in
          subst (λ ys. All (λ y. x ≢ y) (h.current ∷ ys)) (sym items)
          (All-push (λ y. x ≢ y) (h.current ∷ parents) p (inv.apart k d lt) other);
      above = λ k d lt. omega (arith, inv.above k d lt, parent.0);
      left =
          subst (λ ys. All (λ y. (c.loop-up.down < y) ⊎ (y ≡ p)) (h.current ∷ ys)) (sym items)
          (All-push (λ y. (c.loop-up.down < y) ⊎ (y ≡ p)) (h.current ∷ parents) p
          (λ k d lt. inl (below up (inv.left k d lt) (omega arith)))
          (inr refl));
      up_within = omega (arith, parent.0, inv.up_within);
      down_within = inv.down_within;
      len = c.in_ok-up.ensures.len;
      text = λ first stands.
          c.in_ok-up.ensures.text
          ∙ ap (run (ops (version_at h up).inverse)) (inv.text first stands)
          ∙ inverse_leads_back first c.args.rope.now.text h up c.requires.history inv.up_within
          stands
          ∙ ap (source first (texts_of first [] h.versions)) parent.1;
      breaks = c.step_up.ensures.breaks ∙ inv.breaks;
      kept = c.step_up.ensures.kept;
    }

pub loop-up-preserved : goal.loop-up-preserved
loop-up-preserved c =
    let h = c.args.self.now in
    let down = c.loop-up.down in
    let p = c.in-Some.parent in
    let path = c.loop-up.path.items in
    let visited = h.current ∷ c.loop-up.parents.items in
    let inv = c.loop-up.invariant in
    let parent : parent_of h down ≡ Some p = sym c.parent.ensures ∙ c.in-Some.is in
    let less = c.requires.history.earlier down p inv.down_within parent in
    let items : c.push-else-up-down.new.self.items ≡ path ++ down ∷ [] = search rules in
    record {
      up = inv.up;
      at = inv.at;
      path = subst (λ xs. IsPath h c.args.version xs p) (sym items)
          (path_more h c.args.version path down p inv.path parent);
      apart = subst (All (λ x. All (λ y. x ≢ y) visited)) (sym items)
          (All-push (λ x. All (λ y. x ≢ y) visited) path down inv.apart
          (λ k d lt. other c.loop-up.up (inv.left k d lt) (omega arith)));
      above = subst (All (λ x. c.loop-up.up < x)) (sym items)
          (All-push (λ x. c.loop-up.up < x) path down inv.above (omega arith));
      left = λ k d lt. lower c.loop-up.up less (inv.left k d lt);
      up_within = inv.up_within;
      down_within = omega (arith, less, inv.down_within);
      len = inv.len;
      text = inv.text;
      breaks = inv.breaks;
      kept = inv.kept;
    }
