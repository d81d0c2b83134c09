use Rattle.std.proofs.Common.{◌≡◌, ◌≤◌, ◌++◌, false, sym, ap, ap₂, ◌∙◌, arith}
use Rattle.rope_leaf.specs.Tree.{text, IsTree}
use Rattle.rope_join.specs.Join.{CanJoin}
use Rattle.rope_join.proofs.Seams.{join_text}
use Rattle.rope_join.proofs.long_edits.append_near.Goals.{Joined-height, then-height+in_ok-did, else-height}
use Rattle.rope_join.proofs.long_edits.append_near.Goals as goal

-- the trees, where no nodes were moved
same : (c : Joined-height) → c.if-height.did ≡ false
    → (c.if-height.root ≡ c.args.root.now) × (c.if-height.other ≡ c.args.other.now)
    × (c.if-height.maker.made ≤ c.args.maker.now.made)
same c e = elim c.if-height.branch [
  | then-height+in_ok-did w ↦
      let undone = sym w.did-is ∙ e in
      let k = w.in_ok-did.ensures.kept undone in
      let idle = w.in_ok-did.ensures.idle undone in
      (w.root-is ∙ k.0, w.other-is ∙ k.1, omega (arith, idle, ap (λ m. m.made) w.maker-is))
  | else-height w ↦
      let undone = sym w.did-is ∙ e in (
        w.root-is ∙ w.append_uneven-did.ensures.kept undone,
        w.other-is ∙ w.append_uneven-did.ensures.kept_other undone,
        omega (arith, ap (λ m. m.made) w.maker-is),
      )
]

trees : (c : Joined-height) → IsTree c.if-height.root × IsTree c.if-height.other
trees c = elim c.if-height.branch [
  | then-height+in_ok-did w ↦
      rw (w.root-is, w.other-is) (w.in_ok-did.ensures.tree, w.in_ok-did.ensures.other_tree)
  | else-height w ↦
      rw (w.root-is, w.other-is)
      (w.append_uneven-did.ensures.tree, w.append_uneven-did.ensures.other_tree)
]

pub returns-in_ok-root-clause-text : goal.returns-in_ok-root-clause-text
returns-in_ok-root-clause-text c =
    let s = same (goal.at.returns-in_ok-root-clause-text c).Joined-height c.if-not-did.true in
    join_text _ _ _ c.in_ok-root.ensures.join ∙ ap₂ (λ x y. text x ++ text y) s.0 s.1

pub join-requires : goal.join-requires
join-requires c =
    let s = same (goal.at.join-requires c).Joined-height c.if-not-did.true in
    let can : CanJoin c.args.root.now c.args.other.now = record {
      same_breaks = c.requires.same_breaks;
      seam = c.requires.seam;
      fits = c.requires.fits;
    } in
    rw (s.0, s.1) can

pub returns-in_err-root-clause-tree : goal.returns-in_err-root-clause-tree
returns-in_err-root-clause-tree c =
    (trees (goal.at.returns-in_err-root-clause-tree c).Joined-height).0

pub returns-in_err-root-clause-other_tree : goal.returns-in_err-root-clause-other_tree
returns-in_err-root-clause-other_tree c =
    (trees (goal.at.returns-in_err-root-clause-other_tree c).Joined-height).1

pub returns-in_ok-root-clause-other_tree : goal.returns-in_ok-root-clause-other_tree
returns-in_ok-root-clause-other_tree c =
    (trees (goal.at.returns-in_ok-root-clause-other_tree c).Joined-height).1

pub returns-else-not-did-clause-tree : goal.returns-else-not-did-clause-tree
returns-else-not-did-clause-tree c =
    (trees (goal.at.returns-else-not-did-clause-tree c).Joined-height).0

pub returns-else-not-did-clause-other_tree : goal.returns-else-not-did-clause-other_tree
returns-else-not-did-clause-other_tree c =
    (trees (goal.at.returns-else-not-did-clause-other_tree c).Joined-height).1

pub returns-in_err-root-clause-made : goal.returns-in_err-root-clause-made
returns-in_err-root-clause-made c =
    let s = same (goal.at.returns-in_err-root-clause-made c).Joined-height c.if-not-did.true in
    omega (arith, c.join.ensures.made, ap (λ t. t.height) s.0, ap (λ t. t.height) s.1, s.2)

pub returns-in_ok-root-clause-made : goal.returns-in_ok-root-clause-made
returns-in_ok-root-clause-made c =
    let s = same (goal.at.returns-in_ok-root-clause-made c).Joined-height c.if-not-did.true in
    omega (arith, c.in_ok-root.ensures.made, ap (λ t. t.height) s.0, ap (λ t. t.height) s.1, s.2)
