-- Each iteration makes a node over the next group of nodes.
use Rattle.std.proofs.Common.{◌≡◌, ℕ, ◌-◌, ◌*◌, ◌/◌, ◌^◌, ◌<◌, ◌≤◌, List, [], ◌∷◌, take, length, refl, ap, sym, subst, arith}
use Rattle.std.proofs.lemmas.List.{length-drop, length-append}
use Rattle.rope_text.specs.declared.line_breaks.LineBreaks.{LineBreaks}
use Rattle.std.specs.List.{concat}
use Rattle.rope_text.specs.Text.{byte_len}
use Rattle.rope_leaf.specs.Leaves.{AreLeaves}
use Rattle.rope_leaf.specs.Tree.{Tree}
use Rattle.rope_leaf.proofs.NodeLaws.{children_of_first}
use Rattle.rope_tree.proofs.BuildLaws.{AreOver, group_children, over_more, over_same, back_of}
use Rattle.rope_tree.proofs.BuildLaws.{share_least, share_most, least_after, most_after}
use Rattle.std.proofs.Math.Nat.{div-le_self}
use Rattle.rope_tree.proofs.build.level_over.Goals as goal

-- an even share of the remaining nodes
record IsShare (left groups n : ℕ) : Type 0 where
  least : 12 ≤ n
  most : n ≤ 24
  within : n ≤ left
  least_after : 12 * (groups - 1) ≤ left - n
  most_after : left - n ≤ 24 * (groups - 1)

share : (left groups : ℕ) → 1 ≤ groups → 12 * groups ≤ left → left ≤ 24 * groups
    → IsShare left groups (left / groups)
share left groups some least most = record {
  least = share_least left groups some least;
  most = share_most left groups most;
  within = div-le_self left groups;
  least_after = least_after left groups some least;
  most_after = most_after left groups some most;
}

over_at : {breaks : LineBreaks} {h : ℕ} {whole : List Tree} {done more rest left : List Tree}
    → more ≡ done → left ≡ rest → AreOver breaks h whole done rest
    → AreOver breaks h whole more left
over_at {breaks = breaks} {h = h} {whole = whole} {more = more} {rest = rest} e f a =
    subst (AreOver breaks h whole more) (sym f)
    (subst (λ ts. AreOver breaks h whole ts rest) (sym e) a)

pub node_over-requires : goal.node_over-requires
node_over-requires c =
    let rest = c.loop-groups.rest.now in
    let n = length rest / c.loop-groups.groups in
    let g = share (length rest) c.loop-groups.groups (omega arith) c.loop-groups.invariant.least
    c.loop-groups.invariant.most in
    let a = group_children _ _ rest n c.loop-groups.invariant.over.left g.least g.most
    (omega (arith, g.within)) in
    children_of_first _ _ (take n rest) a

pub loop-groups-preserved : goal.loop-groups-preserved
loop-groups-preserved c =
    let rest = c.loop-groups.rest.now in
    let n = length rest / c.loop-groups.groups in
    let g = share (length rest) c.loop-groups.groups (omega arith) c.loop-groups.invariant.least
    c.loop-groups.invariant.most in
    let over =
    over_more _ _ _ _ rest n c.in_ok-node_over.field-0 c.loop-groups.invariant.over g.least g.most
    (omega (arith, g.within))
    c.in_ok-node_over.ensures.ok in
    let pushed = c.in_ok-push.ensures.items in
    let after = back_of rest _ n refl in
    let m = ap length after in
    let k = length-drop n rest in
    record {
      over = over_at pushed after over;
      least = omega (arith, g.least_after);
      most = omega (arith, g.most_after);
      counted =
          omega (
            arith,
            ap length c.in_ok-push.ensures.items,
            length-append c.loop-groups.level.items (c.in_ok-node_over.field-0 ∷ []),
            c.loop-groups.invariant.counted,
          );
      made = omega (
        arith,
        c.in_ok-node_over.ensures.made,
        ap length c.in_ok-push.ensures.items,
        length-append c.loop-groups.level.items (c.in_ok-node_over.field-0 ∷ []),
        c.loop-groups.invariant.made,
      );
    }

pub returns-clause-leaves : goal.returns-clause-leaves
returns-clause-leaves c =
    over_same _ _ _ _ c.loop-groups.rest.now c.loop-groups.invariant.over
    (omega (arith, c.loop-groups.invariant.most))

pub returns-clause-siblings : goal.returns-clause-siblings
returns-clause-siblings c =
    let e =
    over_same _ _ _ _ c.loop-groups.rest.now c.loop-groups.invariant.over
    (omega (arith, c.loop-groups.invariant.most)) in
    record {
      each = c.loop-groups.invariant.over.each;
      leaves = subst AreLeaves (sym e) c.requires.siblings.leaves;
      fits = subst (λ ls. byte_len (concat ls) < 2 ^ 63) (sym e) c.requires.siblings.fits;
    }
