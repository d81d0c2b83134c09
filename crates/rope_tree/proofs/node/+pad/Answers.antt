use Rattle.std.proofs.Common.{◌≡◌, ℕ, ◌+◌, ◌^◌, ◌<◌, ◌≤◌, true, List, ◌++◌, get_or, take, drop, ap, refl, arith}
use Rattle.rope_text.specs.Text.{byte_len}
use Rattle.rope_text.proofs.Measures.{IsMeasure-byte_len}
use Rattle.rope_leaf.specs.Tree.{Tree, text, joined, height_of, breaks_of}
use Rattle.rope_tree.proofs.ChildLaws.{taken_at}
use Rattle.rope_leaf.proofs.InsertDescents.{Takes}
use Rattle.rope_leaf.proofs.InsertTrees.{text_around}
use Rattle.rope_tree.proofs.node.+pad.Goals.{Children::pad_path-After-index-self-place}
use Rattle.rope_tree.proofs.node.+pad.Goals as goal

-- the child on the path
module _ {t : ℕ} (c : Children::pad_path-After-index-self-place t) where
  abbrev us : List Tree
  us = c.pad_child.new.self

  abbrev k : ℕ
  k = c.branch_at-place-2.result.place

  abbrev child : Tree
  child = get_or c.self-2.inside.nodes k c.index-self-place.result

  taken : Takes us k child c.args.at c.branch_at-place-2.result.inside true
  taken =
      taken_at c.self-2.inside us k c.index-self-place.result c.args.at
      c.branch_at-place-2.result.inside true c.self-2.view_is c.pad_child.ensures.children
      c.branch_at-place-2.ensures.child c.branch_at-place-2.ensures.place
      c.branch_at-place-2.ensures.goes

  same_height : child.height ≡ height_of c.args.self.now
  same_height =
      omega (arith, taken.own.at_height, ap (λ x. x.height) c.pad_child.ensures.same)

  few : byte_len (text child) < 2 ^ 32
  few =
      let parts =
      ap byte_len (text_around (breaks_of us) (height_of us) us k child taken.children taken.within
      taken.child_is) in
      omega (
        arith,
        c.requires.few,
        ap (λ x. byte_len (text x)) c.pad_child.ensures.same,
        parts,
        IsMeasure-byte_len.joined (joined (take k us)) (text child ++ joined (drop (k + 1) us)),
        IsMeasure-byte_len.joined (text child) (joined (drop (k + 1) us)),
      )

pub Children::pad_path-pad_path-requires : goal.Children::pad_path-pad_path-requires
Children::pad_path-pad_path-requires t c =
    let k = (goal.at.Children::pad_path-pad_path-requires t c).After-index-self-place in (
      omega (arith, c.decreases, same_height k),
      (
        few k,
        (
          (taken k).goes.inside refl,
          (c.pad_child.ensures.none, c.pad_child.ensures.none_in_pocket),
        ),
      ),
    )

pub Children::pad_path-returns-clause-searched : goal.Children::pad_path-returns-clause-searched
Children::pad_path-returns-clause-searched t c =
    let k = (goal.at.Children::pad_path-returns-clause-searched t c).After-index-self-place in
    let low : 1 ≤ height_of c.args.self.now =
    omega (arith, c.if-self-eq1.false, c.self.invariant.above, ap height_of c.self.view_is) in
    let a = c.branch_at-place.ensures.searched in
    let b = c.branch_at-place-2.ensures.searched in
    let d = c.pad_path.ensures.searched in
    record {
      rise = omega (arith, a.rise, b.rise, d.rise);
      nodes = omega (arith, a.nodes, b.nodes, d.nodes, same_height k, low);
      compares = omega (arith, a.compares, b.compares, d.compares, same_height k, low);
    }
