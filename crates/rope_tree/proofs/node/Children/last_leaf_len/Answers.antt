use Rattle.std.proofs.Common.{◌≡◌, ◌-◌, length, take, subst, ap, ◌∙◌, arith}
use Rattle.std.specs.List.{All}
use Rattle.std.proofs.lemmas.List.{take_all}
use Rattle.rope_text.specs.Text.{byte_len}
use Rattle.rope_leaf.specs.Tree.{joined, breaks_of, IsChild}
use Rattle.rope_leaf.specs.Totals.{HasTotals}
use Rattle.rope_leaf.proofs.Descents.{front_is}
use Rattle.rope_leaf.proofs.NodeLaws.{byte_len-joined}
use Rattle.rope_tree.proofs.LeafSplits.{last_size}
use Rattle.rope_tree.proofs.node.Children.last_leaf_len.Goals.{After-total_before-2}
use Rattle.rope_tree.proofs.node.Children.last_leaf_len.Goals as goal

module _ (c : After-total_before-2) where
  totals : HasTotals (breaks_of c.args.self.now) c.self.inside.totals c.args.self.now
  totals = rw c.self.view_is at c.self.invariant.totals_right

  many : c.len-len.result ≡ length c.args.self.now
  many = omega (arith, c.len-len.ensures, totals.as_many)

  all_is : c.total_before.result.bytes ≡ byte_len (joined c.args.self.now)
  all_is =
      ap (λ i. i.bytes)
      (front_is _ _ _ _ c.total_before.result totals (omega (arith, c.len-len.ensures))
      c.total_before.ensures.first c.total_before.ensures.later)
      ∙ ap (λ l. byte_len (joined l)) (take_all c.len-len.result _ (omega (arith, many)))

  before_is : c.total_before-2.result.bytes
      ≡ byte_len (joined (take (c.len-len.result - 1) c.args.self.now))
  before_is =
      ap (λ i. i.bytes)
      (front_is _ _ _ _ c.total_before-2.result totals (omega (arith, c.len-len.ensures))
      c.total_before-2.ensures.first c.total_before-2.ensures.later)

pub overflow_sub-result : goal.overflow_sub-result
overflow_sub-result c =
    let k = (goal.at.overflow_sub-result c).After-total_before-2 in
    omega (
      arith,
      all_is k,
      before_is k,
      byte_len-joined c.args.self.now (c.len-len.result - 1),
    )

pub returns : goal.returns
returns c =
    let k = (goal.at.returns c).After-total_before-2 in
    last_size (breaks_of c.args.self.now) c.args.self.now (c.len-len.result - 1) _
    (omega (arith, many k, c.if-len-eq0.false))
    (subst (λ h. All (IsChild (breaks_of c.args.self.now) h) c.args.self.now) c.requires.leaves
    c.requires.level.each)
    (omega (
      arith,
      all_is k,
      before_is k,
      byte_len-joined c.args.self.now (c.len-len.result - 1),
    ))
