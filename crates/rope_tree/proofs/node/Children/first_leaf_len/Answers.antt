use Rattle.std.proofs.Common.{◌≤◌, length, subst, ap, ◌∙◌, arith}
use Rattle.std.specs.List.{All}
use Rattle.rope_leaf.specs.Tree.{breaks_of, IsChild}
use Rattle.rope_leaf.specs.Totals.{HasTotals}
use Rattle.rope_tree.proofs.LeafSplits.{first_near}
use Rattle.rope_tree.proofs.node.Children.first_leaf_len.Goals as goal

pub returns : goal.returns
returns c = λ n long.
    let ts = c.args.self.now in
    let t : HasTotals (breaks_of ts) c.self.inside.totals ts =
    rw c.self.view_is at c.self.invariant.totals_right in
    let some : 1 ≤ length ts = omega (arith, c.len.ensures, t.as_many, c.if-len-eq0.false) in
    first_near (breaks_of ts) ts n c.get.result.bytes some
    (subst (λ h. All (IsChild (breaks_of ts) h) ts) c.requires.leaves c.requires.level.each)
    (ap (λ i. i.bytes) (c.get.ensures c.get.result ∙ t.total_at 0 c.get.result some))
    c.requires.level.leaves.dense long
