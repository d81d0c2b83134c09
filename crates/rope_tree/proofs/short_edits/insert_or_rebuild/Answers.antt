-- A try in place that does not apply leaves the tree unchanged.
use Rattle.std.proofs.Common.{◌≡◌, ◌<◌, ◌^◌, ap, ◌∙◌, arith}
use Rattle.rope_text.specs.Text.{byte_len}
use Rattle.rope_text.specs.Edit.{inserted}
use Rattle.rope_leaf.specs.Tree.{text}
use Rattle.rope_tree.proofs.InsertRoots.{root_children, root_text, root_breaks, root_tree}
use Rattle.rope_leaf.proofs.InsertTrees.{byte_len-inserted}
use Rattle.rope_tree.proofs.short_edits.insert_or_rebuild.Goals.{In_ok-nodes}
use Rattle.rope_tree.proofs.short_edits.insert_or_rebuild.Goals as goal

kept : (c : In_ok-nodes) → c.insert_splitting.new.self ≡ c.args.root.now
kept c = c.in_ok-insert_splitting.ensures.tried.kept c.if-branch.false

fits : (c : In_ok-nodes)
    → byte_len (inserted (text c.insert_splitting.new.self) c.args.at c.args.added.now) < 2 ^ 63
fits c = omega (
  arith,
  byte_len-inserted (text c.insert_splitting.new.self) c.args.at
      c.args.added.now,
  c.requires.takes.fits,
  ap (λ t. byte_len (text t)) (kept c),
)

pub root_of-requires : goal.root_of-requires
root_of-requires c =
    root_children _ _ _ c.in_ok-nodes.ensures.ok (fits (goal.at.root_of-requires c).In_ok-nodes)

pub returns-clause-text : goal.returns-clause-text
returns-clause-text c =
    root_text _ _ _ c.in_ok-nodes.ensures.ok _ c.in_ok-root.ensures.ok
    ∙ ap (λ t. inserted (text t) c.args.at c.args.added.now)
    (kept (goal.at.returns-clause-text c).In_ok-nodes)

pub returns-clause-breaks : goal.returns-clause-breaks
returns-clause-breaks c = root_breaks _ _ _ c.in_ok-nodes.ensures.ok _ c.in_ok-root.ensures.ok
    ∙ ap (λ t. t.breaks) (kept (goal.at.returns-clause-breaks c).In_ok-nodes)

pub returns-clause-tree : goal.returns-clause-tree
returns-clause-tree c =
    root_tree _ _ _ c.in_ok-nodes.ensures.ok (fits (goal.at.returns-clause-tree c).In_ok-nodes) _
    c.in_ok-root.ensures.ok
