use Rattle.std.proofs.Common.{sym, ap, subst, ◌∙◌, inl, inr}
use Rattle.rope_tree.specs.Shape.{form_tree, IsForm}
use Rattle.rope_tree.proofs.FormLaws.{node_tree, node_low}
use Rattle.rope_tree.proofs.node.Node.height.Goals as goal

pub returns-in-Empty-2-clause-value : goal.returns-in-Empty-2-clause-value
returns-in-Empty-2-clause-value c = elim c.in-Empty.is [
  | inl e ↦ sym (ap (λ t. t.height) (sym c.self.view_is ∙ ap form_tree e.1))
  | inr e ↦ sym (ap (λ t. t.height) (sym c.self.view_is ∙ ap form_tree e.1)
      ∙ (subst IsForm e.1 c.self.invariant.form).flat)
]

pub returns-in-Empty-2-clause-low : goal.returns-in-Empty-2-clause-low
returns-in-Empty-2-clause-low c =
    node_low c.self.inside c.args.self.now c.self.invariant c.self.view_is

pub returns-in-Inner-clause-tree : goal.returns-in-Inner-clause-tree
returns-in-Inner-clause-tree c =
    node_tree c.self.inside c.args.self.now c.self.invariant c.self.view_is

pub returns-in-Inner-clause-low : goal.returns-in-Inner-clause-low
returns-in-Inner-clause-low c =
    node_low c.self.inside c.args.self.now c.self.invariant c.self.view_is
