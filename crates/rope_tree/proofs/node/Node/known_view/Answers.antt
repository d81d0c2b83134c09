use Rattle.std.proofs.Common.{◌≡◌, [], sym, ap, ◌∙◌, arith, refl}
use Rattle.std.proofs.lemmas.Str.{chars-nil}
use Rattle.rope_leaf.specs.Tree.{leaf_tree}
use Rattle.rope_tree.specs.Shape.{form_tree}
use Rattle.rope_tree.proofs.node.Node.known_view.Goals as goal

pub returns-in-Empty : goal.returns-in-Empty
returns-in-Empty c =
    let none : c.new.result ≡ [] = c.new.ensures.value ∙ chars-nil in
    let is : c.args.self.now ≡ leaf_tree c.in-Empty.field-0 [] = sym c.self.view_is
    ∙ ap form_tree c.in-Empty.is in
    rw (none, is) (record { is = refl; fits = omega arith; scalars = refl })
