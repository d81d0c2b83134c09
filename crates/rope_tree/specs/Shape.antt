-- The model and the invariant of a node.
use Rattle.std.specs.Prelude.{[]}
use Rattle.rope_leaf.specs.LeafTree.{IsLeafNode}
use Rattle.rope_leaf.specs.Tree.{Tree, AreChildren, leaf_tree, tree_over, height_of, breaks_of}
use Rattle.rope_tree.specs.declared.node.Node.TheInside.{Inside}
use Rattle.rope_tree.specs.declared.node.Form.{Form}
use Rattle.rope_tree.specs.declared.node.Form.TheVariants.{Empty, Leaf, Inner}

abbrev pub form_tree : Form → Tree
form_tree (Empty b) = leaf_tree b []
form_tree (Leaf rc) = rc.value
form_tree (Inner rc) = tree_over rc.value

abbrev pub tree_of : Inside → Tree
tree_of a = form_tree a.form

-- a leaf form points to a leaf, and an inner form to the children of a node
abbrev pub IsForm : Form → Type 0
IsForm (Empty b) = Unit {0}
IsForm (Leaf rc) = IsLeafNode rc.value
IsForm (Inner rc) = AreChildren (breaks_of rc.value) (height_of rc.value) rc.value

pub record IsNode (a : Inside) : Type 0 where
  pub form : IsForm a.form
