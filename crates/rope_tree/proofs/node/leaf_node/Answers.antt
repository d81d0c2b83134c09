use Rattle.std.proofs.Common.{[], refl, ap, sym, ◌∙◌, arith}
use Rattle.std.proofs.lemmas.Str.{scalars-chars}
use Rattle.std.specs.Str.{chars}
use Rattle.rope_text.proofs.Walks.{byte_len-chars}
use Rattle.rope_leaf.specs.Tree.{leaf_tree, IsTree}
use Rattle.rope_tree.proofs.FormLaws.{no_text}
use Rattle.rope_leaf.proofs.GrownLaws.{leaf_is_tree}
use Rattle.rope_tree.proofs.node.leaf_node.Goals.{Start, in-Some+in_ok-leaf-in-Some, in-None+in_ok-leaf-in-None}
use Rattle.rope_tree.proofs.node.leaf_node.Goals as goal

-- a leaf with this text is a tree
leaf : (c : Start) → IsTree (leaf_tree c.args.breaks (chars c.args.text.now))
leaf c =
    leaf_is_tree c.args.breaks [] (chars c.args.text.now)
    (omega (arith, byte_len-chars c.args.text.now c.utf8.text, c.requires.fits))
    (scalars-chars c.args.text.now c.utf8.text)

pub returns-then-text-eq0-clause-ok : goal.returns-then-text-eq0-clause-ok
returns-then-text-eq0-clause-ok c = c.empty.ensures.value
    ∙ ap (leaf_tree c.args.breaks)
    (sym (no_text (chars c.args.text.now)
    (omega (arith, byte_len-chars c.args.text.now c.utf8.text, c.if-text-eq0.true))))

pub of_leaf-requires : goal.of_leaf-requires
of_leaf-requires c =
    let tree = leaf (goal.at.of_leaf-requires c).Start in
    elim c.match-known.branch [
      | in-Some+in_ok-leaf-in-Some w ↦
          rw (w.leaf-is, w.in_ok-leaf-in-Some.ensures) (record { flat = refl; tree = tree })
      | in-None+in_ok-leaf-in-None w ↦
          rw (w.leaf-is, w.in_ok-leaf-in-None.ensures) (record { flat = refl; tree = tree })
    ]

pub returns-clause-tree : goal.returns-clause-tree
returns-clause-tree c =
    let tree = leaf (goal.at.returns-clause-tree c).Start in
    elim c.match-known.branch [
      | in-Some+in_ok-leaf-in-Some w ↦
          rw (c.of_leaf.ensures, w.leaf-is, w.in_ok-leaf-in-Some.ensures) tree
      | in-None+in_ok-leaf-in-None w ↦
          rw (c.of_leaf.ensures, w.leaf-is, w.in_ok-leaf-in-None.ensures) tree
    ]
