use Rattle.std.proofs.Common.{sym, ap, ◌∙◌}
use Rattle.rope_text.specs.Edit.{removed}
use Rattle.rope_leaf.specs.Tree.{text, joined, breaks_of, height_of}
use Rattle.rope_leaf.proofs.TreeLaws.{is_wide_over}
use Rattle.rope_tree.proofs.RemovedLaws.{without_text}
use Rattle.rope_tree.proofs.node.Node.remove_in_lists.Goals as goal

pub returns-clause-done : goal.returns-clause-done
returns-clause-done c = λ did.
    ap text c.over.ensures ∙ without_text _ _ _ _ (c.remove_lists-did.ensures.without did)
    ∙ ap (λ l. removed l c.args.start c.args.end)
    (ap joined c.as_mut.ensures.value
    ∙ sym (ap text (sym c.take.ensures.value ∙ c.in-Ok.ensures.node)))

pub returns-clause-tree : goal.returns-clause-tree
returns-clause-tree c =
    let f = c.remove_lists-did.ensures.children in
    rw c.over.ensures (is_wide_over (breaks_of c.remove_lists-did.new.self) 2
    (height_of c.remove_lists-did.new.self) c.remove_lists-did.new.self f f.at_least_two).tree
