use Rattle.std.proofs.Common.{◌≡◌, List, take, drop, sym, ap, subst, ◌∙◌}
use Rattle.rope_leaf.specs.Tree.{Tree, joined, breaks_of}
use Rattle.rope_tree.specs.Split.{IsWhole}
use Rattle.rope_tree.proofs.MoveLaws.{level_of}
use Rattle.rope_tree.proofs.SplitLaws.{whole_breaks, whole_tree}
use Rattle.rope_tree.proofs.node.Node.split_in_place.Goals.{In-Ok-true}
use Rattle.rope_tree.proofs.node.Node.split_in_place.Goals as goal

-- the two lists
module _ (c : In-Ok-true) where
  abbrev ts : List Tree
  ts = c.in-Ok.list.value

  front : IsWhole (breaks_of ts) (take c.args.at (joined ts)) c.split_root-did.new.self
  front =
      subst (λ l. IsWhole (breaks_of l) (take c.args.at (joined l)) c.split_root-did.new.self)
      c.as_mut-2.ensures.value (c.in-Ok-true.ensures.front c.in-Ok-true.field-0-test)

  back : IsWhole (breaks_of ts) (drop c.args.at (joined ts)) c.split_root-did.new.rest
  back =
      subst (λ l. IsWhole (breaks_of l) (drop c.args.at (joined l)) c.split_root-did.new.rest)
      c.as_mut-2.ensures.value (c.in-Ok-true.ensures.back c.in-Ok-true.field-0-test)

  same_set : breaks_of ts ≡ c.args.self.now.breaks
  same_set =
      ap (λ t. t.breaks)
      (sym c.in-Ok.ensures.node ∙ c.take.ensures.value ∙ c.pad_path.ensures.same)

pub gathered-requires-clause-level : goal.gathered-requires-clause-level
gathered-requires-clause-level c =
    level_of _ _ c.split_root-did.new.self
    (front (goal.at.gathered-requires-clause-level c).In-Ok-true).level

pub gathered-requires-in-Ok-true-clause-level : goal.gathered-requires-in-Ok-true-clause-level
gathered-requires-in-Ok-true-clause-level c =
    level_of _ _ c.split_root-did.new.rest
    (back (goal.at.gathered-requires-in-Ok-true-clause-level c).In-Ok-true).level

pub returns-in-Ok-true-clause-breaks : goal.returns-in-Ok-true-clause-breaks
returns-in-Ok-true-clause-breaks c =
    let k = (goal.at.returns-in-Ok-true-clause-breaks c).In-Ok-true in
    ap (λ t. t.breaks) c.gathered.ensures ∙ whole_breaks _ _ _ (front k) ∙ same_set k

pub returns-in-Ok-true-clause-back_breaks : goal.returns-in-Ok-true-clause-back_breaks
returns-in-Ok-true-clause-back_breaks c =
    let k = (goal.at.returns-in-Ok-true-clause-back_breaks c).In-Ok-true in
    ap (λ t. t.breaks) c.gathered-in-Ok-true.ensures ∙ whole_breaks _ _ _ (back k) ∙ same_set k

pub returns-in-Ok-true-clause-tree : goal.returns-in-Ok-true-clause-tree
returns-in-Ok-true-clause-tree c =
    rw c.gathered.ensures
    (whole_tree _ _ _ (front (goal.at.returns-in-Ok-true-clause-tree c).In-Ok-true))

pub returns-in-Ok-true-clause-back_tree : goal.returns-in-Ok-true-clause-back_tree
returns-in-Ok-true-clause-back_tree c =
    rw c.gathered-in-Ok-true.ensures
    (whole_tree _ _ _ (back (goal.at.returns-in-Ok-true-clause-back_tree c).In-Ok-true))
