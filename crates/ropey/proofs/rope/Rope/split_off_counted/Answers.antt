-- Both trees are ropes.
use Rattle.std.proofs.Common.{rules}
use Rattle.ropey.proofs.Ropes.{rope_of}
use Rattle.ropey.proofs.rope.Rope.split_off_counted.Goals as goal

pub returns-in_err-back-clause-kept : goal.returns-in_err-back-clause-kept
returns-in_err-back-clause-kept c =
    (search rules, search rules, rope_of c.split_off-back.new.root c.split_off-back.ensures.tree)

pub returns-clause-kept : goal.returns-clause-kept
returns-clause-kept c =
    (search rules, search rules, rope_of c.split_off-back.new.root c.split_off-back.ensures.tree)

pub returns-clause-ok : goal.returns-clause-ok
returns-clause-ok c = (
  search rules,
  search rules,
  search rules,
  rope_of c.in_ok-back.field-0 c.in_ok-back.ensures.back_tree,
)
