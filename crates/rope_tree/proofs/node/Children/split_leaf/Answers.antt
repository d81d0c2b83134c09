use Rattle.std.proofs.Common.{refl, ◌∙◌}
use Rattle.rope_tree.proofs.node.Children.split_leaf.Goals as goal

pub returns-clause-following : goal.returns-clause-following
returns-clause-following c =
    rw (
      c.if-give_end.ensures.kept refl ∙ c.if-give_start.ensures.kept refl,
      c.if-give_end.ensures.kept_rest refl ∙ c.if-give_start.ensures.kept_rest refl,
    )
    at c.split_leaf_anew.ensures.following

pub returns-clause-ahead : goal.returns-clause-ahead
returns-clause-ahead c =
    rw (
      c.if-give_end.ensures.kept refl ∙ c.if-give_start.ensures.kept refl,
      c.if-give_end.ensures.kept_rest refl ∙ c.if-give_start.ensures.kept_rest refl,
    )
    at c.split_leaf_anew.ensures.ahead
