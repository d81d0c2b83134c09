use Rattle.std.proofs.lemmas.Result.{IfOk-weaker}
use Rattle.rope_tree.proofs.SplitLaws.{whole_front, whole_back}
use Rattle.rope_tree.proofs.node.Children.split_root.Goals as goal

pub returns-then-at-get-clause-back : goal.returns-then-at-get-clause-back
returns-then-at-get-clause-back c =
    IfOk-weaker c.split_front.result _ _ (λ _ back did. whole_back c.args.at _ _
    c.requires.children (back did)) c.split_front.ensures.back

pub returns-clause-front : goal.returns-clause-front
returns-clause-front c =
    IfOk-weaker c.split_back.result _ _ (λ _ front did. whole_front c.args.at _ _
    c.requires.children (front did)) c.split_back.ensures.front
