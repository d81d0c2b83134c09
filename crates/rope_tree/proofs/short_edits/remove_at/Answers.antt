use Rattle.rope_tree.proofs.FormLaws.{tried_weaker}
use Rattle.rope_tree.proofs.short_edits.remove_at.Goals as goal

pub returns-clause-tried : goal.returns-clause-tried
returns-clause-tried c =
    tried_weaker c.remove_in_place.result c.args.root.now c.remove_in_place.new.self
    (λ r. r.text_is) c.remove_in_place.ensures.tried
