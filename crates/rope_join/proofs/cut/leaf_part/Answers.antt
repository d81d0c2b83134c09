use Rattle.std.proofs.Common.{ap₂, sym, ◌∙◌}
use Rattle.std.proofs.lemmas.Result.{IfOk-weaker}
use Rattle.rope_text.specs.TextInfo.{info_of}
use Rattle.rope_leaf.proofs.InsertLeaves.{text_of_leaf}
use Rattle.rope_leaf.proofs.PartTexts.{AreCut, are_cut}
use Rattle.rope_leaf.specs.Tree.{leaf_tree}
use Rattle.rope_join.proofs.cut.leaf_part.Goals.{After-range_from-back}
use Rattle.rope_join.proofs.cut.leaf_part.Goals as goal

cut : (c : After-range_from-back)
    → AreCut c.as_str-text.result.now c.range-front.result.now c.range_from-back.result.now
    c.args.leaf.now c.args.at
cut c =
    are_cut c.as_str-text.result.now c.range-front.result.now c.range_from-back.result.now
    c.args.leaf.now c.args.at c.char_to_byte_idx-place.result c.as_str-text.utf8
    c.as_str-text.ensures.chars c.char_to_byte_idx-place.ensures.value
    c.range-front.ensures.value c.range_from-back.ensures.value c.requires.some c.requires.within

pub infos_of_parts-requires-clause-info : goal.infos_of_parts-requires-clause-info
infos_of_parts-requires-clause-info c =
    let k = cut (goal.at.infos_of_parts-requires-clause-info c).After-range_from-back in
    c.info.ensures.value
    ∙ ap₂ info_of (sym c.line_breaks-breaks.ensures)
    (text_of_leaf c.args.node.now.breaks c.args.node.now c.args.leaf.now c.requires.leaf
    ∙ sym k.whole)

pub returns-in-Front-clause-ok : goal.returns-in-Front-clause-ok
returns-in-Front-clause-ok c =
    let k = cut (goal.at.returns-in-Front-clause-ok c).After-range_from-back in
    rw (c.in-Front.is) (IfOk-weaker c.make_leaf.result _ _ (λ node made. made
    ∙ ap₂ leaf_tree c.line_breaks-breaks.ensures k.front) c.make_leaf.ensures.ok)

pub returns-in-Back-clause-ok : goal.returns-in-Back-clause-ok
returns-in-Back-clause-ok c =
    let k = cut (goal.at.returns-in-Back-clause-ok c).After-range_from-back in
    rw (c.in-Back.is) (IfOk-weaker c.make_leaf-in-Back.result _ _ (λ node made. made
    ∙ ap₂ leaf_tree c.line_breaks-breaks.ensures k.back) c.make_leaf-in-Back.ensures.ok)
