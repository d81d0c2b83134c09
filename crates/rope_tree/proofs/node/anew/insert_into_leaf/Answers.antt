use Rattle.std.proofs.Common.{◌≡◌, [], ◌∷◌, ap, subst, sym, ◌∙◌, arith}
use Rattle.std.specs.Str.{chars}
use Rattle.rope_text.specs.Edit.{inserted}
use Rattle.rope_text.specs.TextInfo.{info_of}
use Rattle.rope_text.proofs.InfoLaws.{part_of_sum}
use Rattle.rope_leaf.specs.Tree.{leaf_tree}
use Rattle.rope_leaf.specs.Insert.{IsInserted}
use Rattle.rope_leaf.proofs.HalfLaws.{half_some, half_least, half_counts}
use Rattle.rope_leaf.proofs.InsertTrees.{length-inserted, byte_len-inserted}
use Rattle.rope_leaf.proofs.InsertLeaves.{one_inserted, two_inserted}
use Rattle.rope_tree.proofs.node.anew.insert_into_leaf.Goals.{After-as_str-text}
use Rattle.rope_tree.proofs.node.anew.insert_into_leaf.Goals as goal

-- the text to be put into leaves is that of the leaf with the inserted text
grown : (c : After-as_str-text) → chars c.as_str-text.result.now
    ≡ inserted c.args.leaf.now c.args.at c.args.added.now
grown c = ap chars c.as_str-text.ensures.value ∙ c.leaf_with-grown.ensures.text

pub minus-back_info-requires : goal.minus-back_info-requires
minus-back_info-requires c =
    let f = (goal.at.minus-back_info-requires c).After-as_str-text in
    part_of_sum _ _ _ (half_counts c.halves_of.ensures _ _ _ (c.leaf_with-grown.ensures.info
    ∙ ap (info_of c.line_breaks-breaks.result) (sym (grown f))) c.from_str-front_info.ensures)

pub returns-then-text-le-MAX_BYTES-clause-ok : goal.returns-then-text-le-MAX_BYTES-clause-ok
returns-then-text-le-MAX_BYTES-clause-ok c =
    let s = c.args.added.now in
    let new = inserted c.args.leaf.now c.args.at s in
    subst (λ t. IsInserted t (c.in_ok-node.node ∷ []) new) (sym c.requires.leaf)
    (one_inserted c.args.node.now.breaks c.args.leaf.now (chars c.as_str-text.result.now) new
    c.in_ok-node.node
    (c.in_ok-node.ensures.ok
    ∙ ap (λ b. leaf_tree b (chars c.as_str-text.result.now)) c.line_breaks-breaks.ensures)
    c.in_ok-node.ensures.tree
    (grown (goal.at.returns-then-text-le-MAX_BYTES-clause-ok c).After-as_str-text)
    (omega (arith, length-inserted c.args.leaf.now c.args.at s, c.requires.some))
    (omega (arith, byte_len-inserted c.args.leaf.now c.args.at s)))

pub returns-clause-ok : goal.returns-clause-ok
returns-clause-ok c =
    let f = (goal.at.returns-clause-ok c).After-as_str-text in
    let h = c.halves_of.ensures in
    let front = chars c.halves_of.result.0.now in
    let back = chars c.halves_of.result.1.now in
    let new = inserted c.args.leaf.now c.args.at c.args.added.now in
    let first = c.in_ok-first in
    let second = c.in_ok-second in
    subst (λ t. IsInserted t (first.first ∷ second.second ∷ []) new) (sym c.requires.leaf)
    (two_inserted c.args.node.now.breaks c.args.leaf.now front back new first.first second.second
    (first.ensures.ok ∙ ap (λ b. leaf_tree b front) c.line_breaks-breaks.ensures) (second.ensures.ok
    ∙ ap (λ b. leaf_tree b back) c.line_breaks-breaks.ensures)
    first.ensures.tree second.ensures.tree (h.joined ∙ grown f) (half_some h) (half_least h))
