use Rattle.std.proofs.Common.{◌≡◌, [], ◌∷◌, ap, subst, sym, refl, ◌∙◌, arith}
use Rattle.std.proofs.lemmas.Str.{scalars-chars}
use Rattle.std.specs.Str.{chars}
use Rattle.rope_text.specs.Edit.{inserted}
use Rattle.rope_text.specs.TextInfo.{info_of}
use Rattle.rope_text.proofs.InfoLaws.{part_of_sum}
use Rattle.rope_leaf.specs.Tree.{text, leaf_tree, IsTree}
use Rattle.rope_leaf.specs.Insert.{IsInserted}
use Rattle.rope_leaf.proofs.GrownLaws.{leaf_split}
use Rattle.rope_leaf.proofs.HalfLaws.{front_bytes, back_tree, half_some, half_least, half_counts}
use Rattle.rope_leaf.proofs.leaf.Leaf.cut_anew.Goals.{After-from_str-front_info}
use Rattle.rope_leaf.proofs.leaf.Leaf.cut_anew.Goals as goal

-- the text to be split is that of the leaf with the inserted text
grown : (c : After-from_str-front_info) → chars c.as_str.result.now
    ≡ inserted c.known_text-old.result c.args.at c.args.added.now
grown c = ap chars c.as_str.ensures.value ∙ c.leaf_with-grown.ensures.text

pub minus-back_info-requires : goal.minus-back_info-requires
minus-back_info-requires c =
    let f = (goal.at.minus-back_info-requires c).After-from_str-front_info in
    part_of_sum _ _ _ (half_counts c.halves_of.ensures _ _ _ (c.leaf_with-grown.ensures.info
    ∙ ap (info_of c.line_breaks-breaks.result) (sym (grown f))) c.from_str-front_info.ensures)

pub returns-clause-cut : goal.returns-clause-cut
returns-clause-cut c =
    let f = (goal.at.returns-clause-cut c).After-from_str-front_info in
    let h = c.halves_of.ensures in
    let front = chars c.halves_of.result.0.now in
    let back = chars c.halves_of.result.1.now in
    let breaks = c.args.self.now.breaks in
    let s = c.args.added.now in
    let following_is = c.in_ok-following.ensures
    ∙ ap (λ b. leaf_tree b back) c.line_breaks-breaks.ensures in
    rw (c.fill.ensures, c.line_breaks-breaks.ensures)
    (subst (λ t. IsInserted t
    (leaf_tree breaks front ∷ c.in_ok-following.following.value ∷ [])
    (inserted (text t) c.args.at s)) (sym c.known_text-old.ensures.is)
    (leaf_split breaks c.known_text-old.result front (omega (arith, front_bytes h, h.front_room))
    (scalars-chars c.halves_of.result.0.now h.front_utf8) c.args.at s back
    c.in_ok-following.following.value following_is
    (subst IsTree (sym following_is) (back_tree h breaks))
    (h.joined ∙ grown f) (half_some h) (half_least h)))

pub returns-clause-leaf : goal.returns-clause-leaf
returns-clause-leaf c =
    rw c.in_ok-following.ensures
    (record { flat = refl; tree = back_tree c.halves_of.ensures c.line_breaks-breaks.result })
