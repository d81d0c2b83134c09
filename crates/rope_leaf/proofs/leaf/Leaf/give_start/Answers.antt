use Rattle.std.proofs.Common.{◌≡◌, ◌++◌, length, take, refl, sym, ap, ap₂, ◌∙◌, arith}
use Rattle.std.proofs.lemmas.List.{append-nil, length-take-le, take_all, drop_all}
use Rattle.rope_text.proofs.TextParts.{chars_front}
use Rattle.rope_text.specs.Text.{byte_len}
use Rattle.rope_text.specs.Edit.{inserted}
use Rattle.rope_leaf.specs.Tree.{text, leaf_tree}
use Rattle.rope_leaf.proofs.InsertLeaves.{text_of_leaf}
use Rattle.rope_leaf.proofs.InsertTrees.{inserted_is}
use Rattle.rope_leaf.proofs.leaf.Leaf.give_start.Goals.{After-new-front}
use Rattle.rope_leaf.proofs.leaf.Leaf.give_start.Goals as goal

-- the characters that move
front_is : (c : After-new-front) → c.new-front.result ≡ take c.args.at (text c.args.self.now)
front_is c =
    let leaf : c.known_text-text.result ≡ text c.args.self.now =
    sym (text_of_leaf c.args.self.now.breaks c.args.self.now c.known_text-text.result
    c.known_text-text.ensures.is) in
    c.new-front.ensures.value
    ∙ chars_front c.as_str.result.now _ _ c.args.at _ c.as_str.utf8 c.as_str.ensures.chars
    (c.char_to_byte_idx.ensures.value
    ∙ ap (λ t. byte_len (take c.args.at t)) (sym c.as_str.ensures.chars))
    c.range.ensures.value ∙ ap (take c.args.at) leaf

pub insert_in_place-requires-clause-some : goal.insert_in_place-requires-clause-some
insert_in_place-requires-clause-some c =
    omega (
      arith,
      ap length (front_is (goal.at.insert_in_place-requires-clause-some c).After-new-front),
      length-take-le c.args.at (text c.args.self.now) (omega (arith, c.requires.within)),
      c.requires.some,
    )

pub returns-clause-left : goal.returns-clause-left
returns-clause-left c = λ _.
    let l = text c.args.left.now in
    let s = c.new-front.result in
    let end : c.info-end.result.chars ≡ length l = ap (λ i. i.chars) c.info-end.ensures in
    c.if-not-insert_in_place.ensures.leaf refl
    ∙ ap (leaf_tree c.args.left.now.breaks) (ap (λ n. inserted l n s) end
    ∙ inserted_is l (length l) s
    ∙ ap₂ (λ x y. x ++ (s ++ y)) (take_all (length l) l (omega arith))
    (drop_all (length l) l (omega arith))
    ∙ ap (λ x. l ++ x) (append-nil s
    ∙ front_is (goal.at.returns-clause-left c).After-new-front))
