use Rattle.std.proofs.Common.{◌≡◌, ◌++◌, length, take, drop, refl, sym, ap, ◌∙◌, arith}
use Rattle.std.proofs.lemmas.List.{append-nil, length-drop, drop_all}
use Rattle.rope_text.proofs.TextParts.{chars_back}
use Rattle.rope_text.specs.Text.{byte_len}
use Rattle.rope_text.specs.Edit.{removed}
use Rattle.rope_leaf.specs.Tree.{text, leaf_tree}
use Rattle.rope_leaf.proofs.InsertLeaves.{text_of_leaf}
use Rattle.rope_leaf.proofs.InsertTrees.{inserted_is}
use Rattle.rope_leaf.proofs.leaf.Leaf.give_end.Goals.{After-info-end, After-new-back}
use Rattle.rope_leaf.proofs.leaf.Leaf.give_end.Goals as goal

-- the characters that stay
kept_is : (c : After-info-end) → removed (text c.args.self.now) c.args.at c.info-end.result.chars
    ≡ take c.args.at (text c.args.self.now)
kept_is c =
    let t = text c.args.self.now in
    ap (λ l. take c.args.at t ++ l)
    (drop_all c.info-end.result.chars t (omega (arith, ap (λ i. i.chars) c.info-end.ensures)))
    ∙ append-nil (take c.args.at t)

-- the characters that move
back_is : (c : After-new-back) → c.new-back.result ≡ drop c.args.at (text c.args.self.now)
back_is c =
    let leaf : c.known_text-text.result ≡ text c.args.self.now =
    sym (text_of_leaf c.args.self.now.breaks c.args.self.now c.known_text-text.result
    c.known_text-text.ensures.is) in
    c.new-back.ensures.value
    ∙ chars_back c.as_str.result.now _ _ c.args.at _ c.as_str.utf8 c.as_str.ensures.chars
    (c.char_to_byte_idx.ensures.value
    ∙ ap (λ t. byte_len (take c.args.at t)) (sym c.as_str.ensures.chars))
    c.range_from.ensures.value ∙ ap (drop c.args.at) leaf

pub insert_in_place-requires-clause-some : goal.insert_in_place-requires-clause-some
insert_in_place-requires-clause-some c =
    omega (
      arith,
      ap length (back_is (goal.at.insert_in_place-requires-clause-some c).After-new-back),
      length-drop c.args.at (text c.args.self.now),
      c.requires.within,
    )

pub returns-clause-right : goal.returns-clause-right
returns-clause-right c = λ _.
    c.if-not-insert_in_place.ensures.leaf refl
    ∙ ap (leaf_tree c.args.right.now.breaks)
    (inserted_is (text c.args.right.now) 0 c.new-back.result
    ∙ ap (λ s. s ++ text c.args.right.now)
    (back_is (goal.at.returns-clause-right c).After-new-back))
