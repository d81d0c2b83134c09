use Rattle.std.proofs.Common.{◌≡◌, ◌++◌, take, drop, ap, ap₂, sym, ◌∙◌, arith}
use Rattle.std.proofs.lemmas.Str.{chars-append}
use Rattle.std.specs.Str.{chars}
use Rattle.rope_text.specs.Edit.{inserted}
use Rattle.rope_leaf.specs.Tree.{text}
use Rattle.rope_leaf.proofs.InsertLeaves.{text_of_leaf}
use Rattle.rope_leaf.proofs.InsertTrees.{inserted_is}
use Rattle.rope_tree.proofs.LastCalls.{both_ok}
use Rattle.rope_tree.proofs.PieceLaws.{pieces_stand}
use Rattle.rope_tree.proofs.node.pieces.fill_with.Goals.{After-as_str-2}
use Rattle.rope_tree.proofs.node.pieces.fill_with.Goals as goal

leaf_text : (c : After-as_str-2) → text c.args.node.now ≡ c.in-Leaf.leaf
leaf_text c =
    text_of_leaf c.args.node.now.breaks c.args.node.now c.in-Leaf.leaf c.in-Leaf.ensures.is

-- the characters of the three parts
whole : (c : After-as_str-2) → chars c.as_str-2.result.now
    ≡ inserted (text c.args.node.now) c.args.at c.args.added.now
whole c =
    let s = c.as_str.result.now in
    let front = c.split_at_char.result.0.now in
    let back = c.split_at_char.result.1.now in
    let parts = ap chars (c.as_str-2.ensures.value ∙ c.text_of_parts-whole.ensures)
    ∙ chars-append front (s ++ back) c.split_at_char.ensures.utf8
    ∙ ap (λ r. chars front ++ r) (chars-append s back c.as_str.utf8) in
    parts ∙ ap₂ (λ x y. x ++ (chars s ++ y)) c.split_at_char.ensures.front
    c.split_at_char.ensures.back
    ∙ ap (λ x. take c.args.at c.in-Leaf.leaf ++ (x ++ drop c.args.at c.in-Leaf.leaf))
    c.as_str.ensures.chars
    ∙ sym (inserted_is c.in-Leaf.leaf c.args.at c.args.added.now)
    ∙ ap (λ x. inserted x c.args.at c.args.added.now) (sym (leaf_text c))

pub returns-clause-ok : goal.returns-clause-ok
returns-clause-ok c =
    let e = (goal.at.returns-clause-ok c).After-as_str-2 in
    both_ok c.fill.result _ _ _ (λ done pieces few.
    pieces_stand c.args.node.now.breaks c.in-Leaf.leaf c.args.node.now
    (inserted (text c.args.node.now) c.args.at c.args.added.now) c.fill.new.pieces.items
    c.in-Leaf.ensures.is
    (rw (c.line_breaks.ensures, whole e) at pieces) (omega (arith, few))) c.fill.ensures.ok
    c.fill.ensures.few
