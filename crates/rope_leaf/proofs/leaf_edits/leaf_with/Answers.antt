use Rattle.std.proofs.Common.{◌≡◌, ◌++◌, ap, ap₂, sym, take, drop, ◌∙◌, take-append-drop}
use Rattle.std.proofs.lemmas.Str.{chars-append}
use Rattle.std.specs.Str.{chars}
use Rattle.rope_text.specs.TextInfo.{info_of}
use Rattle.rope_text.specs.Edit.{inserted}
use Rattle.rope_leaf.proofs.InsertTrees.{inserted_is}
use Rattle.rope_leaf.proofs.leaf_edits.leaf_with.Goals.{After-as_str-added}
use Rattle.rope_leaf.proofs.leaf_edits.leaf_with.Goals as goal

-- the characters of the three parts
whole : (c : After-as_str-added) → chars c.split_at_char.result.0.now
    ++ (chars c.as_str-added.result.now ++ chars c.split_at_char.result.1.now)
    ≡ inserted c.args.leaf.now c.args.at c.args.added.now
whole c =
    let s = chars c.as_str-added.result.now in
    ap₂ (λ x y. x ++ (s ++ y)) c.split_at_char.ensures.front c.split_at_char.ensures.back
    ∙ ap (λ x. take c.args.at c.args.leaf.now ++ (x ++ drop c.args.at c.args.leaf.now))
    c.as_str-added.ensures.chars
    ∙ sym (inserted_is c.args.leaf.now c.args.at c.args.added.now)

pub info_between-info-requires-clause-info : goal.info_between-info-requires-clause-info
info_between-info-requires-clause-info c =
    c.requires.info ∙ ap (info_of c.args.breaks)
    (sym (ap₂ (λ x y. x ++ y) c.split_at_char.ensures.front c.split_at_char.ensures.back
    ∙ take-append-drop c.args.at c.args.leaf.now))

pub returns-clause-info : goal.returns-clause-info
returns-clause-info c =
    c.info_between-info.ensures
    ∙ ap (info_of c.args.breaks) (whole (goal.at.returns-clause-info c).After-as_str-added)

pub returns-clause-text : goal.returns-clause-text
returns-clause-text c =
    let front = c.split_at_char.result.0.now in
    let back = c.split_at_char.result.1.now in
    let text = c.as_str-added.result.now in
    ap chars c.text_of_parts.ensures
    ∙ chars-append front (text ++ back) c.split_at_char.ensures.utf8
    ∙ ap (λ r. chars front ++ r) (chars-append text back c.as_str-added.utf8)
    ∙ whole (goal.at.returns-clause-text c).After-as_str-added
