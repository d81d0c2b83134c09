use Rattle.std.proofs.Common.{◌∙◌, ap, sym, arith}
use Rattle.std.proofs.lemmas.Str.{chars-nil}
use Rattle.std.proofs.lemmas.List.{nil_from_length}
use Rattle.rope_text.specs.Cutting.{single_chunk}
use Rattle.rope_text.specs.Text.{byte_len}
use Rattle.rope_leaf.specs.Tree.{text}
use Rattle.rope_tree.proofs.EmptyTrees.{no_leaves_of}
use Rattle.rope_leaf.proofs.LeafLaws.{nonempty_leaves}
use Rattle.rope_slice.proofs.Clips.{whole_part, whole_clip}
use Rattle.rope_slice.proofs.Measured.{whole_excerpt}
use Rattle.rope_slice.proofs.slice.RopeSlice.of_node.Goals as goal

pub returns-then-end-eq0-clause-text : goal.returns-then-end-eq0-clause-text
returns-then-end-eq0-clause-text c = c.from_str_with.ensures.text ∙ chars-nil
    ∙ sym (nil_from_length (text c.args.node.now) (sym (ap (λ x. x.chars) c.info-end.ensures.value)
    ∙ c.if-end-eq0.true))

pub returns-then-end-eq0-clause-chunks : goal.returns-then-end-eq0-clause-chunks
returns-then-end-eq0-clause-chunks c =
    let none =
    nil_from_length (text c.args.node.now) (sym (ap (λ x. x.chars) c.info-end.ensures.value)
    ∙ c.if-end-eq0.true) in
    c.from_str_with.ensures.chunks ∙ ap single_chunk chars-nil
    ∙ sym (no_leaves_of c.args.node.now c.info-end.ensures.tree (ap byte_len none))

pub invariant_of-result : goal.invariant_of-result
invariant_of-result c = record {
  is_low = record { low = c.info-end.ensures.low; tree = c.info-end.ensures.tree };
  is_excerpt =
      whole_excerpt c.args.node.now.breaks (text c.args.node.now) c.new-start.result
      c.info-end.result (omega (
        arith,
        ap (λ x. x.chars) c.info-end.ensures.value,
        c.if-end-eq0.false,
      )) (c.new-start.ensures c.args.node.now.breaks) c.info-end.ensures.value;
}

pub returns-clause-text : goal.returns-clause-text
returns-clause-text c =
    whole_part (text c.args.node.now) c.new-start.result.chars c.info-end.result.chars
    (ap (λ x. x.chars) (c.new-start.ensures c.args.node.now.breaks))
    (ap (λ x. x.chars) c.info-end.ensures.value)

pub returns-clause-chunks : goal.returns-clause-chunks
returns-clause-chunks c =
    whole_clip c.args.node.now.leaves c.new-start.result.chars c.info-end.result.chars
    (nonempty_leaves c.args.node.now.leaves c.info-end.ensures.tree.leaves.each)
    (ap (λ x. x.chars) (c.new-start.ensures c.args.node.now.breaks))
    (ap (λ x. x.chars) c.info-end.ensures.value)
