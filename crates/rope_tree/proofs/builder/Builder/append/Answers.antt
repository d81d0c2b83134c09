-- The text before the append is a front of the whole text.
use Rattle.std.proofs.Common.{◌≡◌, ◌∙◌, ◌++◌, true, length, ap, sym, subst, arith, append_assoc}
use Rattle.std.specs.Prelude.{◌==◌}
use Rattle.std.proofs.lemmas.Bool.Decides.{nat_tests}
use Rattle.std.proofs.lemmas.List.{append-nil}
use Rattle.std.proofs.lemmas.Grind.{common_steps}
use Rattle.std.specs.Str.{chars}
use Rattle.rope_text.specs.Text.{byte_len}
use Rattle.rope_text.proofs.Measures.{IsMeasure-byte_len}
use Rattle.rope_text.proofs.Walks.{byte_len-chars}
use Rattle.rope_leaf.specs.Tree.{joined}
use Rattle.rope_tree.specs.Fronts.{AreFrontNodes, Building}
use Rattle.rope_leaf.proofs.LeafTexts.{no_chars}
use Rattle.rope_tree.proofs.builder.Builder.append.Goals.{then-len-text-le-MAX_BYTES, else-len-text-le-MAX_BYTES+in_default}
use Rattle.rope_tree.proofs.builder.Builder.append.Goals as goal

pub returns-then-is_empty-clause-ok : goal.returns-then-is_empty-clause-ok
returns-then-is_empty-clause-ok c =
    let text = c.args.text.now in
    let empty : (length text == 0) ≡ true = sym c.is_empty.ensures ∙ c.if-is_empty.true in
    let none : length text ≡ 0 = grind (arith, nat_tests) in
    sym (ap (λ x. c.args.self.now.text ++ x) (no_chars text none) ∙ append-nil c.args.self.now.text)

pub invariant_of-self-2 : goal.invariant_of-self-2
invariant_of-self-2 c =
    let a = c.self.inside in
    let old = joined a.leaves.items ++ a.rest in
    let text = chars c.args.text.now in
    let regroup : joined a.leaves.items ++ (a.rest ++ text) ≡ old ++ text =
    sym (append_assoc (joined a.leaves.items) a.rest text) in
    let all = ap byte_len regroup ∙ IsMeasure-byte_len.joined old text in
    let len = byte_len-chars c.args.text.now c.utf8.text in
    let fits = ap (λ (b : Building). byte_len b.text) c.self.view_is in
    elim c.if-len-text-le-MAX_BYTES.branch [
      | then-len-text-le-MAX_BYTES w ↦
          let now = w.push_str.ensures.value in
          let made : AreFrontNodes a.breaks (joined a.leaves.items ++ (a.rest ++ text))
          a.leaves.items (a.rest ++ text) = grind (arith, common_steps) in
          rw w.self-inside-is (record {
            nodes = rw now made;
            long = omega (arith, w.push_str.ensures.len, c.self.invariant.long);
            followed =
                λ some. omega (arith, w.push_str.ensures.len, c.self.invariant.followed some);
            counted =
                omega (
                  arith,
                  ap (λ r. byte_len (joined a.leaves.items ++ r)) now,
                  all,
                  c.self.invariant.counted,
                  len,
                );
            fits = omega (arith, c.requires, fits, c.self.invariant.counted);
          })
      | else-len-text-le-MAX_BYTES+in_default w ↦
          let made = w.in_default.ensures in
          let whole = made.nodes.fronts.whole in
          rw w.self-inside-is (record {
            nodes = subst (λ u. AreFrontNodes a.breaks u w.cut_leaves.new.leaves.items
                w.cut_leaves.new.rest) (sym whole) made.nodes;
            long = omega (arith, made.long, c.self.invariant.long);
            followed = λ _. made.followed;
            counted = omega (arith, ap byte_len whole, all, c.self.invariant.counted, len);
            fits = omega (arith, c.requires, fits, c.self.invariant.counted);
          })
    ]
