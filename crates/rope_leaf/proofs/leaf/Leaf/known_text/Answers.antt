use Rattle.std.proofs.Common.{◌≡◌, ◌-◌, length, sym, ap, ◌∙◌, arith}
use Rattle.std.specs.Str.{chars}
use Rattle.std.proofs.lemmas.List.{take_all}
use Rattle.std.proofs.lemmas.Str.{is_utf8-from_IsUtf8}
use Rattle.rope_text.specs.Text.{byte_len}
use Rattle.rope_leaf.specs.Tree.{text}
use Rattle.rope_leaf.proofs.NodeLaws.{leaf_text}
use Rattle.rope_leaf.proofs.leaf.Leaf.known_text.Goals as goal

pub invariant_of-result : goal.invariant_of-result
invariant_of-result c =
    let bytes : c.args.info.bytes ≡ byte_len c.self.inside.text = ap (λ i. i.bytes) c.requires
    ∙ ap (λ t. byte_len (text t)) (sym c.self.view_is)
    ∙ ap byte_len (leaf_text c.self.inside.text) in
    let count : c.args.info.chars ≡ length c.self.inside.text = ap (λ i. i.chars) c.requires
    ∙ ap (λ t. length (text t)) (sym c.self.view_is) ∙ ap length (leaf_text c.self.inside.text) in
    let whole : c.range.result.now ≡ c.as_str.result.now = c.range.ensures.value
    ∙ take_all (c.args.info.bytes - 0) c.as_str.result.now
    (omega (arith, bytes, ap length c.as_str.ensures.bytes)) in
    record {
      utf8 = is_utf8-from_IsUtf8 _ c.range.utf8;
      fits = omega (arith, bytes, c.range.ensures.len, c.self.invariant.fits);
      counted = λ _. count ∙ sym (ap length (ap chars whole ∙ c.as_str.ensures.chars));
    }
