use Rattle.std.proofs.Common.{◌≡◌, ◌++◌, ap, ◌∙◌, arith, length, subst, sym}
use Rattle.std.specs.Str.{chars, IsUtf8}
use Rattle.std.proofs.lemmas.Str.{is_utf8-from_IsUtf8}
use Rattle.rope_leaf.proofs.node_text.NodeText.set.Goals.{After-append_bytes}
use Rattle.rope_leaf.proofs.node_text.NodeText.set.Goals as goal

now : (c : After-append_bytes) → c.append_bytes.new.bytes.items ≡ c.args.text.now
now c = c.append_bytes.ensures ∙ ap (λ x. x ++ c.as_bytes.result.now) c.clear.ensures
    ∙ c.as_bytes.ensures.value

pub invariant_of-self : goal.invariant_of-self
invariant_of-self c = (
  is_utf8-from_IsUtf8 _ (subst IsUtf8 (sym (now c)) c.utf8.text),
  omega (arith, ap length (now c), c.requires),
)

pub returns : goal.returns
returns c = ap chars (now c)
