-- The text of a leaf with another appended.
use Rattle.std.proofs.Common.{◌≡◌, ◌+◌, ◌++◌, length, ap, ◌∙◌, arith}
use Rattle.std.proofs.lemmas.List.{length-append}
use Rattle.std.proofs.lemmas.Str.{chars-append, IsUtf8-append, IsUtf8-from_is_utf8, is_utf8-from_IsUtf8}
use Rattle.std.specs.Str.{chars, IsUtf8}
use Rattle.rope_text.specs.Text.{byte_len}
use Rattle.rope_text.proofs.Walks.{byte_len-chars}
use Rattle.rope_leaf.proofs.LeafTexts.{len_of}
use Rattle.rope_leaf.proofs.node_text.NodeText.push_str.Goals.{After-append_bytes}
use Rattle.rope_leaf.proofs.node_text.NodeText.push_str.Goals as goal

now : (c : After-append_bytes) → c.append_bytes.new.bytes.items ≡ c.self.inside.bytes.items
    ++ c.args.text.now
now c = c.append_bytes.ensures ∙ ap (λ x. c.self.inside.bytes.items ++ x) c.as_bytes.ensures.value

utf8 : (c : After-append_bytes) → IsUtf8 c.append_bytes.new.bytes.items
utf8 c = rw (now c) (IsUtf8-append c.self.inside.bytes.items c.args.text.now
    (IsUtf8-from_is_utf8 c.self.inside.bytes.items c.self.invariant.0) c.utf8.text)

len : (c : After-append_bytes) → length c.append_bytes.new.bytes.items
    ≡ byte_len c.args.self.now + length c.args.text.now
len c = omega (
  arith,
  ap length (now c),
  length-append c.self.inside.bytes.items c.args.text.now,
  len_of c.self.inside.bytes.items c.args.self.now c.self.invariant.0 c.self.view_is,
)

pub append_bytes-requires : goal.append_bytes-requires
append_bytes-requires c =
    omega (
      arith,
      c.requires,
      ap length c.as_bytes.ensures.value,
      len_of c.self.inside.bytes.items c.args.self.now c.self.invariant.0 c.self.view_is,
    )

pub invariant_of-self : goal.invariant_of-self
invariant_of-self c = (is_utf8-from_IsUtf8 _ (utf8 c), omega (arith, len c, c.requires))

pub returns-clause-value : goal.returns-clause-value
returns-clause-value c =
    ap chars (now c) ∙ chars-append c.self.inside.bytes.items c.args.text.now
    (IsUtf8-from_is_utf8 c.self.inside.bytes.items c.self.invariant.0)
    ∙ ap (λ r. r ++ chars c.args.text.now) c.self.view_is

pub returns-clause-len : goal.returns-clause-len
returns-clause-len c = byte_len-chars _ (utf8 c) ∙ len c
