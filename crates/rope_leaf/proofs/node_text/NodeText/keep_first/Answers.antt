-- The first characters of a leaf's text.
use Rattle.std.proofs.Common.{◌≡◌, length, take, sym, ap, subst, ◌∙◌, arith}
use Rattle.std.specs.Str.{chars, IsUtf8}
use Rattle.std.proofs.lemmas.Str.{IsUtf8-from_is_utf8, is_utf8-from_IsUtf8, IsUtf8-take, scalars-chars}
use Rattle.rope_text.specs.Text.{byte_len}
use Rattle.rope_text.proofs.TextParts.{byte_len_boundary, chars-take}
use Rattle.rope_leaf.proofs.node_text.NodeText.keep_first.Goals.{After-truncate}
use Rattle.rope_leaf.proofs.node_text.NodeText.keep_first.Goals as goal

whole : (c : After-truncate) → IsUtf8 c.self.inside.bytes.items
whole c = IsUtf8-from_is_utf8 c.self.inside.bytes.items c.self.invariant.0

is : (c : After-truncate) → c.truncate.new.self.items
    ≡ take (byte_len (take c.args.chars (chars c.self.inside.bytes.items)))
    c.self.inside.bytes.items
is c = c.truncate.ensures.items
    ∙ ap (λ n. take n c.self.inside.bytes.items) (c.requires
    ∙ ap (λ cs. byte_len (take c.args.chars cs)) (sym c.self.view_is))

kept : (c : After-truncate)
    → IsUtf8 (take (byte_len (take c.args.chars (chars c.self.inside.bytes.items)))
    c.self.inside.bytes.items)
kept c =
    let bs = c.self.inside.bytes.items in
    IsUtf8-take bs (byte_len (take c.args.chars (chars bs))) (whole c)
    (byte_len_boundary bs c.args.chars (whole c))

pub invariant_of-self : goal.invariant_of-self
invariant_of-self c =
    let bs = c.self.inside.bytes.items in
    let u : IsUtf8 c.truncate.new.self.items = subst IsUtf8 (sym (is c)) (kept c) in (
      is_utf8-from_IsUtf8 _ u,
      omega (arith, ap length c.truncate.ensures.items, c.self.invariant.1, c.truncate.ensures.len),
    )

pub returns-clause-value : goal.returns-clause-value
returns-clause-value c =
    ap chars (is c) ∙ chars-take c.self.inside.bytes.items c.args.chars (whole c)
    ∙ ap (take c.args.chars) c.self.view_is

pub returns-clause-scalars : goal.returns-clause-scalars
returns-clause-scalars c = rw (is c) (scalars-chars _ (kept c))
