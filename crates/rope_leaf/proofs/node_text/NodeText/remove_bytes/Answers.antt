-- The text of a leaf after a removal.
use Rattle.std.proofs.Common.{◌≡◌, ℕ, ◌≤◌, List, length, take, drop, sym, ap, subst, ◌∙◌, arith}
use Rattle.std.specs.List.{remove_range}
use Rattle.std.specs.Str.{chars, IsUtf8, IsCharBoundary}
use Rattle.std.proofs.lemmas.List.{length-append, length-take-le, length-drop}
use Rattle.std.proofs.lemmas.Str.{IsUtf8-from_is_utf8, is_utf8-from_IsUtf8, IsUtf8-take, IsUtf8-drop, IsUtf8-append, scalars-chars}
use Rattle.std.proofs.lemmas.Grind.{common_steps}
use Rattle.rope_leaf.proofs.LeafTexts.{bytes_of}
use Rattle.rope_leaf.proofs.node_text.NodeText.remove_bytes.Goals.{After-self, After-truncate}
use Rattle.rope_leaf.proofs.node_text.NodeText.remove_bytes.Goals as goal

removed_utf8 : (bs : List ℕ) (i j : ℕ) → IsUtf8 bs → IsCharBoundary bs i → IsCharBoundary bs j
    → IsUtf8 (remove_range bs i j)
removed_utf8 bs i j u from to =
    IsUtf8-append (take i bs) (drop j bs) (IsUtf8-take bs i u from) (IsUtf8-drop bs j u to)

removed_len : (bs : List ℕ) (i j : ℕ) → i ≤ j → j ≤ length bs
    → length (remove_range bs i j) ≤ length bs
removed_len bs i j order within =
    omega (
      arith,
      length-append (take i bs) (drop j bs),
      length-take-le i bs (omega arith),
      length-drop j bs,
    )

to_is : (c : After-self) → IsCharBoundary c.self.inside.bytes.items c.args.to
to_is c =
    subst (λ x. IsCharBoundary x c.args.to)
    (bytes_of c.self.inside.bytes.items c.args.self.now c.self.invariant.0 c.self.view_is)
    c.requires.to

pub copy_within-requires-clause-start_le_end : goal.copy_within-requires-clause-start_le_end
copy_within-requires-clause-start_le_end c =
    omega (
      arith,
      (to_is (goal.at.copy_within-requires-clause-start_le_end c).After-self).0,
      c.len-len.ensures.value,
    )

pub copy_within-requires-clause-dest_in_bounds : goal.copy_within-requires-clause-dest_in_bounds
copy_within-requires-clause-dest_in_bounds c =
    omega (
      arith,
      (to_is (goal.at.copy_within-requires-clause-dest_in_bounds c).After-self).0,
      c.requires.ordered,
      c.len-len.ensures.value,
      ap length c.as_mut_slice.ensures.value,
    )

pub overflow_sub-len : goal.overflow_sub-len
overflow_sub-len c =
    omega (arith, (to_is (goal.at.overflow_sub-len c).After-self).0, c.len-len.ensures.value)

is : (c : After-truncate) → c.truncate.new.self.items
    ≡ remove_range c.self.inside.bytes.items c.args.from c.args.to
is c =
    let within : c.args.to ≤ length c.self.inside.bytes.items =
    (to_is (goal.at.invariant_of-self c).After-self).0 in
    let ordered : c.args.from ≤ c.args.to = c.requires.ordered in
    let here = c.as_mut_slice.ensures.value in
    let long = c.len-len.ensures.value in
    let moved = c.copy_within.ensures.after in
    let cut = c.truncate.ensures.items in
    grind (arith, common_steps)

-- the rest is a text
left : (c : After-truncate) → IsUtf8 (remove_range c.self.inside.bytes.items c.args.from c.args.to)
left c =
    let bs = c.self.inside.bytes.items in
    let same = bytes_of bs c.args.self.now c.self.invariant.0 c.self.view_is in
    let from : IsCharBoundary bs c.args.from =
    subst (λ x. IsCharBoundary x c.args.from) same c.requires.from in
    removed_utf8 bs c.args.from c.args.to (IsUtf8-from_is_utf8 bs c.self.invariant.0) from
    (to_is (goal.at.invariant_of-self c).After-self)

pub invariant_of-self : goal.invariant_of-self
invariant_of-self c =
    let less =
    removed_len c.self.inside.bytes.items c.args.from c.args.to c.requires.ordered
    (to_is (goal.at.invariant_of-self c).After-self).0 in
    rw (is c) (is_utf8-from_IsUtf8 _ (left c), omega (arith, less, c.self.invariant.1))

pub returns-clause-scalars : goal.returns-clause-scalars
returns-clause-scalars c = rw (is c) (scalars-chars _ (left c))

pub returns-clause-value : goal.returns-clause-value
returns-clause-value c =
    let same =
    bytes_of c.self.inside.bytes.items c.args.self.now c.self.invariant.0 c.self.view_is in
    ap chars (is c ∙ ap (λ bs. remove_range bs c.args.from c.args.to) (sym same))
