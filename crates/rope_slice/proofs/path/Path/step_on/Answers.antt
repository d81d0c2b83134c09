use Rattle.std.proofs.Common.{◌+◌, ◌∙◌, length, sym, ap, arith, inl, inr}
use Rattle.std.proofs.lemmas.Bool.{cases_lt}
use Rattle.std.specs.Str.{chars}
use Rattle.rope_text.specs.Text.{byte_len}
use Rattle.rope_slice.specs.Descent.{IsDescent}
use Rattle.rope_slice.proofs.PathLaws.{solid_leaves, leaves_descent, start_descent, descent_on, paths_next, sizes, last_of, holds_next}
use Rattle.rope_slice.proofs.path.Path.step_on.Goals.{After-byte_len_of, After-text_in_list-self-inside}
use Rattle.rope_slice.proofs.path.Path.step_on.Goals as goal

pub overflow_add-start : goal.overflow_add-start
overflow_add-start c =
    let s = c.self.inside in
    let w = c.self.invariant.descent in
    let same = leaves_descent s.root.now s.nodes.now s.at (chars s.leaf.now) s.start w in
    let parts =
    sizes s.root.now.leaves (solid_leaves s.root.now s.nodes.now s.at (chars s.leaf.now) s.start w)
    _ same in
    omega (
      arith,
      parts,
      start_descent s.root.now s.nodes.now s.at (chars s.leaf.now) s.start w,
      w.tree.fits,
      c.byte_len_of.ensures,
    )

pub overflow_add-at : goal.overflow_add-at
overflow_add-at c =
    let l = c.self.invariant.descent.list in
    elim (cases_lt 0 (c.self.inside.at + length c.self.inside.nodes.now)) [
      | inl some ↦
          omega (arith, l.here some, l.few)
      | inr none ↦ omega arith
    ]

on : (c : After-text_in_list-self-inside)
    → IsDescent c.self.inside.root.now c.self.inside.nodes.now (c.self.inside.at + 1)
    (chars c.text_in_list-self-inside.result.now)
    (c.self.inside.start + byte_len (chars c.self.inside.leaf.now))
on c =
    let s = c.self.inside in
    descent_on s.root.now s.nodes.now s.at (chars s.leaf.now) s.start c.self.invariant.descent
    (chars c.text_in_list-self-inside.result.now) c.if-at-nodes.true
    c.text_in_list-self-inside.ensures

pub text_in_list-self-inside-requires-clause-low : goal.text_in_list-self-inside-requires-clause-low
text_in_list-self-inside-requires-clause-low c = c.self.invariant.descent.list.low

pub text_in_list-self-inside-requires-clause-listed :
    goal.text_in_list-self-inside-requires-clause-listed
text_in_list-self-inside-requires-clause-listed c =
    c.self.invariant.listed (omega (arith, c.if-at-nodes.true))

pub invariant_of-self : goal.invariant_of-self
invariant_of-self c =
    rw c.byte_len_of.ensures record {
      descent =
          on (goal.at.invariant_of-self c).After-text_in_list-self-inside;
      listed = c.self.invariant.listed;
    }

pub returns-then-at-nodes-clause-moved : goal.returns-then-at-nodes-clause-moved
returns-then-at-nodes-clause-moved c =
    let s = c.self.inside in
    let v = on (goal.at.returns-then-at-nodes-clause-moved c).After-text_in_list-self-inside in
    rw (← c.self.view_is, c.byte_len_of.ensures)
    (paths_next s.root.now s.nodes.now s.nodes.now s.at (s.at + 1) (chars s.leaf.now)
    (chars c.text_in_list-self-inside.result.now) s.start (s.start + byte_len (chars s.leaf.now))
    c.self.invariant.descent v (omega arith))

pub returns-then-start-info-clause-ended : goal.returns-then-start-info-clause-ended
returns-then-start-info-clause-ended c =
    let s = c.self.inside in
    let w = c.self.invariant.descent in
    let same = leaves_descent s.root.now s.nodes.now s.at (chars s.leaf.now) s.start w in
    let all =
    last_of s.root.now.leaves
    (solid_leaves s.root.now s.nodes.now s.at (chars s.leaf.now) s.start w) _ same
    (omega (
      arith,
      start_descent s.root.now s.nodes.now s.at (chars s.leaf.now) s.start w,
      c.byte_len_of.ensures,
      c.if-start-info.true,
      ap (λ i. i.bytes) c.info.ensures.value,
    )) in
    ap (λ p. p.after) (sym c.self.view_is) ∙ all

pub look_up-requires-clause-within : goal.look_up-requires-clause-within
look_up-requires-clause-within c =
    let s = c.self.inside in
    let w = c.self.invariant.descent in
    let same = leaves_descent s.root.now s.nodes.now s.at (chars s.leaf.now) s.start w in
    let parts =
    sizes s.root.now.leaves (solid_leaves s.root.now s.nodes.now s.at (chars s.leaf.now) s.start w)
    _ same in
    omega (
      arith,
      parts,
      start_descent s.root.now s.nodes.now s.at (chars s.leaf.now) s.start w,
      c.byte_len_of.ensures,
      c.if-start-info.false,
      ap (λ i. i.bytes) c.info.ensures.value,
    )

pub look_up-requires-clause-tree : goal.look_up-requires-clause-tree
look_up-requires-clause-tree c = c.self.invariant.descent.tree

pub returns-clause-moved : goal.returns-clause-moved
returns-clause-moved c =
    let s = c.self.inside in
    let w = c.self.invariant.descent in
    let same = leaves_descent s.root.now s.nodes.now s.at (chars s.leaf.now) s.start w in
    let l = c.look_up.ensures in
    rw (← c.self.view_is, c.self-2.view_is)
    (holds_next s.root.now.leaves
    (solid_leaves s.root.now s.nodes.now s.at (chars s.leaf.now) s.start w) _ same c.look_up.result
    l.leaves (s.start + c.byte_len_of.result) l.starts l.ends
    (omega (
      arith,
      start_descent s.root.now s.nodes.now s.at (chars s.leaf.now) s.start w,
      c.byte_len_of.ensures,
    )))
