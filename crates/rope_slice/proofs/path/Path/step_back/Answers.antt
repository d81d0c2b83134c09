use Rattle.std.proofs.Common.{◌-◌, ◌<◌, ◌≤◌, ◌∙◌, length, sym, ap, arith}
use Rattle.std.specs.Str.{chars}
use Rattle.rope_text.specs.Text.{byte_len}
use Rattle.rope_slice.specs.Descent.{IsDescent}
use Rattle.rope_slice.proofs.PathLaws.{solid_leaves, leaves_descent, start_descent, descent_back, paths_next, sizes, first_of, holds_prev}
use Rattle.rope_slice.proofs.path.Path.step_back.Goals.{After-text_in_list-leaf, After-byte_len_of}
use Rattle.rope_slice.proofs.path.Path.step_back.Goals as goal

pub returns-then-self-eq0-clause-ended : goal.returns-then-self-eq0-clause-ended
returns-then-self-eq0-clause-ended c =
    let s = c.self.inside in
    let w = c.self.invariant.descent in
    let same = leaves_descent s.root.now s.nodes.now s.at (chars s.leaf.now) s.start w in
    let none =
    first_of s.root.now.leaves
    (solid_leaves s.root.now s.nodes.now s.at (chars s.leaf.now) s.start w) _ same
    (start_descent s.root.now s.nodes.now s.at (chars s.leaf.now) s.start w ∙ c.if-self-eq0.true) in
    ap (λ p. p.before) (sym c.self.view_is) ∙ none

pub look_up-requires-clause-within : goal.look_up-requires-clause-within
look_up-requires-clause-within c =
    let s = c.self.inside in
    let w = c.self.invariant.descent in
    let same = leaves_descent s.root.now s.nodes.now s.at (chars s.leaf.now) s.start w in
    let parts =
    sizes s.root.now.leaves (solid_leaves s.root.now s.nodes.now s.at (chars s.leaf.now) s.start w)
    _ same in
    omega (
      arith,
      parts,
      start_descent s.root.now s.nodes.now s.at (chars s.leaf.now) s.start w,
      c.if-self-eq0.false,
    )

pub look_up-requires-clause-tree : goal.look_up-requires-clause-tree
look_up-requires-clause-tree c = c.self.invariant.descent.tree

pub returns-clause-moved : goal.returns-clause-moved
returns-clause-moved c =
    let s = c.self.inside in
    let w = c.self.invariant.descent in
    let same = leaves_descent s.root.now s.nodes.now s.at (chars s.leaf.now) s.start w in
    let l = c.look_up.ensures in
    rw (← c.self.view_is, c.self-2.view_is)
    (holds_prev s.root.now.leaves
    (solid_leaves s.root.now s.nodes.now s.at (chars s.leaf.now) s.start w) _ same c.look_up.result
    l.leaves (s.start - 1) l.starts l.ends
    (omega (
      arith,
      start_descent s.root.now s.nodes.now s.at (chars s.leaf.now) s.start w,
      c.if-self-eq0.false,
    )))

inside : (c : After-text_in_list-leaf) → c.self.inside.at < length c.self.inside.nodes.now
inside c = let here = c.self.invariant.descent.list.here in omega (arith, here, c.if-self-gt0.true)

back : (c : After-text_in_list-leaf)
    → IsDescent c.self.inside.root.now c.self.inside.nodes.now (c.self.inside.at - 1)
    (chars c.text_in_list-leaf.result.now)
    (c.self.inside.start - byte_len (chars c.text_in_list-leaf.result.now))
    × (byte_len (chars c.text_in_list-leaf.result.now) ≤ c.self.inside.start)
back c =
    let s = c.self.inside in
    descent_back s.root.now s.nodes.now s.at (chars s.leaf.now) s.start c.self.invariant.descent
    (chars c.text_in_list-leaf.result.now) (omega (arith, c.if-self-gt0.true)) (inside c)
    c.text_in_list-leaf.ensures

pub overflow_sub-self : goal.overflow_sub-self
overflow_sub-self c =
    omega (
      arith,
      (back (goal.at.overflow_sub-self c).After-text_in_list-leaf).1,
      c.byte_len_of.ensures,
    )

pub invariant_of-self : goal.invariant_of-self
invariant_of-self c =
    rw c.byte_len_of.ensures record {
      descent =
          (back (goal.at.invariant_of-self c).After-text_in_list-leaf).0;
      listed = c.self.invariant.listed;
    }

pub returns-then-self-gt0-clause-moved : goal.returns-then-self-gt0-clause-moved
returns-then-self-gt0-clause-moved c =
    let s = c.self.inside in
    let b = back (goal.at.returns-then-self-gt0-clause-moved c).After-text_in_list-leaf in
    let x = chars c.text_in_list-leaf.result.now in
    rw (← c.self.view_is, c.byte_len_of.ensures)
    (paths_next s.root.now s.nodes.now s.nodes.now (s.at - 1) s.at x (chars s.leaf.now)
    (s.start - byte_len x) s.start b.0 c.self.invariant.descent (omega (arith, b.1)))
