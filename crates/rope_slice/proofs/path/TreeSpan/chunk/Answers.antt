use Rattle.std.proofs.Common.{◌≡◌, ◌-◌, ℕ, length, ap, sym, ◌∙◌, arith}
use Rattle.std.specs.List.{concat}
use Rattle.rope_text.specs.Text.{byte_len}
use Rattle.rope_text.proofs.Measures.{IsMeasure-byte_len, size_le}
use Rattle.rope_text.proofs.Walks.{byte_len-chars}
use Rattle.rope_slice.proofs.ChunkParts.{chars_of_part, boundary_of}
use Rattle.rope_slice.specs.Path.{Place, leaves}
use Rattle.rope_slice.specs.Span.{edge_at}
use Rattle.rope_slice.proofs.Spans.{IsCut, cut}
use Rattle.rope_slice.proofs.path.TreeSpan.chunk.Goals.{After-leaf-leaf}
use Rattle.rope_slice.proofs.path.TreeSpan.chunk.Goals as goal

abbrev chars_at : Place → ℕ → ℕ
chars_at p bytes = (edge_at (leaves p) bytes).chars

here : (c : After-leaf-leaf)
    → IsCut c.self.inside.path (byte_len (concat c.self.inside.path.before))
    (edge_at (leaves c.self.inside.path) c.self.inside.from)
    (edge_at (leaves c.self.inside.path) c.self.inside.to)
here c = cut c.self.inside.path _ _ _ c.self.invariant

size : (c : After-leaf-leaf) → length c.leaf-leaf.result.now ≡ byte_len c.self.inside.path.here
size c = sym (byte_len-chars c.leaf-leaf.result.now c.leaf-leaf.utf8)
    ∙ ap byte_len c.leaf-leaf.ensures

pub overflow_sub-self-inside : goal.overflow_sub-self-inside
overflow_sub-self-inside c =
    let h = here (goal.at.overflow_sub-self-inside c).After-leaf-leaf in
    omega (arith, c.start-start.ensures, h.in_order)

pub range-requires-clause-start_le_end : goal.range-requires-clause-start_le_end
range-requires-clause-start_le_end c =
    let e = (goal.at.range-requires-clause-start_le_end c).After-leaf-leaf in
    let h = here e in
    omega (
      arith,
      size e,
      h.low,
      h.high,
      c.saturating_sub-low.ensures,
      c.min-high.ensures,
      size_le byte_len IsMeasure-byte_len c.self.inside.path.here
          (chars_at c.self.inside.path c.self.inside.from - length
          (concat c.self.inside.path.before))
          (chars_at c.self.inside.path c.self.inside.to - length (concat c.self.inside.path.before))
          h.ordered,
    )

pub range-requires-clause-start_boundary : goal.range-requires-clause-start_boundary
range-requires-clause-start_boundary c =
    let h = here (goal.at.range-requires-clause-start_boundary c).After-leaf-leaf in
    λ _. boundary_of c.leaf-leaf.result.now c.self.inside.path.here
    (chars_at c.self.inside.path c.self.inside.from - length (concat c.self.inside.path.before))
    c.saturating_sub-low.result c.leaf-leaf.utf8 c.leaf-leaf.ensures
    (omega (arith, c.saturating_sub-low.ensures, h.low, c.start-start.ensures))

pub range-requires-clause-end_boundary : goal.range-requires-clause-end_boundary
range-requires-clause-end_boundary c =
    let e = (goal.at.range-requires-clause-end_boundary c).After-leaf-leaf in
    let h = here e in
    let long = size e in
    boundary_of c.leaf-leaf.result.now c.self.inside.path.here
    (chars_at c.self.inside.path c.self.inside.to - length (concat c.self.inside.path.before))
    c.min-high.result c.leaf-leaf.utf8 c.leaf-leaf.ensures
    (omega (arith, c.min-high.ensures, h.high, c.start-start.ensures))

pub returns : goal.returns
returns c =
    let e = (goal.at.returns c).After-leaf-leaf in
    let h = here e in
    let long = size e in
    let i : ℕ =
    chars_at c.self.inside.path c.self.inside.from - length (concat c.self.inside.path.before) in
    let j : ℕ =
    chars_at c.self.inside.path c.self.inside.to - length (concat c.self.inside.path.before) in
    rw (← c.self.view_is)
    (chars_of_part c.leaf-leaf.result.now c.self.inside.path.here c.range.result.now i j
    c.saturating_sub-low.result c.min-high.result c.leaf-leaf.utf8 c.leaf-leaf.ensures h.ordered
    (omega (arith, c.saturating_sub-low.ensures, h.low, c.start-start.ensures))
    (omega (arith, c.min-high.ensures, h.high, c.start-start.ensures)) c.range.ensures.value)
