-- The end of the first leaf of a longer text.
use Rattle.std.proofs.Common.{arith, subst, sym, IsTrue}
use Rattle.rope_text.specs.Cuts.{is_cut}
use Rattle.std.specs.Str.{IsCharBoundary}
use Rattle.rope_text.proofs.CutFacts.{cut_near, boundary_of_cut}
use Rattle.rope_leaf.proofs.node_text.first_leaf_len.Goals as goal

pub returns-clause-boundary : goal.returns-clause-boundary
returns-clause-boundary c =
    subst (λ bs. IsCharBoundary bs c.prev_break.result) c.as_bytes.ensures.value
    (boundary_of_cut c.as_bytes.result.now c.prev_break.result c.as_bytes.ensures.utf8
    (omega (arith, c.prev_break.ensures.bound, c.as_bytes.ensures.len)) c.prev_break.ensures.cut)

pub returns-clause-long : goal.returns-clause-long
returns-clause-long c =
    let near =
    cut_near c.as_bytes.result.now 981 c.as_bytes.ensures.utf8 (omega arith)
    (omega (arith, c.as_bytes.ensures.len)) in
    omega (arith, c.prev_break.ensures.nearest near.0 (omega (arith, near.2)) near.3, near.1)

pub returns-clause-last : goal.returns-clause-last
returns-clause-last c = λ k low cut.
    c.prev_break.ensures.nearest k (omega arith)
    (subst (λ bs. IsTrue (is_cut bs k)) (sym c.as_bytes.ensures.value) cut)
