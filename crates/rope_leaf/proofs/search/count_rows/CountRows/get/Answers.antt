use Rattle.std.proofs.Common.{refl, arith}
use Rattle.rope_leaf.proofs.CountsKept.{many, total_seen}
use Rattle.rope_leaf.proofs.search.count_rows.CountRows.get.Goals as goal

pub at-requires : goal.at-requires
at-requires c =
    omega (
      arith,
      many c.self.inside c.args.self.now c.self.view_is,
      c.self.invariant.few,
      c.self.invariant.bytes,
      c.requires,
    )

pub at-requires-2 : goal.at-requires-2
at-requires-2 c =
    omega (
      arith,
      many c.self.inside c.args.self.now c.self.view_is,
      c.self.invariant.few,
      c.self.invariant.chars,
      c.requires,
    )

pub at-requires-3 : goal.at-requires-3
at-requires-3 c =
    omega (
      arith,
      many c.self.inside c.args.self.now c.self.view_is,
      c.self.invariant.few,
      c.self.invariant.pairs,
      c.requires,
    )

pub at-requires-4 : goal.at-requires-4
at-requires-4 c =
    omega (
      arith,
      many c.self.inside c.args.self.now c.self.view_is,
      c.self.invariant.few,
      c.self.invariant.breaks,
      c.requires,
    )

pub returns : goal.returns
returns c =
    λ d. rw (
      total_seen c.self.inside c.args.self.now c.args.place d c.self.view_is c.requires,
      c.at.ensures,
      c.at-2.ensures,
      c.at-3.ensures,
      c.at-4.ensures,
    ) refl
