use Rattle.std.proofs.Common.{◌≡◌, ◌-◌, ◌≤◌, ap, sym, arith}
use Rattle.rope_changes.specs.Change.{inserting, deleting}
use Rattle.rope_changes.specs.Moved.{moved}
use Rattle.rope_changes.proofs.Prefixes.{kept_stays, kept_passed}
use Rattle.rope_changes.proofs.Steps.{step_moved}
use Rattle.rope_changes.proofs.replacements.Lengths.map.Goals as goal

pub returns-then-left-self-clause-moved : goal.returns-then-left-self-clause-moved
returns-then-left-self-clause-moved c =
    λ text rest counted starts. sym
    (kept_stays c.args.side c.args.self.kept c.args.left _ c.if-left-self.true)

pub returns-then-stays-clause-moved : goal.returns-then-stays-clause-moved
returns-then-stays-clause-moved c = λ text rest counted starts.
    let l = c.args.self in
    let after = inserting text (deleting l.deleted rest) in
    let kept : l.kept ≤ c.args.left = omega (arith, c.if-left-self.false) in
    omega (
      arith,
      kept_passed c.args.side l.kept c.args.left after kept,
      c.stays.ensures.stays c.if-stays.true after,
    )

pub returns-clause-moved : goal.returns-clause-moved
returns-clause-moved c = λ text rest counted starts.
    let l = c.args.self in
    let kept : l.kept ≤ c.args.left = omega (arith, c.if-left-self.false) in
    let ends : c.args.left - l.kept - l.deleted ≡ 0 = omega (arith, c.requires.within) in
    omega (
      arith,
      step_moved l.kept text l.deleted rest c.args.side c.args.left kept
          (c.stays.ensures.passes c.if-stays.false text (deleting l.deleted rest)),
      ap (moved c.args.side rest) ends,
      starts,
      counted,
    )
