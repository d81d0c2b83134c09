use Rattle.std.proofs.Common.{◌≡◌, ◌-◌, length, take, drop, refl, sym, ap, subst, ◌∙◌, arith}
use Rattle.rope_leaf.specs.Siblings.{gathered}
use Rattle.rope_tree.proofs.BuildLaws.{back_of}
use Rattle.rope_join.specs.Join.{CanJoin}
use Rattle.rope_join.proofs.Ends.{family_before, family_after, low_before, low_after, join_before, join_after}
use Rattle.rope_join.proofs.gap.put_at_end.Goals.{In_ok-after, In_ok-before}
use Rattle.rope_join.proofs.gap.put_at_end.Goals as goal

pub gather-requires-clause-family : goal.gather-requires-clause-family
gather-requires-clause-family c =
    let ts = c.args.children.now in
    rw (back_of ts (take (length ts - c.args.past) (drop c.args.past ts)) c.args.past refl)
    (family_after ts c.requires.children c.args.past)

after : (c : In_ok-after) → c.in_ok-after.after ≡ gathered (drop c.args.past c.args.children.now)
after c =
    let ts = c.args.children.now in
    c.in_ok-after.ensures.ok
    ∙ ap gathered (back_of ts (take (length ts - c.args.past) (drop c.args.past ts)) c.args.past
    refl)

pub join-requires : goal.join-requires
join-requires c =
    subst (CanJoin c.args.part.now) (sym (after (goal.at.join-requires c).In_ok-after))
    (join_after c.args.children.now c.requires.children c.args.first c.args.past c.args.part.now
    c.requires.put (omega (arith, c.if-past-children.true)))

pub returns-then-past-children-clause-made : goal.returns-then-past-children-clause-made
returns-then-past-children-clause-made c =
    let e = (goal.at.returns-then-past-children-clause-made c).In_ok-after in
    omega (
      arith,
      c.join.ensures.made,
      c.in_ok-after.ensures.made,
      ap (λ t. t.height) (after e),
      low_after c.args.children.now c.requires.children c.args.first c.args.past c.args.part.now
          c.requires.put (omega (arith, c.if-past-children.true)),
      c.requires.put.not_higher,
    )

pub gather-requires-2-clause-family : goal.gather-requires-2-clause-family
gather-requires-2-clause-family c =
    let ts = c.args.children.now in
    family_before ts c.requires.children c.args.first
    (omega (arith, c.requires.put.ordered, c.requires.put.within))

before : (c : In_ok-before) → c.in_ok-before.before
    ≡ gathered (take c.args.first c.args.children.now)
before c = c.in_ok-before.ensures.ok

pub join-requires-2 : goal.join-requires-2
join-requires-2 c =
    subst (λ t. CanJoin t c.args.part.now) (sym (before (goal.at.join-requires-2 c).In_ok-before))
    (join_before c.args.children.now c.requires.children c.args.first c.args.past c.args.part.now
    c.requires.put (c.requires.put.at_end
    (omega (arith, c.if-past-children.false, c.requires.put.within))))

pub returns-clause-made : goal.returns-clause-made
returns-clause-made c =
    let e = (goal.at.returns-clause-made c).In_ok-before in
    omega (
      arith,
      c.join-2.ensures.made,
      c.in_ok-before.ensures.made,
      ap (λ t. t.height) (before e),
      low_before c.args.children.now c.requires.children c.args.first c.args.past c.args.part.now
          c.requires.put (c.requires.put.at_end
          (omega (arith, c.if-past-children.false, c.requires.put.within))),
      c.requires.put.not_higher,
    )
