use Rattle.std.proofs.Common.{◌≡◌, ◌⊎◌, inl, inr, [], length, ap, arith}
use Rattle.rope_changes.specs.Change.{inserting}
use Rattle.rope_changes.specs.Left.{Left}
use Rattle.rope_changes.specs.declared.side.Side.TheVariants.{Before, After}
use Rattle.rope_changes.proofs.RebaseSteps.{own_inserts, over_inserts, inserts_none}
use Rattle.rope_changes.proofs.rebase.rebase_next.Goals.{else-inserts-via-then-inserts+else-is_first, else-inserts-via-else-inserts}
use Rattle.rope_changes.proofs.rebase.rebase_next.Goals as goal

pub returns-then-is_first : goal.returns-then-is_first
returns-then-is_first c =
    let over = c.args.over.now in
    let first : (c.args.side ≡ Before) ⊎ (over.kept ≡ 0 → length over.text ≡ 0) = elim
    (c.is_first.ensures.first c.if-is_first.true) [
      | inl before ↦ inl before
      | inr none ↦ inr
          (inserts_none over (λ some. absurd (cc (c.inserts-over_inserts.ensures.1 some, none))))
    ] in
    let some = c.inserts.ensures.0 c.if-inserts.true in
    let count : c.own.inside.inserted
    ≡ length c.args.own.now.text = omega (arith, ap (λ (x : Left). length x.text) c.own.view_is) in
    own_inserts c.args.side _ _ over c.args.own.now.text _ c.requires.meet c.requires.over_loaded
    first c.take_text.ensures.passed some.1
    (omega (arith, some.1), omega (arith, ap length c.take_text.ensures.text))
    (ap (λ t. inserting t []) c.take_text.ensures.text)

pub returns-then-over_inserts : goal.returns-then-over_inserts
returns-then-over_inserts c =
    let own = c.args.own.now in
    let first : (c.args.side ≡ After) ⊎
    (own.kept ≡ 0 → length own.text ≡ 0) = elim c.else-inserts.branch [
      | else-inserts-via-then-inserts+else-is_first w ↦ inl
          (w.is_first.ensures.second w.if-is_first.false).0
      | else-inserts-via-else-inserts w ↦ inr
          (inserts_none own (λ some. absurd (cc (c.inserts.ensures.1 some, w.if-inserts.false))))
    ] in
    let some = c.inserts-over_inserts.ensures.0 c.if-over_inserts.true in
    let count : c.over.inside.inserted
    ≡ length c.args.over.now.text = omega
    (arith, ap (λ (x : Left). length x.text) c.over.view_is) in
    over_inserts c.args.side own _ _ c.args.over.now.text c.over.inside.inserted c.requires.meet
    c.requires.own_loaded first c.take_text-then-over_inserts.ensures.passed
    (omega (arith, some.1)) count
