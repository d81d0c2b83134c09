use Rattle.std.proofs.Common.{◌≡◌, length, get_or, set, ap, ◌∙◌, arith}
use Rattle.rope_changes.specs.Change.{ops}
use Rattle.rope_changes.specs.Moved.{moved}
use Rattle.rope_changes.proofs.Passing.{mapped_at, mapped_next, mapped_all, mapped_length}
use Rattle.rope_changes.proofs.change_set.ChangeSet.map_sorted.Goals as goal

pub map_from-requires-clause-within : goal.map_from-requires-clause-within
map_from-requires-clause-within c =
    let l = c.loop-next in
    let f = moved c.args.side (ops c.args.self.now) in
    let all = c.args.char_indices.now in
    let len : length l.char_indices ≡ length all = ap length l.invariant.moved
    ∙ mapped_length f l.next all in
    omega (
      arith,
      ap (λ xs. get_or xs l.next 0) l.invariant.moved,
      mapped_at f l.next 0 all,
      c.requires l.next 0 (omega (arith, len, c.loop-next-test.true)),
    )

pub loop-next-preserved : goal.loop-next-preserved
loop-next-preserved c =
    let l = c.loop-next in
    let f = moved c.args.side (ops c.args.self.now) in
    let all = c.args.char_indices.now in
    let i = l.next in
    let len : length l.char_indices ≡ length all = ap length l.invariant.moved
    ∙ mapped_length f i all in
    let here : get_or l.char_indices i 0
    ≡ get_or all i 0 = ap (λ xs. get_or xs i 0) l.invariant.moved ∙ mapped_at f i 0 all in
    record {
      moved = c.map_between-next.ensures.moved c.args.side all
          (ap (set l.char_indices i) (c.map_from.ensures.moved ∙ ap f here)
          ∙ ap (λ xs. set xs i (f (get_or all i 0))) l.invariant.moved
          ∙ mapped_next f i 0 all (omega (arith, len, c.loop-next-test.true)));
      passed = c.map_from.ensures.passed;
    }

pub returns : goal.returns
returns c =
    let l = c.loop-next in
    let f = moved c.args.side (ops c.args.self.now) in
    let all = c.args.char_indices.now in
    let len : length l.char_indices ≡ length all = ap length l.invariant.moved
    ∙ mapped_length f l.next all in
    l.invariant.moved ∙ mapped_all f l.next all (omega (arith, len, c.loop-next-test.false))
