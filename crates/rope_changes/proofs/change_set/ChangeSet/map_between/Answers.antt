use Rattle.std.proofs.Common.{◌≡◌, ◌+◌, ◌-◌, ◌%◌, ◌^◌, length, get_or, set, ap, ◌∙◌, arith, rules}
use Rattle.rope_changes.specs.Change.{ops}
use Rattle.rope_changes.specs.Moved.{moved}
use Rattle.rope_changes.proofs.Passing.{offset_is, mapped_at, mapped_next, mapped_length}
use Rattle.rope_changes.proofs.change_set.ChangeSet.map_between.Goals as goal

pub loop-next-preserved : goal.loop-next-preserved
loop-next-preserved c =
    let l = c.loop-next in
    let i = l.next in
    record {
      moved = λ side all is.
          let f = moved side (ops c.args.self.now) in
          let now = l.invariant.moved side all is in
          let len : length l.char_indices ≡ length all = ap length now
          ∙ mapped_length f i all in
          let here : get_or l.char_indices i 0 ≡ get_or all i 0 = ap (λ xs. get_or xs i 0) now
          ∙ mapped_at f i 0 all in
          let x = get_or l.char_indices i 0 in
          let first = c.args.passed.now.end + 1 in
          let count = c.saturating_sub-count.result in
          let is = offset_is x first count (omega arith) (omega arith) (omega arith) in
          let goes = c.requires.between.moves side x (omega arith) (omega arith) in
          let to : c.args.passed.now.new_end + 1 + (x + (2 ^ 64 - first)) % 2 ^ 64
          ≡ f x = omega (arith, is, goes) in
          ap (set l.char_indices i) (to ∙ ap f here)
          ∙ ap (λ xs. set xs i (f (get_or all i 0))) now
          ∙ mapped_next f i 0 all (omega (arith, len, c.loop-next-test.true));
      later = omega arith;
      within = search rules;
    }
