use Rattle.std.proofs.Common.{◌-◌, arith}
use Rattle.std.proofs.lemmas.Bool.{leb-true}
use Rattle.rope_leaf.proofs.CountsKept.{many, total_seen}
use Rattle.rope_leaf.proofs.search.count_rows.CountRows.holds.Goals as goal

pub returns-then-at_char-past-clause-within : goal.returns-then-at_char-past-clause-within
returns-then-at_char-past-clause-within c =
    λ _. omega (arith, many c.self.inside c.args.self.now c.self.view_is)

pub returns-then-at_char-past-clause-before : goal.returns-then-at_char-past-clause-before
returns-then-at_char-past-clause-before c = λ yes d later.
    let n = many c.self.inside c.args.self.now c.self.view_is in
    rw (total_seen c.self.inside c.args.self.now (c.args.place - 1) d c.self.view_is (omega arith))
    (rw c.at.ensures at (leb-true c.at.result c.args.at_char yes))

pub returns-then-at_char-past-clause-past : goal.returns-then-at_char-past-clause-past
returns-then-at_char-past-clause-past c = λ _ d.
    let n = many c.self.inside c.args.self.now c.self.view_is in
    rw (total_seen c.self.inside c.args.self.now c.args.place d c.self.view_is (omega arith))
    (rw c.at-past.ensures at c.if-at_char-past.true)
