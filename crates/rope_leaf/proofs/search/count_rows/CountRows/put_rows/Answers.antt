-- The totals from the index on are those of the other list.
use Rattle.std.proofs.Common.{length, refl, sym, ◌∙◌, arith}
use Rattle.rope_leaf.proofs.CountsKept.{many, longer, kept_totals, moved_totals, joined_totals, first_totals, first_many, first_seen}
use Rattle.rope_leaf.proofs.search.count_rows.CountRows.put_rows.Goals as goal

pub put_row-requires-clause-room : goal.put_row-requires-clause-room
put_row-requires-clause-room c =
    omega (
      arith,
      c.requires.room,
      c.self.invariant.bytes,
      many c.self.inside c.args.self.now c.self.view_is,
    )

pub put_row-requires-clause-within : goal.put_row-requires-clause-within
put_row-requires-clause-within c =
    omega (
      arith,
      c.requires.within,
      c.others.invariant.bytes,
      c.others.invariant.few,
      many c.others.inside c.args.others.now c.others.view_is,
    )

pub put_row-requires-2-clause-room : goal.put_row-requires-2-clause-room
put_row-requires-2-clause-room c =
    omega (
      arith,
      c.requires.room,
      c.self.invariant.chars,
      many c.self.inside c.args.self.now c.self.view_is,
    )

pub put_row-requires-2-clause-within : goal.put_row-requires-2-clause-within
put_row-requires-2-clause-within c =
    omega (
      arith,
      c.requires.within,
      c.others.invariant.chars,
      c.others.invariant.few,
      many c.others.inside c.args.others.now c.others.view_is,
    )

pub put_row-requires-3-clause-room : goal.put_row-requires-3-clause-room
put_row-requires-3-clause-room c =
    omega (
      arith,
      c.requires.room,
      c.self.invariant.pairs,
      many c.self.inside c.args.self.now c.self.view_is,
    )

pub put_row-requires-3-clause-within : goal.put_row-requires-3-clause-within
put_row-requires-3-clause-within c =
    omega (
      arith,
      c.requires.within,
      c.others.invariant.pairs,
      c.others.invariant.few,
      many c.others.inside c.args.others.now c.others.view_is,
    )

pub put_row-requires-4-clause-room : goal.put_row-requires-4-clause-room
put_row-requires-4-clause-room c =
    omega (
      arith,
      c.requires.room,
      c.self.invariant.breaks,
      many c.self.inside c.args.self.now c.self.view_is,
    )

pub put_row-requires-4-clause-within : goal.put_row-requires-4-clause-within
put_row-requires-4-clause-within c =
    omega (
      arith,
      c.requires.within,
      c.others.invariant.breaks,
      c.others.invariant.few,
      many c.others.inside c.args.others.now c.others.view_is,
    )

pub invariant_of-self : goal.invariant_of-self
invariant_of-self c =
    first_totals c.others.inside c.args.others.now c.args.count c.others.invariant c.others.view_is
    (omega (arith, c.requires.within))

pub returns-then-from-eq0-clause-len : goal.returns-then-from-eq0-clause-len
returns-then-from-eq0-clause-len c =
    omega (
      arith,
      first_many c.others.inside c.args.others.now c.args.count c.others.invariant
          c.others.view_is (omega (arith, c.requires.within)),
      many c.self.inside c.args.self.now c.self.view_is,
      c.if-len-eq0.true,
    )

pub returns-then-from-eq0-clause-following : goal.returns-then-from-eq0-clause-following
returns-then-from-eq0-clause-following c = λ j d lt.
    first_seen c.others.inside c.args.others.now c.args.count c.others.invariant c.others.view_is
    (omega (arith, c.requires.within)) (length c.args.self.now) c.args.from j d
    (sym (many c.self.inside c.args.self.now c.self.view_is) ∙ c.if-len-eq0.true) c.if-from-eq0.true
    lt

pub invariant_of-self-2 : goal.invariant_of-self-2
invariant_of-self-2 c =
    joined_totals c.self.inside _ c.args.self.now c.self.invariant c.self.view_is c.others.inside
    c.args.others.now c.args.from c.args.count c.others.invariant c.others.view_is c.requires.within
    c.requires.room
    refl c.put_row.ensures c.put_row-2.ensures c.put_row-3.ensures c.put_row-4.ensures

pub returns-clause-len : goal.returns-clause-len
returns-clause-len c =
    longer c.self.inside _ c.args.self.now c.self.invariant c.self.view_is c.others.inside
    c.args.others.now c.args.from c.args.count c.others.invariant c.others.view_is c.requires.within
    c.requires.room
    refl c.put_row.ensures c.put_row-2.ensures c.put_row-3.ensures c.put_row-4.ensures

pub returns-clause-before : goal.returns-clause-before
returns-clause-before c =
    kept_totals c.self.inside _ c.args.self.now c.self.invariant c.self.view_is c.others.inside
    c.args.others.now c.args.from c.args.count c.others.invariant c.others.view_is c.requires.within
    c.requires.room
    refl c.put_row.ensures c.put_row-2.ensures c.put_row-3.ensures c.put_row-4.ensures

pub returns-clause-following : goal.returns-clause-following
returns-clause-following c =
    moved_totals c.self.inside _ c.args.self.now c.self.invariant c.self.view_is c.others.inside
    c.args.others.now c.args.from c.args.count c.others.invariant c.others.view_is c.requires.within
    c.requires.room
    refl c.put_row.ensures c.put_row-2.ensures c.put_row-3.ensures c.put_row-4.ensures
