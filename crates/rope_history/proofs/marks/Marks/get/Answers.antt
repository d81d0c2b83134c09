use Rattle.std.proofs.Common.{◌≡◌, ◌≢◌, ◌<◌, length, get_or, ap, sym, ◌∙◌, subst, arith}
use Rattle.std.specs.List.{All, Contains}
use Rattle.rope_history.specs.declared.marks.Mark.{Mark}
use Rattle.rope_history.specs.Marking.{Marking, id_of}
use Rattle.rope_history.proofs.OrderLaws.{found_in, all_in}
use Rattle.rope_history.proofs.marks.Marks.get.Goals as goal

pub returns-then-index-len-clause-found : goal.returns-then-index-len-clause-found
returns-then-index-len-clause-found c =
    let marks = c.self.inside.marks.items in
    let order = c.self.inside.order.items in
    let index = c.index_of-index.result in
    let m = c.index.result.now in
    let slice = c.as_slice.ensures in
    let at : index < length marks =
    omega (arith, c.if-index-len.true, c.len.ensures, slice.len, ap length slice.value) in
    let same : m ≡ get_or c.as_slice.result.now index m =
    c.index.ensures ∙ ap (λ ms. get_or ms index m) (sym slice.value) in
    let held = found_in marks order index m at (c.self.invariant.covers index at) in (
      ap id_of same
          ∙ c.index_of-index.ensures.found m (omega (arith, at, ap length slice.value)),
      subst (λ (s : Marking). Contains s.marks m) c.self.view_is
          (subst (Contains _) (sym c.index.ensures) held),
    )

pub returns-clause-none : goal.returns-clause-none
returns-clause-none c =
    let marks = c.self.inside.marks.items in
    let order = c.self.inside.order.items in
    let slice = c.as_slice.ensures in
    let Other : Mark → Type 0 = λ m. m.id ≢ c.args.id in
    let none = c.index_of-index.ensures.none
    (omega (
      arith,
      c.if-index-len.false,
      c.len.ensures,
      slice.len,
      c.index_of-index.ensures.within,
    )) in
    subst (λ (s : Marking). All Other s.marks) c.self.view_is
    (all_in Other marks order (subst (All Other) slice.value none) c.self.invariant.within)
