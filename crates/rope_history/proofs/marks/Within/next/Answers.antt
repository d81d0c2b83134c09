use Rattle.std.proofs.Common.{get_or, sym, ◌∙◌, refl, arith}
use Rattle.rope_history.specs.MarkLists.{mark_at}
use Rattle.rope_history.proofs.OrderLaws.{past_last, skipped, taken}
use Rattle.rope_history.proofs.marks.Within.next.Goals as goal

pub returns-then-mark-self : goal.returns-then-mark-self
returns-then-mark-self c =
    let inside = c.loop-self.self-inside in
    let marks = inside.marks.now in
    let order = inside.order.now in
    let kept = c.loop-self.invariant in
    let m = mark_at marks (get_or order inside.index 0) in
    let none = past_last inside.start inside.end marks order inside.index m kept.in_order
    c.loop-self-test.true refl c.if-mark-self.true in
    (sym c.self.view_is ∙ sym kept.left ∙ none, none)

pub returns-then-mark-self-2 : goal.returns-then-mark-self-2
returns-then-mark-self-2 c =
    let inside = c.loop-self.self-inside in
    let marks = inside.marks.now in
    let order = inside.order.now in
    let m = mark_at marks (get_or order inside.index 0) in
    sym c.self.view_is ∙ sym c.loop-self.invariant.left
    ∙ taken inside.start inside.end marks order inside.index m c.loop-self-test.true refl
    c.if-mark-self.false c.if-mark-self-2.true

pub loop-self-preserved : goal.loop-self-preserved
loop-self-preserved c =
    let inside = c.loop-self.self-inside in
    let marks = inside.marks.now in
    let order = inside.order.now in
    let kept = c.loop-self.invariant in
    let m = mark_at marks (get_or order inside.index 0) in
    record {
      within = omega (arith, c.loop-self-test.true);
      in_range = kept.in_range;
      in_order = kept.in_order;
      left = sym (skipped inside.start inside.end marks order inside.index m c.loop-self-test.true
          refl c.if-mark-self.false c.if-mark-self-2.false) ∙ kept.left;
    }
