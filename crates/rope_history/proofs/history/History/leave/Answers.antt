use Rattle.std.proofs.Common.{Some, length, get_or, take, ap, sym, ◌∙◌, subst, arith}
use Rattle.std.proofs.lemmas.List.{take_all, take_more}
use Rattle.rope_history.specs.Versions.{Versions, IsHistory, IsAscent, back_at, ascended}
use Rattle.rope_history.proofs.VersionLaws.{up_is_history, ascent_at, ascent_take, ascended_more}
use Rattle.rope_history.proofs.history.History.leave.Goals.{After-loop-parent, After-row_known-1}
use Rattle.rope_history.proofs.history.History.leave.Goals as goal

pub loop-parent-init : goal.loop-parent-init
loop-parent-init c = record { items = c.deref-parent-items.ensures.value; up = c.self.view_is }

pub invariant_of-self : goal.invariant_of-self
invariant_of-self c =
    let h = c.args.self.now in
    let items = c.deref-parent-items.result.now in
    let i = c.loop-parent.parent-index in
    let way : IsAscent h items =
    subst (IsAscent h) (sym c.loop-parent.invariant.items) c.requires in
    let kept : IsHistory h = subst IsHistory c.self.view_is c.self.invariant in
    subst IsHistory (sym c.loop-parent.invariant.up)
    (up_is_history h (take i items) kept (ascent_take h items i way))

pub index_mut-requires : goal.index_mut-requires
index_mut-requires c =
    let h = c.args.self.now in
    let items = c.deref-parent-items.result.now in
    let i = c.loop-parent.parent-index in
    let way : IsAscent h items =
    subst (IsAscent h) (sym c.loop-parent.invariant.items) c.requires in
    let was : IsHistory h = subst IsHistory c.self.view_is c.self.invariant in
    let g = ascended h (take i items) in
    let kept : IsHistory g = up_is_history h (take i items) was (ascent_take h items i way) in
    let at = ascent_at h items i c.loop-parent-test.true way in
    let less = kept.earlier g.current (get_or items i 0) kept.within at in
    let len = ap (λ (s : Versions). length s.redo) c.loop-parent.invariant.up in
    omega (arith, less, len, kept.within, kept.marked)

pub loop-parent-preserved : goal.loop-parent-preserved
loop-parent-preserved c =
    let h = c.args.self.now in
    let items = c.deref-parent-items.result.now in
    let i = c.loop-parent.parent-index in
    let p = get_or items i 0 in
    record {
      items = c.loop-parent.invariant.items;
      up = ap (λ (s : Versions). back_at s (Some p)) c.loop-parent.invariant.up
          ∙ sym (ascended_more h (take i items) p)
          ∙ ap (ascended h) (sym (take_more items i 0 c.loop-parent-test.true));
    }

pub returns : goal.returns
returns c =
    let items = c.deref-parent-items.result.now in
    let i = c.loop-parent.parent-index in
    c.loop-parent.invariant.up
    ∙ ap (ascended c.args.self.now)
    (take_all i items c.loop-parent-test.false ∙ c.loop-parent.invariant.items)
