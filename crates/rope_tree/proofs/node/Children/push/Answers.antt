use Rattle.std.proofs.Common.{◌≡◌, ◌+◌, [], ◌∷◌, ◌++◌, length, get_or, refl, sym, ap, ◌∙◌, arith}
use Rattle.std.proofs.lemmas.List.{length-append, get_or_append_left}
use Rattle.std.proofs.Math.Seq.{get_or-append_seam}
use Rattle.rope_text.specs.TextInfo.{info_of}
use Rattle.rope_leaf.specs.Tree.{joined, breaks_of}
use Rattle.rope_tree.specs.NewList.{new_list}
use Rattle.rope_leaf.specs.Totals.{IsTotalOf}
use Rattle.rope_leaf.proofs.Infos.{info_within, sum_of_small}
use Rattle.rope_tree.proofs.RowLaws.{AddsTree, adds_tree, last_counts_all}
use Rattle.rope_tree.proofs.MoveLaws.{push_listed}
use Rattle.rope_tree.proofs.node.Children.push.Goals.{After-info, After-plus-total}
use Rattle.rope_tree.proofs.node.Children.push.Goals as goal

-- the counts of all children
told : (c : After-info) → IsTotalOf c.args.self.now c.total_before.result
told c =
    let i = c.self.invariant in
    rw c.self.view_is at (last_counts_all (new_list c.self.inside.totals c.self.inside.nodes)
    c.len-len.result c.total_before.result
    (record { room = i.room; totals_right = i.totals_right; places = i.places })
    c.len-len.ensures c.total_before.ensures.first c.total_before.ensures.later)

adds : (c : After-info) → AddsTree c.args.self.now c.args.node c.total_before.result c.info.result
adds c =
    adds_tree c.args.self.now c.args.node c.requires.level c.total_before.result c.info.result
    (told c) c.info.ensures.value

total : (c : After-plus-total) → c.plus-total.result
    ≡ info_of (breaks_of (c.args.self.now ++ c.args.node ∷ []))
    (joined (c.args.self.now ++ c.args.node ∷ []))
total c = c.plus-total.ensures.sum ∙ sym (adds (goal.at.After-plus-total c).After-info).sum

pub plus-total-requires : goal.plus-total-requires
plus-total-requires c =
    let a = adds c in
    sum_of_small _ _ a.small_before a.small_own

pub push_fitting-requires-clause-narrow : goal.push_fitting-requires-clause-narrow
push_fitting-requires-clause-narrow c narrow =
    let ts = c.args.self.now ++ c.args.node ∷ [] in
    let low =
    info_within (breaks_of ts) (joined ts) 4294967295 (omega (arith, c.requires.few)) in
    rw (total (goal.at.push_fitting-requires-clause-narrow c).After-plus-total) (record {
      bytes = omega (arith, low.bytes);
      chars = omega (arith, low.chars);
      pairs = omega (arith, low.pairs);
      breaks = omega (arith, low.breaks);
    })

pub invariant_of-self : goal.invariant_of-self
invariant_of-self c =
    let e = c.push_fitting.ensures in
    push_listed c.self.inside _ c.args.self.now c.args.node c.len-len.result c.plus-total.result
    c.self.invariant c.self.view_is c.requires.level c.requires.room c.len-len.ensures
    (ap length e ∙ length-append c.self.inside.totals _)
    (λ j d lt. ap (λ l. get_or l j d) e
    ∙ get_or_append_left c.self.inside.totals _ d j (omega (arith, lt, c.len-len.ensures)))
    (λ d. ap (λ l. get_or l c.len-len.result d) e
    ∙ ap (λ n. get_or (c.self.inside.totals ++ c.plus-total.result ∷ []) n d) c.len-len.ensures
    ∙ get_or-append_seam c.self.inside.totals c.plus-total.result [] d)
    (total (goal.at.invariant_of-self c).After-plus-total)
    refl
    (ap (λ m. m + 1) c.height.ensures.value)
    c.line_breaks-self-inside.ensures
