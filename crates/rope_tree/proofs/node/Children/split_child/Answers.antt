use Rattle.std.proofs.Common.{◌≡◌, ℕ, ◌+◌, ◌-◌, ◌<◌, ◌≤◌, ◌^◌, List, [], ◌∷◌, length, get_or, set, take, ap, refl, ◌∙◌, arith}
use Rattle.std.specs.List.{insert}
use Rattle.std.proofs.lemmas.List.{length-set}
use Rattle.std.proofs.lemmas.List.Edits.{length-insert}
use Rattle.rope_text.specs.declared.line_breaks.LineBreaks.{LineBreaks}
use Rattle.rope_text.specs.declared.text_info.TextInfo.{TextInfo}
use Rattle.rope_text.specs.Text.{byte_len}
use Rattle.rope_text.specs.TextInfo.{info_of, info_sum}
use Rattle.rope_text.specs.Edit.{inserted}
use Rattle.rope_leaf.specs.Search.{IsSmall}
use Rattle.rope_leaf.specs.Tree.{Tree, text, joined, height_of, breaks_of, AreChildren}
use Rattle.rope_leaf.specs.Totals.{HasTotals}
use Rattle.rope_tree.specs.Listed.{listed}
use Rattle.rope_leaf.specs.Insert.{IsInserted, AreGrown}
use Rattle.rope_leaf.proofs.Infos.{small_info, small_below, sum_of_small}
use Rattle.rope_leaf.proofs.TreeLaws.{breaks_of_is}
use Rattle.rope_leaf.proofs.NodeLaws.{byte_len-joined, small_totals}
use Rattle.rope_leaf.proofs.Descents.{front_is}
use Rattle.rope_leaf.proofs.InsertDescents.{last_total}
use Rattle.rope_leaf.proofs.InsertTrees.{byte_len-inserted}
use Rattle.rope_leaf.proofs.GrownLaws.{totals_seen, children_grown, grown_by_one}
use Rattle.rope_tree.proofs.FormLaws.{not_tried}
use Rattle.rope_tree.proofs.KeptLaws.{unset, same_seen, same_listed, refused, right_within}
use Rattle.rope_tree.proofs.ListedLaws.{put_in_place, more_seen, more_listed}
use Rattle.rope_tree.proofs.ChildLaws.{Finds, found_at, read, part, child_fits, may, small, still_narrow, fields_after, all_grown}
use Rattle.rope_tree.proofs.CutLaws.{Cuts, own_first, own_second, small_both, cut_fits, few_bytes, first_narrow, totals_cut}
use Rattle.rope_tree.proofs.node.Children.split_child.Goals.{After-info-old, After-info-front, After-put_after, then-count-ge-MAX_CHILDREN-via-then-count-ge-MAX_CHILDREN, then-count-ge-MAX_CHILDREN-via-else-count-ge-MAX_CHILDREN+then-not-has_room_for}
use Rattle.rope_tree.proofs.node.Children.split_child.Goals as goal

-- the child that takes the text, before it is split
found : (c : After-info-old)
    → Finds c.self.inside c.args.self.now c.branch_at-place.result.place
    (get_or c.self.inside.nodes c.branch_at-place.result.place c.index-self-place.result) c.args.at
    c.branch_at-place.result.inside c.args.to_right
found c =
    found_at c.self.inside c.args.self.now c.branch_at-place.result.place c.index-self-place.result
    c.args.at c.branch_at-place.result.inside c.args.to_right
    c.self.view_is c.self.invariant c.requires.children c.branch_at-place.ensures.child
    c.branch_at-place.ensures.place c.branch_at-place.ensures.goes

-- the child after the split
abbrev child : After-info-front → Tree
child c = get_or c.self.inside.nodes c.branch_at-place.result.place c.index-self-place.result

split_at_child : (c : After-info-front)
    → Finds c.self.inside c.args.self.now c.branch_at-place.result.place (child c) c.args.at
    c.branch_at-place.result.inside c.args.to_right
split_at_child c =
    found_at c.self.inside c.args.self.now c.branch_at-place.result.place c.index-self-place.result
    c.args.at c.branch_at-place.result.inside c.args.to_right
    c.self.view_is c.self.invariant c.requires.children c.branch_at-place.ensures.child
    c.branch_at-place.ensures.place c.branch_at-place.ensures.goes

pub cut-requires-clause-takes : goal.cut-requires-clause-takes
cut-requires-clause-takes c =
    let f = found (goal.at.cut-requires-clause-takes c).After-info-old in
    record {
      within = f.taken.goes.within;
      some = c.requires.takes.some;
      fits = child_fits _ _ _ _ _ _ _ f c.args.added.now c.requires.takes.some c.requires.side
          c.requires.takes.fits;
    }

pub cut-requires-clause-side : goal.cut-requires-clause-side
cut-requires-clause-side c =
    may _ _ _ _ _ _ _ (found (goal.at.cut-requires-clause-side c).After-info-old) c.args.added.now
    c.requires.takes.some c.requires.side c.requires.takes.fits

pub returns-in_err-cut-clause-made : goal.returns-in_err-cut-clause-made
returns-in_err-cut-clause-made c =
    omega (
      arith,
      c.cut.ensures.made,
      (found (goal.at.returns-in_err-cut-clause-made c).After-info-old).taken.own.at_height,
    )

pub returns-in-Kept-clause-idle_above : goal.returns-in-Kept-clause-idle_above
returns-in-Kept-clause-idle_above c =
    λ no above. absurd (omega (
      arith,
      above,
      c.in_ok-cut.ensures.inner c.in-Kept.is,
      (found (goal.at.returns-in-Kept-clause-idle_above c).After-info-old).taken.own.at_height,
    ))

pub returns-in-Kept-clause-full : goal.returns-in-Kept-clause-full
returns-in-Kept-clause-full c =
    λ no above few. absurd (omega (
      arith,
      above,
      c.in_ok-cut.ensures.inner c.in-Kept.is,
      (found (goal.at.returns-in-Kept-clause-full c).After-info-old).taken.own.at_height,
    ))

-- the list is full, or the text would be too long for its totals
pub returns-then-count-ge-MAX_CHILDREN-clause-full :
    goal.returns-then-count-ge-MAX_CHILDREN-clause-full
returns-then-count-ge-MAX_CHILDREN-clause-full c = λ no above few.
    let ts = c.args.self.now in
    elim c.then-count-ge-MAX_CHILDREN.branch [
      | then-count-ge-MAX_CHILDREN-via-then-count-ge-MAX_CHILDREN w ↦
          absurd (omega (
            arith,
            few,
            w.if-count-ge-MAX_CHILDREN.true,
            c.len-count.ensures,
            c.self.invariant.totals_right.as_many,
            ap length c.self.view_is,
          ))
      | then-count-ge-MAX_CHILDREN-via-else-count-ge-MAX_CHILDREN+then-not-has_room_for w ↦
          let d = info_of (breaks_of ts) [] in
          let t = totals_seen (listed c.self.inside) ts c.self.inside.totals c.self.inside.totals
          c.self.view_is refl c.self.invariant.totals_right in
          let last =
          last_total (breaks_of ts) c.self.inside.totals ts t
          (omega (arith, c.requires.children.at_least_two)) d in
          omega (
            arith,
            w.has_room_for.ensures.none w.if-not-has_room_for.true d,
            ap (λ x. x.bytes) last,
            w.len.ensures.value,
          )
    ]

pub returns-clause-made : goal.returns-clause-made
returns-clause-made c =
    omega (
      arith,
      c.cut.ensures.made,
      (found (goal.at.returns-clause-made c).After-info-old).taken.own.at_height,
    )

-- a child that took the text
pub retotal-requires-clause-small : goal.retotal-requires-clause-small
retotal-requires-clause-small c =
    let f = found (goal.at.retotal-requires-clause-small c).After-info-old in
    small_totals (breaks_of c.args.self.now) c.self.inside.totals c.args.self.now
    (read _ _ _ _ _ _ _ f c.self.inside.totals refl) c.requires.children.fits

pub retotal-requires-clause-part : goal.retotal-requires-clause-part
retotal-requires-clause-part c =
    part _ _ _ _ _ _ _ (found (goal.at.retotal-requires-clause-part c).After-info-old)
    c.self.inside.totals refl c.info-old.result c.info-old.ensures.value

pub retotal-requires-clause-new : goal.retotal-requires-clause-new
retotal-requires-clause-new c =
    small_below c.info-new.result
    (small _ _ _ _ _ _ _ (found (goal.at.retotal-requires-clause-new c).After-info-old)
    c.args.added.now c.requires.takes.some c.requires.side c.requires.takes.fits c.cut.new.self
    (rw c.in-Grown.is at c.in_ok-cut.ensures.cut) c.info-new.result c.info-new.ensures.value)

pub retotal-requires-clause-fits : goal.retotal-requires-clause-fits
retotal-requires-clause-fits c =
    still_narrow _ _ _ _ _ _ _ (found (goal.at.retotal-requires-clause-fits c).After-info-old)
    c.args.added.now c.requires.takes.some c.requires.side c.requires.takes.fits c.cut.new.self
    (rw c.in-Grown.is at c.in_ok-cut.ensures.cut)
    c.self.inside.totals refl
    (rw c.len.ensures.value at c.has_room_for.ensures.room c.if-not-has_room_for.false)
    c.info-old.result c.info-new.result c.info-old.ensures.value c.info-new.ensures.value

pub invariant_of-self-in-Grown : goal.invariant_of-self-in-Grown
invariant_of-self-in-Grown c =
    fields_after _ _ _ _ _ _ _ (found (goal.at.invariant_of-self-in-Grown c).After-info-old)
    c.args.added.now c.requires.takes.some c.requires.side c.requires.takes.fits c.cut.new.self
    (rw c.in-Grown.is at c.in_ok-cut.ensures.cut)
    _ refl refl refl c.self.inside.totals c.retotal.new.self c.info-old.result c.info-new.result
    refl c.info-old.ensures.value c.info-new.ensures.value c.retotal.ensures.len
    c.retotal.ensures.before c.retotal.ensures.after refl

pub returns-in-Grown-clause-made : goal.returns-in-Grown-clause-made
returns-in-Grown-clause-made c =
    omega (
      arith,
      c.cut.ensures.made,
      (found (goal.at.returns-in-Grown-clause-made c).After-info-old).taken.own.at_height,
    )

pub returns-in-Grown-clause-tried : goal.returns-in-Grown-clause-tried
returns-in-Grown-clause-tried c = record {
  done = λ yes.
      all_grown _ _ _ _ _ _ _ (found (goal.at.returns-in-Grown-clause-tried c).After-info-old)
      c.args.added.now c.requires.takes.some c.requires.side c.requires.takes.fits c.cut.new.self
      (rw c.in-Grown.is at c.in_ok-cut.ensures.cut)
      (record { height = _; breaks = _; last = c.self.inside.last; totals = _; nodes = _ }) refl
      refl refl c.self.inside.totals c.retotal.new.self c.info-old.result c.info-new.result refl
      c.info-old.ensures.value c.info-new.ensures.value c.retotal.ensures.len
      c.retotal.ensures.before c.retotal.ensures.after refl;
  kept = λ no. cc;
  err = tt;
}

-- the children with both halves of the split child
abbrev parts : After-info-front → List Tree
parts c =
    insert (set c.args.self.now c.branch_at-place.result.place c.cut.new.self)
    (c.branch_at-place.result.place + 1) c.in-Split.back

split_is : (c : After-info-front)
    → AreGrown c.args.self.now (parts c)
    (inserted (joined c.args.self.now) c.args.at c.args.added.now)
split_is c =
    let ts = c.args.self.now in
    let k = c.branch_at-place.result.place in
    let u = c.cut.new.self in
    let d = (split_at_child c).taken in
    let g = d.goes in
    let new = inserted (text (child c)) c.branch_at-place.result.inside c.args.added.now in
    let done : IsInserted (child c) (u ∷ c.in-Split.back ∷ []) new =
    rw c.in-Split.is at c.in_ok-cut.ensures.cut in
    let few : length ts < 24 =
    omega (
      arith,
      c.if-count-ge-MAX_CHILDREN.false,
      c.len-count.ensures,
      c.self.invariant.totals_right.as_many,
      ap length c.self.view_is,
    ) in
    grown_by_one (breaks_of ts) (height_of ts) ts k (child c) u c.in-Split.back d.children d.within
    d.child_is c.args.at c.branch_at-place.result.inside c.args.added.now c.requires.takes.some
    d.place g.within c.args.to_right g.inside g.outside c.requires.side done c.requires.takes.fits
    refl refl few

children : (c : After-info-front)
    → AreChildren (breaks_of c.args.self.now) (height_of c.args.self.now) (parts c)
children c = children_grown c.args.self.now (parts c) _ c.requires.children (split_is c)

cut : (c : After-info-front)
    → Cuts c.args.self.now (parts c) c.branch_at-place.result.place (child c) c.cut.new.self
    c.in-Split.back
cut c = record {
  children = c.requires.children;
  within = c.branch_at-place.ensures.child;
  child_is = (split_at_child c).taken.child_is;
  after = children c;
  is = refl;
}

totals : (c : After-info-front)
    → HasTotals (breaks_of c.args.self.now) c.self.inside.totals c.args.self.now
totals c = read _ _ _ _ _ _ _ (split_at_child c) c.self.inside.totals refl

-- the counts that the code reads
old_is : (c : After-info-front) → c.info-old.result
    ≡ info_of (breaks_of c.args.self.now) (text (child c))
old_is c = c.info-old.ensures.value
    ∙ ap (λ b. info_of b (text (child c))) (split_at_child c).taken.own.same_breaks

front_counts : (c : After-info-front) → c.info-front.result
    ≡ info_of (breaks_of c.args.self.now) (text c.cut.new.self)
front_counts c = c.info-front.ensures.value
    ∙ ap (λ b. info_of b (text c.cut.new.self)) (own_first _ _ _ _ _ _ (cut c)).same_breaks

module _ (c : After-info-front) where
  abbrev br : LineBreaks
  br = breaks_of c.args.self.now

  abbrev u : Tree
  u = c.cut.new.self

  abbrev front : List Tree
  front = take c.branch_at-place.result.place c.args.self.now

  before_is : (before : TextInfo)
      → (c.branch_at-place.result.place ≡ 0 → (b : LineBreaks) → before ≡ info_of b [])
      → ((d : TextInfo) → 0 < c.branch_at-place.result.place
      → before ≡ get_or c.self.inside.totals (c.branch_at-place.result.place - 1) d)
      → before ≡ info_of br (joined front)
  before_is before first later =
      let t = totals c in
      front_is br c.self.inside.totals c.args.self.now c.branch_at-place.result.place before t
      (omega (arith, t.as_many, c.branch_at-place.ensures.child)) first later

  small_before : (before : TextInfo) → before ≡ info_of br (joined front) → IsSmall before
  small_before before is =
      rw is (small_info br (joined front)
      (omega (
        arith,
        byte_len-joined c.args.self.now c.branch_at-place.result.place,
        c.requires.children.fits,
      )))

  small_front : IsSmall c.info-front.result
  small_front =
      rw (front_counts c) (small_info br (text u) (own_first _ _ _ _ _ _ (cut c)).tree.fits)

  small_back : (back : TextInfo) → back ≡ info_of c.in-Split.back.breaks (text c.in-Split.back)
      → IsSmall back
  small_back back is =
      rw is (small_info c.in-Split.back.breaks (text c.in-Split.back)
      (own_second _ _ _ _ _ _ (cut c)).tree.fits)

  both_are : (back both : TextInfo) → back ≡ info_of c.in-Split.back.breaks (text c.in-Split.back)
      → both ≡ info_sum c.info-front.result back
      → both ≡ info_sum (info_of br (text u)) (info_of br (text c.in-Split.back))
  both_are back both is sum =
      let own =
      is ∙ ap (λ b. info_of b (text c.in-Split.back))
      (own_second _ _ _ _ _ _ (cut c)).same_breaks in
      sum ∙ ap (λ x. info_sum x back) (front_counts c)
      ∙ ap (λ x. info_sum (info_of br (text u)) x) own

  first_is : (before first : TextInfo) → before ≡ info_of br (joined front)
      → first ≡ info_sum before c.info-front.result
      → first ≡ info_sum (info_of br (joined front)) (info_of br (text u))
  first_is before first is sum = sum ∙ ap (λ x. info_sum x c.info-front.result) is
      ∙ ap (λ x. info_sum (info_of br (joined front)) x) (front_counts c)

pub plus-total-requires : goal.plus-total-requires
plus-total-requires c =
    let f = (goal.at.plus-total-requires c).After-info-front in
    sum_of_small _ _ (small_before f c.total_before.result
    (before_is f c.total_before.result c.total_before.ensures.first c.total_before.ensures.later))
    (small_front f)

pub plus-requires : goal.plus-requires
plus-requires c =
    let f = (goal.at.plus-requires c).After-info-front in
    sum_of_small _ _ (small_front f) (small_back f c.info.result c.info.ensures.value)

pub retotal-requires-2-clause-small : goal.retotal-requires-2-clause-small
retotal-requires-2-clause-small c =
    small_totals (breaks_of c.args.self.now) c.self.inside.totals c.args.self.now
    (totals (goal.at.retotal-requires-2-clause-small c).After-info-front) c.requires.children.fits

pub retotal-requires-2-clause-part : goal.retotal-requires-2-clause-part
retotal-requires-2-clause-part c =
    part _ _ _ _ _ _ _ (split_at_child (goal.at.retotal-requires-2-clause-part c).After-info-front)
    c.self.inside.totals refl c.info-old.result c.info-old.ensures.value

pub retotal-requires-2-clause-new : goal.retotal-requires-2-clause-new
retotal-requires-2-clause-new c =
    let f = (goal.at.retotal-requires-2-clause-new c).After-info-front in
    small_below c.plus.result
    (rw (both_are f c.info.result c.plus.result c.info.ensures.value c.plus.ensures.sum)
    (small_both _ _ _ _ _ _ (cut f)))

pub retotal-requires-2-clause-fits : goal.retotal-requires-2-clause-fits
retotal-requires-2-clause-fits c = λ narrow j d from within.
    let f = (goal.at.retotal-requires-2-clause-fits c).After-info-front in
    let ts = c.args.self.now in
    let t = totals f in
    let inside : j < length ts = omega (arith, t.as_many, within) in
    let last =
    last_total (breaks_of ts) c.self.inside.totals ts t
    (omega (arith, c.requires.children.at_least_two)) d in
    let room =
    rw c.len.ensures.value at (c.has_room_for.ensures.room c.if-not-has_room_for.false narrow d) in
    let few : byte_len (joined (parts f)) < 2 ^ 32 =
    omega (
      arith,
      room,
      ap (λ x. x.bytes) last,
      ap byte_len (split_is f).text_is,
      byte_len-inserted (joined ts) c.args.at c.args.added.now,
    ) in
    rw (
      t.total_at j d inside,
      old_is f,
      both_are f c.info.result c.plus.result c.info.ensures.value
          c.plus.ensures.sum,
    ) (cut_fits _ _ _ _ _ _ (cut f) few j from inside)

pub insert-requires-clause-narrow : goal.insert-requires-clause-narrow
insert-requires-clause-narrow c = λ narrow.
    let f = (goal.at.insert-requires-clause-narrow c).After-info-front in
    let both = both_are f c.info.result c.plus.result c.info.ensures.value c.plus.ensures.sum in
    let few =
    few_bytes _ _ _ _ _ _ (cut f) c.self.inside.totals c.retotal-2.new.self (totals f)
    c.retotal-2.ensures.len (rw (old_is f, both) at c.retotal-2.ensures.after) narrow in
    let before =
    before_is f c.total_before.result c.total_before.ensures.first c.total_before.ensures.later in
    rw (first_is f c.total_before.result c.plus-total.result before c.plus-total.ensures.sum)
    (first_narrow _ _ _ _ _ _ (cut f) few)

-- the nodes in use, with the second half after the first
placed : (c : After-put_after) → c.put_after.new.nodes
    ≡ insert (set c.args.self.now c.branch_at-place.result.place c.cut.new.self)
    (c.branch_at-place.result.place + 1) c.in-Split.back
placed c =
    put_in_place c.self.inside c.args.self.now c.branch_at-place.result.place c.cut.new.self
    c.in-Split.back c.len-count.result c.put_after.new.nodes c.self.invariant c.self.view_is
    c.branch_at-place.ensures.child
    c.len-count.ensures (omega (arith, c.if-count-ge-MAX_CHILDREN.false)) c.put_after.ensures

-- the number of entries is unchanged
as_many : (c : After-put_after) → length c.put_after.new.nodes ≡ c.len-count.result + 1
as_many c =
    let ts = c.args.self.now in
    let k = c.branch_at-place.result.place in
    let u = c.cut.new.self in
    let within = c.branch_at-place.ensures.child in
    omega (
      arith,
      ap length (placed c),
      length-insert (set ts k u) (k + 1) c.in-Split.back
          (omega (arith, length-set ts k u, within)),
      length-set ts k u,
      c.len-count.ensures,
      c.self.invariant.totals_right.as_many,
      ap length c.self.view_is,
    )

module _ (c : After-info-front) (total back both : TextInfo) (mid after : List TextInfo)
    (first : total ≡ info_sum
    (info_of (breaks_of c.args.self.now)
    (joined (take c.branch_at-place.result.place c.args.self.now)))
    (info_of (breaks_of c.args.self.now) (text c.cut.new.self)))
    (parts_are : both ≡ info_sum (info_of (breaks_of c.args.self.now) (text c.cut.new.self))
    (info_of (breaks_of c.args.self.now) (text c.in-Split.back)))
    (len : length mid ≡ length c.self.inside.totals) (before : (j : ℕ) (d : TextInfo)
    → j < c.branch_at-place.result.place → get_or mid j d ≡ get_or c.self.inside.totals j d)
    (past : (j : ℕ) (d : TextInfo) → c.branch_at-place.result.place ≤ j
    → j < length c.self.inside.totals → info_sum (get_or mid j d) c.info-old.result
    ≡ info_sum (get_or c.self.inside.totals j d) both)
    (more : length after ≡ length mid + 1) (early : (j : ℕ) (d : TextInfo)
    → j < c.branch_at-place.result.place → get_or after j d ≡ get_or mid j d) (own : (d : TextInfo)
    → get_or after c.branch_at-place.result.place d ≡ total)
    (late : (j : ℕ) (d : TextInfo) → c.branch_at-place.result.place ≤ j → j < length mid
    → get_or after (j + 1) d ≡ get_or mid j d) where
  retotaled : HasTotals (breaks_of (parts c)) after (parts c)
  retotaled =
      let us = parts c in
      let ts = c.args.self.now in
      let g = children c in
      let sets : breaks_of us ≡ breaks_of ts =
      breaks_of_is (breaks_of ts) (height_of ts) us (omega (arith, g.at_least_two)) g.each in
      rw sets (totals_cut _ _ _ _ _ _ (cut c) c.self.inside.totals mid after total (totals c) len
      before (rw (old_is c, parts_are) at past) first more early own late)

pub invariant_of-self-2 : goal.invariant_of-self-2
invariant_of-self-2 c =
    let e = (goal.at.invariant_of-self-2 c).After-put_after in
    let f = (goal.at.invariant_of-self-2 c).After-info-front in
    let first =
    first_is f c.total_before.result c.plus-total.result
    (before_is f c.total_before.result c.total_before.ensures.first c.total_before.ensures.later)
    c.plus-total.ensures.sum in
    let both = both_are f c.info.result c.plus.result c.info.ensures.value c.plus.ensures.sum in
    let right =
    retotaled f c.plus-total.result c.info.result c.plus.result c.retotal-2.new.self
    c.insert.new.self first both c.retotal-2.ensures.len c.retotal-2.ensures.before
    c.retotal-2.ensures.after
    c.insert.ensures.len c.insert.ensures.before c.insert.ensures.here c.insert.ensures.following in
    more_listed c.self.inside _ c.args.self.now c.put_after.new.nodes c.branch_at-place.result.place
    c.cut.new.self c.len-count.result c.self.invariant c.self.view_is
    c.branch_at-place.ensures.child (rw (placed e) (children f)) refl refl
    (as_many e) c.len-count.ensures refl (rw (placed e) right)

pub returns-clause-tried : goal.returns-clause-tried
returns-clause-tried c = record {
  done = λ yes.
      let e = (goal.at.returns-clause-tried c).After-put_after in
      let f = (goal.at.returns-clause-tried c).After-info-front in
      let first =
      first_is f c.total_before.result c.plus-total.result
      (before_is f c.total_before.result c.total_before.ensures.first c.total_before.ensures.later)
      c.plus-total.ensures.sum in
      let both = both_are f c.info.result c.plus.result c.info.ensures.value c.plus.ensures.sum in
      let right =
      retotaled f c.plus-total.result c.info.result c.plus.result c.retotal-2.new.self
      c.insert.new.self first both c.retotal-2.ensures.len c.retotal-2.ensures.before
      c.retotal-2.ensures.after
      c.insert.ensures.len c.insert.ensures.before c.insert.ensures.here
      c.insert.ensures.following in
      let now : HasTotals (breaks_of c.put_after.new.nodes) c.insert.new.self
      c.put_after.new.nodes = rw (placed e) right in
      let seen =
      more_seen c.self.inside (record {
        height = _;
        breaks = _;
        last = c.self.inside.last;
        totals = _;
        nodes = _;
      }) c.args.self.now c.put_after.new.nodes c.branch_at-place.result.place c.cut.new.self
      c.len-count.result c.self.invariant c.self.view_is c.branch_at-place.ensures.child
      (rw (placed e) (children f)) refl refl
      (as_many e) c.len-count.ensures refl now in
      rw (seen, placed e) (split_is f);
  kept = λ no. cc;
  err = tt;
}

pub returns-in_err-cut-clause-searched : goal.returns-in_err-cut-clause-searched
returns-in_err-cut-clause-searched c =
    let h = (found (goal.at.returns-in_err-cut-clause-searched
    c).After-info-old).taken.own.at_height in
    record { rise = omega (arith, h); nodes = omega (arith, h); compares = omega (arith, h) }

pub returns-in-Grown-clause-searched : goal.returns-in-Grown-clause-searched
returns-in-Grown-clause-searched c =
    let h = (found (goal.at.returns-in-Grown-clause-searched
    c).After-info-old).taken.own.at_height in
    record { rise = omega (arith, h); nodes = omega (arith, h); compares = omega (arith, h) }

pub returns-in-Kept-clause-searched : goal.returns-in-Kept-clause-searched
returns-in-Kept-clause-searched c =
    let h = (found (goal.at.returns-in-Kept-clause-searched
    c).After-info-old).taken.own.at_height in
    record { rise = omega (arith, h); nodes = omega (arith, h); compares = omega (arith, h) }

pub returns-clause-searched : goal.returns-clause-searched
returns-clause-searched c =
    let h = (found (goal.at.returns-clause-searched c).After-info-old).taken.own.at_height in
    record { rise = omega (arith, h); nodes = omega (arith, h); compares = omega (arith, h) }

pub branch_at-place-requires-clause-right : goal.branch_at-place-requires-clause-right
branch_at-place-requires-clause-right c =
    right_within c.args.self.now c.args.at c.args.added.now c.args.to_right c.requires.side

pub cut-requires-clause-low : goal.cut-requires-clause-low
cut-requires-clause-low c = λ flat.
    let h = (found (goal.at.cut-requires-clause-low c).After-info-old).taken.own.at_height in
    c.requires.low (omega (arith, flat, h))

-- the list is unchanged where the child is
pub invariant_of-self : goal.invariant_of-self
invariant_of-self c =
    same_listed c.self.inside _ c.self.invariant
    (unset c.self.inside.nodes c.branch_at-place.result.place c.cut.new.self
    c.index-self-place.result
    c.in_err-cut.ensures.err) refl refl refl

pub returns-in_err-cut-clause-tried : goal.returns-in_err-cut-clause-tried
returns-in_err-cut-clause-tried c =
    refused c.from_residual.result c.args.self.now _ c.from_residual.ensures.0
    (same_seen c.self.inside c.args.self.now _
    (unset c.self.inside.nodes c.branch_at-place.result.place c.cut.new.self
    c.index-self-place.result
    c.in_err-cut.ensures.err) c.self.view_is)

pub invariant_of-self-in-Kept : goal.invariant_of-self-in-Kept
invariant_of-self-in-Kept c =
    same_listed c.self.inside _ c.self.invariant
    (unset c.self.inside.nodes c.branch_at-place.result.place c.cut.new.self
    c.index-self-place.result
    (rw c.in-Kept.is at c.in_ok-cut.ensures.cut)) refl refl refl

pub returns-in-Kept-clause-tried : goal.returns-in-Kept-clause-tried
returns-in-Kept-clause-tried c =
    not_tried c.args.self.now _ (same_seen c.self.inside c.args.self.now _
    (unset c.self.inside.nodes c.branch_at-place.result.place c.cut.new.self
    c.index-self-place.result
    (rw c.in-Kept.is at c.in_ok-cut.ensures.cut)) c.self.view_is)

pub returns-in-Kept-clause-idle_above_searched : goal.returns-in-Kept-clause-idle_above_searched
returns-in-Kept-clause-idle_above_searched c =
    λ no above. absurd (omega (
      arith,
      above,
      c.in_ok-cut.ensures.inner c.in-Kept.is,
      (found (goal.at.returns-in-Kept-clause-idle_above_searched
          c).After-info-old).taken.own.at_height,
    ))
