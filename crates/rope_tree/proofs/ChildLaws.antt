-- A child that takes a text, among its siblings, before and after.
use Rattle.std.proofs.Common.{◌≡◌, ℕ, ◌+◌, ◌-◌, ◌<◌, ◌≤◌, ◌^◌, Bool, false, List, [], ◌∷◌, ◌++◌, length, get_or, set, take, drop, IfOk, OnErr, Result, Ok, Err, refl, sym, ap, ◌∙◌, arith}
use Rattle.rope_text.specs.declared.text_info.TextInfo.{TextInfo}
use Rattle.rope_text.specs.Text.{byte_len}
use Rattle.rope_text.specs.Edit.{inserted}
use Rattle.rope_text.specs.TextInfo.{info_of, info_sum, HasPart}
use Rattle.rope_text.proofs.Measures.{IsMeasure-byte_len}
use Rattle.rope_leaf.specs.Tree.{Tree, text, joined, height_of, breaks_of, tree_over, AreChildren}
use Rattle.rope_leaf.specs.Totals.{HasTotals}
use Rattle.rope_tree.specs.declared.node.Children.TheInside.{Inside}
use Rattle.rope_tree.specs.Listed.{listed, IsListed}
use Rattle.rope_tree.proofs.ListedLaws.{seen_at, set_seen, set_listed, set_totals}
use Rattle.rope_leaf.specs.Search.{IsSmall}
use Rattle.rope_leaf.specs.Insert.{MayInsert, GoesIn, IsInserted, AreGrown}
use Rattle.rope_leaf.proofs.Infos.{small_info}
use Rattle.rope_leaf.specs.Narrow.{AreNarrow, FitsWith}
use Rattle.rope_leaf.specs.Change.{IsChange, no_counts}
use Rattle.rope_leaf.proofs.CountLaws.{counts_grow}
use Rattle.rope_leaf.proofs.ChangeLaws.{grown_change, part_of_part, part_fits, whole_changed, change_by, change_own, change_of_list}
use Rattle.rope_leaf.proofs.TreeLaws.{breaks_of_is}
use Rattle.rope_leaf.proofs.InsertDescents.{Takes, takes, last_total}
use Rattle.rope_leaf.proofs.InsertTrees.{child_may, text_around, byte_len-inserted}
use Rattle.rope_leaf.proofs.TotalLaws.{has_part, fits_after}
use Rattle.rope_leaf.proofs.GrownLaws.{totals_seen, grown, children_grown, child_grown}

-- a property of both outcomes holds of a failure
pub on_err : {T E P : Type 0} (r : Result T E) → P → OnErr r P
on_err (Ok x) p = tt
on_err (Err e) p = p

-- a property of both outcomes holds if the edit was not done
pub if_idle : {E P : Type 0} (r : Result Bool E) → P → IfOk r (λ did. did ≡ false → P)
if_idle (Ok x) p = λ no. p
if_idle (Err e) p = tt

-- the fields of a list of children with this model, and the child that takes the text
pub record Finds (a : Inside) (ts : List Tree) (k : ℕ) (child : Tree) (at i : ℕ)
    (to_right : Bool) : Type 0 where
  pub view : listed a ≡ ts
  pub fields : IsListed a
  pub taken : Takes ts k child at i to_right

-- the child at an index among the nodes
pub taken_at : (a : Inside) (ts : List Tree) (k : ℕ) (d : Tree) (at i : ℕ) (to_right : Bool)
    → listed a ≡ ts → AreChildren (breaks_of ts) (height_of ts) ts → k < length ts
    → at ≡ length (joined (take k ts)) + i
    → ((child : Tree) → GoesIn at i (length (text (get_or ts k child))) to_right)
    → Takes ts k (get_or a.nodes k d) at i to_right
taken_at a ts k d at i to_right view children within place goes =
    takes ts k (get_or a.nodes k d) at i to_right children within (seen_at a ts k d view within)
    place goes

pub found_at : (a : Inside) (ts : List Tree) (k : ℕ) (d : Tree) (at i : ℕ) (to_right : Bool)
    → listed a ≡ ts → IsListed a → AreChildren (breaks_of ts) (height_of ts) ts → k < length ts
    → at ≡ length (joined (take k ts)) + i
    → ((child : Tree) → GoesIn at i (length (text (get_or ts k child))) to_right)
    → Finds a ts k (get_or a.nodes k d) at i to_right
found_at a ts k d at i to_right view fields children within place goes = record {
  view = view;
  fields = fields;
  taken = taken_at a ts k d at i to_right view children within place goes;
}

module _ (a : Inside) (ts : List Tree) (k : ℕ) (child : Tree) (at i : ℕ) (to_right : Bool)
    (f : Finds a ts k child at i to_right) where
  pub read : (seen : List TextInfo) → seen ≡ a.totals → HasTotals (breaks_of ts) seen ts
  read seen is = totals_seen (listed a) ts a.totals seen f.view is f.fields.totals_right

  old_counts : (old : TextInfo) → old ≡ info_of child.breaks (text child)
      → old ≡ info_of (breaks_of ts) (text child)
  old_counts old is = is ∙ ap (λ b. info_of b (text child)) f.taken.own.same_breaks

  pub part : (seen : List TextInfo) → seen ≡ a.totals → (old : TextInfo)
      → old ≡ info_of child.breaks (text child) → (j : ℕ) (d : TextInfo) → k ≤ j → j < length seen
      → HasPart (get_or seen j d) old
  part seen is old old_is j d from within =
      let totals = read seen is in
      let inside : j < length ts = omega (arith, totals.as_many) in
      rw (totals.total_at j d inside, old_counts old old_is)
      (has_part (breaks_of ts) (height_of ts) ts ts k child child f.taken.children f.taken.within
      f.taken.child_is j from inside)

  module _ (s : List ℕ) (some : 1 ≤ length s) (side : MayInsert (tree_over ts) at s to_right)
      (fits : byte_len (joined ts) + byte_len s < 2 ^ 63) where
    -- the preconditions of an insert into the child
    pub child_fits : byte_len (text child) + byte_len s < 2 ^ 63
    child_fits =
        let parts =
        ap byte_len (text_around (breaks_of ts) (height_of ts) ts k child f.taken.children
        f.taken.within f.taken.child_is) in
        let front =
        IsMeasure-byte_len.joined (joined (take k ts)) (text child ++ joined (drop (k + 1) ts)) in
        let back = IsMeasure-byte_len.joined (text child) (joined (drop (k + 1) ts)) in
        omega (arith, fits, parts, front, back)

    pub may : MayInsert child i s to_right
    may =
        let d = f.taken in
        child_may (breaks_of ts) (height_of ts) ts k child d.children d.within d.child_is
        (tree_over ts) refl at i s some d.place d.goes.within to_right d.goes.inside side

    -- the results of an insert into the child
    module _ (u : Tree) (done : IsInserted child (u ∷ []) (inserted (text child) i s)) where
      pub grows : AreGrown ts (set ts k u) (inserted (joined ts) at s)
      grows =
          let d = f.taken in
          grown (breaks_of ts) (height_of ts) ts k child u d.children d.within d.child_is at i s
          some d.place d.goes.within to_right d.goes.inside d.goes.outside side done fits refl refl

      pub all_children : AreChildren (breaks_of ts) (height_of ts) (set ts k u)
      all_children = children_grown ts (set ts k u) _ f.taken.children grows

      pub small : (new : TextInfo) → new ≡ info_of u.breaks (text u) → IsSmall new
      small new is =
          let wide = child_grown (breaks_of ts) (height_of ts) child u _ f.taken.own done in
          rw is (small_info u.breaks (text u) wide.tree.fits)

      -- the counts fit in 32 bits if all did, and the text has room
      pub still_narrow : (seen : List TextInfo) → seen ≡ a.totals
          → (AreNarrow seen → (d : TextInfo)
          → (get_or seen (length seen - 1) d).bytes + byte_len s < 2 ^ 32) → (old new : TextInfo)
          → old ≡ info_of child.breaks (text child) → new ≡ info_of u.breaks (text u)
          → AreNarrow seen → (j : ℕ) (d : TextInfo) → k ≤ j → j < length seen
          → FitsWith (get_or seen j d) old new
      still_narrow seen is room old new old_is new_is narrow j d from within =
          let t = f.taken in
          let totals = read seen is in
          let last =
          last_total (breaks_of ts) seen ts totals (omega (arith, t.children.at_least_two)) d in
          let few : byte_len (joined (set ts k u)) < 2 ^ 32 =
          omega (
            arith,
            room narrow d,
            ap (λ x. x.bytes) last,
            ap byte_len grows.text_is,
            byte_len-inserted (joined ts) at s,
          ) in
          let inside : j < length ts = omega (arith, totals.as_many, within) in
          let wide = child_grown (breaks_of ts) (height_of ts) child u _ t.own done in
          let now = new_is ∙ ap (λ b. info_of b (text u)) wide.same_breaks in
          rw (totals.total_at j d inside, old_counts old old_is, now)
          (fits_after (breaks_of ts) (height_of ts) ts (set ts k u) k child u t.children t.within
          t.child_is all_children refl few j from inside)

      module _ (b : Inside) (height : b.height ≡ a.height) (breaks : b.breaks ≡ a.breaks)
          (nodes : b.nodes ≡ set a.nodes k u) (seen after : List TextInfo) (old new : TextInfo)
          (is : seen ≡ a.totals)
          (old_is : old ≡ info_of child.breaks (text child))
          (new_is : new ≡ info_of u.breaks (text u)) (len : length after ≡ length seen)
          (before : (j : ℕ) (d : TextInfo) → j < k → get_or after j d ≡ get_or seen j d)
          (past : (j : ℕ) (d : TextInfo) → k ≤ j → j < length seen
          → info_sum (get_or after j d) old ≡ info_sum (get_or seen j d) new)
          (totals : b.totals ≡ after) where
        retotaled : HasTotals (breaks_of (set ts k u)) b.totals (set ts k u)
        retotaled =
            let d = f.taken in
            let wide = child_grown (breaks_of ts) (height_of ts) child u _ d.own done in
            rw totals (set_totals ts k child u a.totals seen after old new d.children d.within
            d.child_is d.own.same_breaks all_children wide.same_breaks (read seen is) is old_is
            new_is len before past)

        pub fields_after : IsListed b
        fields_after =
            set_listed a b ts k u f.fields f.view f.taken.within all_children height breaks nodes
            retotaled

        pub all_grown : AreGrown ts (listed b) (inserted (joined ts) at s)
        all_grown =
            rw (set_seen a b ts k u f.fields f.view f.taken.within all_children height breaks nodes
            retotaled) grows

      -- the totals, by a change of the counts of a slice that equals that of the child
      module _ (old new : TextInfo)
          (change : IsChange old new (info_of child.breaks (text child))
          (info_of child.breaks (text u))) where
        own_change : IsChange old new (info_of child.breaks (text child))
            (info_of u.breaks (text u))
        own_change =
            let wide = child_grown (breaks_of ts) (height_of ts) child u _ f.taken.own done in
            change_own child u old new (wide.same_breaks ∙ sym f.taken.own.same_breaks) change

        pub change_part : (seen : List TextInfo) → seen ≡ a.totals → (j : ℕ) (d : TextInfo) → k ≤ j
            → j < length seen → HasPart (get_or seen j d) old
        change_part seen is j d from within =
            part_of_part old new _ _ own_change (get_or seen j d)
            (part seen is _ refl j d from within)

        pub change_narrow : (seen : List TextInfo) → seen ≡ a.totals
            → (AreNarrow seen → (d : TextInfo)
            → (get_or seen (length seen - 1) d).bytes + byte_len s < 2 ^ 32)
            → AreNarrow seen → (j : ℕ) (d : TextInfo) → k ≤ j → j < length seen
            → FitsWith (get_or seen j d) old new
        change_narrow seen is room narrow j d from within =
            part_fits old new _ _ own_change (get_or seen j d)
            (still_narrow seen is room _ _ refl refl narrow j d from within)

        module _ (b : Inside) (height : b.height ≡ a.height) (breaks : b.breaks ≡ a.breaks)
            (nodes : b.nodes ≡ set a.nodes k u) (seen after : List TextInfo) (is : seen ≡ a.totals)
            (len : length after ≡ length seen) (before : (j : ℕ) (d : TextInfo) → j < k
            → get_or after j d ≡ get_or seen j d)
            (past : (j : ℕ) (d : TextInfo) → k ≤ j → j < length seen
            → info_sum (get_or after j d) old ≡ info_sum (get_or seen j d) new)
            (totals : b.totals ≡ after) where
          all_past : (j : ℕ) (d : TextInfo) → k ≤ j → j < length seen
              → info_sum (get_or after j d) (info_of child.breaks (text child))
              ≡ info_sum (get_or seen j d) (info_of u.breaks (text u))
          all_past j d from within = whole_changed old new _ _ own_change _ _ (past j d from within)

          pub fields_changed : IsListed b
          fields_changed =
              fields_after b height breaks nodes seen after _ _ is refl refl len before all_past
              totals

          pub all_changed : AreGrown ts (listed b) (inserted (joined ts) at s)
          all_changed =
              all_grown b height breaks nodes seen after _ _ is refl refl len before all_past totals

          pub list_changed : IsChange old new (info_of (breaks_of ts) (joined ts))
              (info_of (breaks_of ts) (joined (listed b)))
          list_changed =
              let d = f.taken in
              rw (set_seen a b ts k u f.fields f.view d.within all_children height breaks nodes
              (retotaled b height breaks nodes seen after _ _ is refl refl len before all_past
              totals))
              (change_of_list (breaks_of ts) (height_of ts) ts k child u d.children d.within
              d.child_is all_children old new
              (change_by (breaks_of ts) child u old new d.own.same_breaks change))

-- the counts of children after an insert, by their own
module _ (ts us : List Tree) (s : List ℕ) (at : ℕ)
    (a : AreChildren (breaks_of ts) (height_of ts) ts)
    (g : AreGrown ts us (inserted (joined ts) at s)) (some : 1 ≤ length s)
    (before after : TextInfo) (before_is : before ≡ info_of (breaks_of ts) (joined ts))
    (after_is : after ≡ info_of (breaks_of us) (joined us)) where
  now : after ≡ info_of (breaks_of ts) (joined us)
  now =
      let b = children_grown ts us (inserted (joined ts) at s) a g in
      after_is ∙ ap (λ x. info_of x (joined us))
      (breaks_of_is (breaks_of ts) (height_of ts) us (omega (arith, b.at_least_two)) b.each)

  pub list_has : HasPart after before
  list_has = rw (before_is, now, g.text_is) (counts_grow (breaks_of ts) (joined ts) s at some)

  pub list_grown : (more : TextInfo) → info_sum before more ≡ after
      → IsChange no_counts more (info_of (breaks_of ts) (joined ts))
      (info_of (breaks_of ts) (joined us))
  list_grown more sum =
      let b = children_grown ts us (inserted (joined ts) at s) a g in
      rw (← before_is, ← now) (grown_change before after more sum
      (rw now (small_info (breaks_of ts) (joined us) b.fits)))
