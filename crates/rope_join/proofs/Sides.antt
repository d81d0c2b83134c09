-- Two trees by their adjacent sides: a tree at least as high as the other is replaced by its child
-- there.
use Rattle.std.proofs.Common.{◌≡◌, ◌+◌, ◌-◌, ◌<◌, ◌≤◌, max, List, [], ◌++◌, length, refl, sym, arith, inl, inr}
use Rattle.std.proofs.lemmas.Bool.{cases_lt}
use Rattle.std.proofs.lemmas.List.{append-nil}
use Rattle.rope_leaf.specs.Tree.{Tree, leaves_of, height_of, breaks_of}
use Rattle.rope_leaf.specs.Siblings.{AreSiblings, AreParts}
use Rattle.rope_join.specs.Join.{CanJoin, CanMerge, EndsIn, BeginsIn, IsNear, IsUnion}
use Rattle.rope_join.proofs.Unions.{end_child, end_can_join, end_near, end_count, end_siblings, end_union, front_child, front_can_join, front_near, front_count, front_siblings, front_union, meeting_at, meet_some, meet_can_join, meet_count, meet_siblings, meet_union}

-- the two nodes on those sides, and the nodes before and after them
pub record AreSides (a b last first : Tree) (before after : List Tree) : Type 0 where
  pub left_some : 1 ≤ length a.leaves
  pub right_some : 1 ≤ length b.leaves
  pub join : CanJoin a b
  pub left : b.height ≤ a.height → EndsIn a before last
  pub left_whole : a.height < b.height → (before ≡ []) × (last ≡ a)
  pub right : a.height ≤ b.height → BeginsIn b first after
  pub right_whole : b.height < a.height → (first ≡ b) × (after ≡ [])

module _ (a b last first : Tree) (before after : List Tree)
    (s : AreSides a b last first before after) where
  pub sides_below : max last.height first.height + 1 ≡ max a.height b.height
  sides_below = elim (cases_lt a.height b.height) [
    | inl low ↦ let f = s.right (omega (arith, low)) in
        rw (s.left_whole low).1 (omega (arith, f.above))
    | inr ge ↦ elim (cases_lt b.height a.height) [
      | inl low ↦ let e = s.left ge in rw (s.right_whole low).0 (omega (arith, e.above))
      | inr le ↦ let e = s.left ge in let f = s.right le in omega (arith, e.above, f.above)
    ]
  ]

  pub sides_some : (1 ≤ length last.leaves) × (1 ≤ length first.leaves)
  sides_some = elim (cases_lt a.height b.height) [
    | inl low ↦ let f = s.right (omega (arith, low)) in (
      rw (s.left_whole low).1 s.left_some,
      (front_child a b first after b.breaks first.height f.is f.children refl (sym f.above) s.join
          low).some,
    )
    | inr ge ↦ elim (cases_lt b.height a.height) [
      | inl low ↦ let e = s.left ge in (
        (end_child a b last before a.breaks last.height e.is e.children refl (sym e.above) s.join
            low).some,
        rw (s.right_whole low).0 s.right_some,
      )
      | inr le ↦ meet_some a b last first before after a.breaks last.height
          (meeting_at a b last first before after (s.left ge) (s.right le) s.join
          (omega (arith, ge, le)))
    ]
  ]

  pub sides_can_join : CanJoin last first
  sides_can_join = elim (cases_lt a.height b.height) [
    | inl low ↦ let f = s.right (omega (arith, low)) in
        rw (s.left_whole low).1 (front_can_join a b first after b.breaks first.height f.is
        f.children refl (sym f.above) s.join low)
    | inr ge ↦ elim (cases_lt b.height a.height) [
      | inl low ↦ let e = s.left ge in
          rw (s.right_whole low).0
          (end_can_join a b last before a.breaks last.height e.is e.children refl (sym e.above)
          s.join low)
      | inr le ↦ meet_can_join a b last first before after a.breaks last.height
          (meeting_at a b last first before after (s.left ge) (s.right le) s.join
          (omega (arith, ge, le)))
    ]
  ]

  -- if both adjacent leaves are kept, one of the trees is higher
  module _ (far : CanMerge a b → ⊥) (n : IsNear a b) where
    uneven : a.height ≡ b.height → ⊥
    uneven level =
        far (record { level = level; near = λ high. n.near high (omega (arith, level, high)) })

    pub sides_near : IsNear last first
    sides_near = elim (cases_lt a.height b.height) [
      | inl low ↦ let f = s.right (omega (arith, low)) in
          rw (s.left_whole low).1 (front_near a b first after b.breaks first.height f.is f.children
          refl (sym f.above) s.join low n)
      | inr ge ↦ elim (cases_lt b.height a.height) [
        | inl low ↦ let e = s.left ge in
            rw (s.right_whole low).0
            (end_near a b last before a.breaks last.height e.is e.children refl (sym e.above) s.join
            low n)
        | inr le ↦ absurd (uneven (omega (arith, ge, le)))
      ]
    ]

    pub sides_apart : (last.height - first.height) + (first.height - last.height) + 1
        ≡ (a.height - b.height) + (b.height - a.height)
    sides_apart = elim (cases_lt a.height b.height) [
      | inl low ↦ let f = s.right (omega (arith, low)) in
          rw (s.left_whole low).1 (omega (arith, low, f.above))
      | inr ge ↦ elim (cases_lt b.height a.height) [
        | inl low ↦ let e = s.left ge in rw (s.right_whole low).0 (omega (arith, low, e.above))
        | inr le ↦ absurd (uneven (omega (arith, ge, le)))
      ]
    ]

  module _ (ts : List Tree) (u : IsUnion last first ts) where
    abbrev row : List Tree
    row = before ++ (ts ++ after)

    pub sides_count : (2 ≤ length row) × (length row ≤ 48)
    sides_count = elim (cases_lt a.height b.height) [
      | inl low ↦
          let f = s.right (omega (arith, low)) in
          let n = front_count a b first after b.breaks first.height f.is f.children refl
          (sym f.above) s.join low ts (rw (s.left_whole low).1 at u) in
          rw (s.left_whole low).0 (omega (arith, n.2, f.children.at_least_two), omega (arith, n.1))
      | inr ge ↦ elim (cases_lt b.height a.height) [
        | inl low ↦
            let e = s.left ge in
            let n = end_count a b last before a.breaks last.height e.is e.children refl
            (sym e.above) s.join low ts (rw (s.right_whole low).0 at u) in
            rw ((s.right_whole low).1, append-nil) (
              omega (arith, n.2, e.children.at_least_two),
              omega (arith, n.1),
            )
        | inr le ↦
            let n = meet_count a b last first before after a.breaks last.height
            (meeting_at a b last first before after (s.left ge) (s.right le) s.join
            (omega (arith, ge, le))) ts u in
            (n.0, n.1)
      ]
    ]

    pub sides_siblings : AreSiblings (breaks_of row) (height_of row) row
    sides_siblings = elim (cases_lt a.height b.height) [
      | inl low ↦
          let f = s.right (omega (arith, low)) in
          rw (s.left_whole low).0 (front_siblings a b first after b.breaks first.height f.is
          f.children refl (sym f.above) s.join low ts (rw (s.left_whole low).1 at u))
      | inr ge ↦ elim (cases_lt b.height a.height) [
        | inl low ↦
            let e = s.left ge in
            rw ((s.right_whole low).1, append-nil)
            (end_siblings a b last before a.breaks last.height e.is e.children refl (sym e.above)
            s.join low ts (rw (s.right_whole low).0 at u))
        | inr le ↦ meet_siblings a b last first before after a.breaks last.height
            (meeting_at a b last first before after (s.left ge) (s.right le) s.join
            (omega (arith, ge, le))) ts u
      ]
    ]

    pub sides_union : (us : List Tree) → leaves_of us ≡ leaves_of row
        → AreParts (breaks_of row) (length row) (length row) (height_of row + 1) us → IsUnion a b us
    sides_union us el p = elim (cases_lt a.height b.height) [
      | inl low ↦
          let f = s.right (omega (arith, low)) in
          let w = s.left_whole low in
          front_union a b first after b.breaks first.height f.is f.children refl (sym f.above)
          s.join low ts (rw w.1 at u) us (rw w.0 at el) (rw w.0 at p)
      | inr ge ↦ elim (cases_lt b.height a.height) [
        | inl low ↦
            let e = s.left ge in
            let w = s.right_whole low in
            end_union a b last before a.breaks last.height e.is e.children refl (sym e.above) s.join
            low ts (rw w.0 at u) us (rw (w.1, append-nil) at el) (rw (w.1, append-nil) at p)
        | inr le ↦ meet_union a b last first before after a.breaks last.height
            (meeting_at a b last first before after (s.left ge) (s.right le) s.join
            (omega (arith, ge, le))) ts u us el p
      ]
    ]
