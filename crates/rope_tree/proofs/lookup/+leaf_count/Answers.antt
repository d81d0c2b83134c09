use Rattle.std.proofs.Common.{◌≡◌, ◌+◌, ◌<◌, ℕ, length, take, ap, sym, ◌∙◌, arith, All, subst}
use Rattle.std.proofs.lemmas.List.{take_all}
use Rattle.rope_leaf.specs.Tree.{leaves_of, height_of, breaks_of, IsChild}
use Rattle.rope_leaf.proofs.NodeLaws.{child_at}
use Rattle.rope_tree.proofs.LeafCounts.{leaves_more, few_leaves, lowest, lone_count}
use Rattle.rope_tree.proofs.lookup.+leaf_count.Goals.{After-child-item}
use Rattle.rope_tree.proofs.lookup.+leaf_count.Goals as goal

own : (t : ℕ) (c : After-child-item t)
    → IsChild (breaks_of c.in-Inner.children.now) (height_of c.in-Inner.children.now)
    c.child-item.result
own t c =
    let ts = c.in-Inner.children.now in
    let within : c.loop-child.child-index < length ts = omega (arith, c.loop-child-test.true) in
    child_at (breaks_of ts) (height_of ts) ts c.loop-child.child-index c.child-item.result
    c.in-Inner.ensures.children within
    (sym c.child-item.is)

more : (t : ℕ) (c : After-child-item t)
    → length (leaves_of (take (c.loop-child.child-index + 1) c.in-Inner.children.now))
    ≡ c.loop-child.count + length c.child-item.result.leaves
more t c =
    leaves_more c.in-Inner.children.now c.loop-child.child-index c.child-item.result
    c.loop-child-test.true c.child-item.is
    ∙ ap (λ n. n + length c.child-item.result.leaves) (sym c.loop-child.invariant)

pub leaf_count-count-requires : goal.leaf_count-count-requires
leaf_count-count-requires t c =
    (omega (arith, c.decreases, ap (λ u. u.height) c.in-Inner.ensures.is, (own t c).at_height), tt)

pub overflow_add-count : goal.overflow_add-count
overflow_add-count t c =
    let ts = c.in-Inner.children.now in
    let e = (goal.at.overflow_add-count t c).After-child-item in
    omega (
      arith,
      more t e,
      c.leaf_count-count.ensures,
      few_leaves (breaks_of ts) (height_of ts) ts (c.loop-child.child-index + 1)
          c.in-Inner.ensures.children,
    )

pub loop-child-preserved : goal.loop-child-preserved
loop-child-preserved t c = ap (λ n. c.loop-child.count + n) c.leaf_count-count.ensures
    ∙ sym (more t (goal.at.loop-child-preserved t c).After-child-item)

pub returns-in-Leaf : goal.returns-in-Leaf
returns-in-Leaf t c =
    omega (
      arith,
      ap (λ u. length u.leaves) c.in-Leaf.ensures.is,
      lone_count c.in-Leaf.leaf,
      c.len.ensures.value,
    )

pub returns-in-Inner : goal.returns-in-Inner
returns-in-Inner t c =
    let ts = c.in-Inner.children.now in
    let low : height_of ts ≡ 0 = omega (arith, ap (λ u. u.height) c.in-Inner.ensures.is) in
    let all : All (IsChild (breaks_of ts) 0) ts =
    subst (λ h. All (IsChild (breaks_of ts) h) ts) low c.in-Inner.ensures.children.each in
    omega (arith, ap (λ u. length u.leaves) c.in-Inner.ensures.is, lowest (breaks_of ts) ts all)

pub returns-after-loop-child : goal.returns-after-loop-child
returns-after-loop-child t c =
    let ts = c.in-Inner.children.now in
    let all : take c.loop-child.child-index ts ≡ ts =
    take_all c.loop-child.child-index ts (omega (arith, c.loop-child-test.false)) in
    c.loop-child.invariant ∙ ap (λ us. length (leaves_of us)) all
    ∙ ap (λ u. length u.leaves) (sym c.in-Inner.ensures.is)
