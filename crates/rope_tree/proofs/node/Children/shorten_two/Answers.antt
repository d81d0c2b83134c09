use Rattle.std.proofs.Common.{◌≡◌, ℕ, ◌+◌, ◌<◌, ◌≤◌, inl, inr, List, [], ◌∷◌, ◌++◌, length, get_or, take, drop, sym, ap, ap₂, subst, refl, ◌∙◌, arith}
use Rattle.std.proofs.lemmas.List.{append_assoc, length-append, length-take-le, length-drop, take-append-drop}
use Rattle.std.proofs.Math.Seq.{take-append_seam, get_or-append_seam}
use Rattle.rope_text.specs.Text.{byte_len}
use Rattle.rope_text.specs.declared.line_breaks.LineBreaks.{LineBreaks}
use Rattle.rope_leaf.specs.Leaves.{AreLeaves}
use Rattle.rope_leaf.specs.Tree.{Tree, text, joined, leaves_of, breaks_of, leaf_tree}
use Rattle.rope_leaf.specs.Siblings.{AreSiblings}
use Rattle.rope_leaf.proofs.NodeLaws.{leaves_of-append}
use Rattle.rope_tree.specs.Removed.{KeepsBack, AreParted}
use Rattle.rope_tree.proofs.LeafSplits.{HasLeaf, IsEnd, own_leaf, level_after, flat_height, all_second, move_second}
use Rattle.rope_tree.proofs.MoveLaws.{AreMovable, movable_of, movable_left, movable_after, level_of}
use Rattle.rope_tree.proofs.RemovedLaws.{sides_meet, keeps_back, text_of_leaf_tree, bytes_taken}
use Rattle.rope_tree.proofs.node.Children.shorten_two.Goals.{After-pop-leaf, Then-shorten, Else-shorten}
use Rattle.rope_tree.proofs.node.Children.shorten_two.Goals as goal

pub take_from-requires-clause-level : goal.take_from-requires-clause-level
take_from-requires-clause-level c =
    (movable_after c.args.right.now c.none-rest.result (c.branch_at-place.result.place + 1)
    c.none-rest.ensures (movable_of _ c.requires.right c.requires.right_few)).level

pub take_from-requires-clause-few : goal.take_from-requires-clause-few
take_from-requires-clause-few c =
    (movable_after c.args.right.now c.none-rest.result (c.branch_at-place.result.place + 1)
    c.none-rest.ensures (movable_of _ c.requires.right c.requires.right_few)).few

module _ (c : After-pop-leaf) where
  abbrev ts : List Tree
  ts = c.args.right.now

  abbrev k : ℕ
  k = c.branch_at-place.result.place

  abbrev at : ℕ
  at = c.branch_at-place.result.inside

  abbrev ps : List Tree
  ps = c.pop-leaf.new.self

  abbrev leaf : Tree
  leaf = c.pop-leaf.result

  abbrev ys : List Tree
  ys = drop (k + 1) ts

  rest_is : c.take_from.new.self ≡ ys
  rest_is = c.take_from.ensures.moved ∙ ap (λ l. l ++ ys) c.none-rest.ensures

  front_is : take (k + 1) ts ≡ ps ++ leaf ∷ []
  front_is = sym c.take_from.ensures.rest ∙ c.pop-leaf.ensures

  parts : ts ≡ ps ++ leaf ∷ ys
  parts = sym (take-append-drop (k + 1) ts) ∙ ap (λ l. l ++ ys) front_is
      ∙ append_assoc ps (leaf ∷ []) ys

  as_many : length ps ≡ k
  as_many =
      omega (
        arith,
        ap length front_is,
        length-append ps (leaf ∷ []),
        length-take-le (k + 1) ts (omega (arith, c.branch_at-place.ensures.child)),
      )

  placed : HasLeaf ts ps leaf ys
  placed = record { is = parts; family = c.requires.right; flat = c.requires.right_leaves }

  here : get_or ts k leaf ≡ leaf
  here = ap (λ n. get_or ts n leaf) (sym as_many) ∙ ap (λ l. get_or l (length ps) leaf) parts
      ∙ get_or-append_seam ps leaf ys leaf

  within : at ≤ length (text leaf)
  within =
      subst (λ t. at ≤ length (text t)) here
      (c.branch_at-place.ensures.goes leaf).within

  end_is : c.args.end ≡ length (joined ps) + at
  end_is = c.branch_at-place.ensures.place
      ∙ ap (λ l. length (joined l) + at)
      (ap (λ n. take n ts) (sym as_many) ∙ ap (take (length ps)) parts
      ∙ take-append_seam ps (leaf ∷ ys))

  some_after : 1 ≤ length ys
  some_after =
      omega (
        arith,
        length-drop (k + 1) ts,
        c.branch_at-place.ensures.child,
        c.count.ensures,
        c.if-place-count.false,
      )

  all : AreMovable ts
  all = movable_of ts c.requires.right c.requires.right_few

pub first_leaf_len-requires-clause-level : goal.first_leaf_len-requires-clause-level
first_leaf_len-requires-clause-level c =
    let p = (goal.at.first_leaf_len-requires-clause-level c).After-pop-leaf in
    rw (rest_is p) (level_of _ 0 (ys p) (level_after _ _ _ _ (placed p)))

pub first_leaf_len-requires-clause-leaves : goal.first_leaf_len-requires-clause-leaves
first_leaf_len-requires-clause-leaves c =
    let p = (goal.at.first_leaf_len-requires-clause-leaves c).After-pop-leaf in
    rw (rest_is p) (flat_height _ (ys p) (level_after _ _ _ _ (placed p)).each)

pub shorten-requires-clause-leaf : goal.shorten-requires-clause-leaf
shorten-requires-clause-leaf c =
    (own_leaf _ _ _ _ (placed (goal.at.shorten-requires-clause-leaf c).After-pop-leaf)).at_height

pub shorten-requires-clause-within : goal.shorten-requires-clause-within
shorten-requires-clause-within c =
    within (goal.at.shorten-requires-clause-within c).After-pop-leaf

pub shorten-requires-clause-some : goal.shorten-requires-clause-some
shorten-requires-clause-some c =
    let side = (c.branch_at-place.ensures.goes c.pop-leaf.result).outside refl in
    elim side [
      | inl none ↦ absurd (omega (arith, none, c.requires.some))
      | inr some ↦ some
    ]

pub shorten-requires-clause-level : goal.shorten-requires-clause-level
shorten-requires-clause-level c = (movable_of _ c.requires.children c.requires.few).level

-- the leaves on both sides, which stand beside each other
module _ (c : Then-shorten) where
  abbrev p : After-pop-leaf
  p = (goal.at.Then-shorten c).After-pop-leaf

  abbrev fs : List Tree
  fs = c.shorten.new.self

  abbrev key : Tree
  key = c.shorten.new.leaf

  abbrev b : LineBreaks
  b = breaks_of c.args.self.now

  key_is : key ≡ leaf_tree (leaf p).breaks (drop (at p) (text (leaf p)))
  key_is = c.shorten.ensures.leaf c.if-shorten.true

  key_text : text key ≡ drop (at p) (text (leaf p))
  key_text = ap text key_is
      ∙ text_of_leaf_tree (leaf p).breaks (drop (at p) (text (leaf p)))

  rest : IsEnd (leaf p) (ys p) (at p) key
  rest = record {
    is = key_is;
    tree = c.shorten.ensures.leaf_tree c.if-shorten.true;
    near =
        rw (rest_is p) at (c.first_leaf_len.ensures (byte_len (drop (at p) (text (leaf p))))
        (omega (arith, c.shorten.ensures.long c.if-shorten.true, ap byte_len key_text)));
  }

  some : 1 ≤ at p
  some = elim ((c.branch_at-place.ensures.goes c.pop-leaf.result).outside refl) [
    | inl none ↦ absurd (omega (arith, none, c.requires.some))
    | inr here ↦ here
  ]

  part : at p < length (text (leaf p))
  part = c.shorten.ensures.some_left c.if-shorten.true

  second : AreSiblings b 0 (key ∷ ys p)
  second =
      subst (λ x. AreSiblings x 0 (key ∷ ys p)) c.requires.same_breaks
      (all_second _ _ _ _ (placed p) _ some part _ rest)

  moved_back : AreMovable (key ∷ ys p)
  moved_back = move_second _ _ _ _ (placed p) _ some part _ rest c.requires.right_few

  fewer_front : byte_len (joined fs) ≤ byte_len (joined c.args.self.now)
  fewer_front =
      rw (c.shorten.ensures.front c.if-shorten.true).text_is (bytes_taken c.args.start
      (joined c.args.self.now))

  meet : AreSiblings b 0 (fs ++ key ∷ ys p)
  meet =
      sides_meet b fs key (ys p) (c.shorten.ensures.level c.if-shorten.true) second
      (c.shorten.ensures.seam c.if-shorten.true) (c.shorten.ensures.near c.if-shorten.true)
      (omega (arith, fewer_front, c.requires.few, moved_back.few))

  parted : AreParted c.args.start c.args.end (leaves_of c.args.self.now)
      (leaves_of c.args.right.now) (leaves_of fs ++ leaves_of (key ∷ ys p))
  parted = record {
    front = leaves_of fs;
    back = leaves_of (key ∷ ys p);
    is_front = c.shorten.ensures.front c.if-shorten.true;
    is_back =
        subst (λ n. KeepsBack n (leaves_of c.args.right.now) (leaves_of (key ∷ ys p)))
        (sym (end_is p)) (keeps_back _ _ _ _ (placed p) _ some part _ rest (some_after p));
    new_is = refl;
    leaves = subst AreLeaves (leaves_of-append fs (key ∷ ys p)) meet.leaves;
  }

  now_is : (r : List Tree) → r ≡ key ∷ c.take_from.new.self → r ≡ key ∷ ys p
  now_is r is = is ∙ ap (λ l. key ∷ l) (rest_is p)

pub push_front-requires-clause-level : goal.push_front-requires-clause-level
push_front-requires-clause-level c =
    let t = (goal.at.push_front-requires-clause-level c).Then-shorten in
    rw (rest_is (p t)) (moved_back t).level

pub push_front-requires-clause-few : goal.push_front-requires-clause-few
push_front-requires-clause-few c =
    let t = (goal.at.push_front-requires-clause-few c).Then-shorten in
    rw (rest_is (p t)) (moved_back t).few

-- the children as they were
module _ (c : Else-shorten) where
  abbrev q : After-pop-leaf
  q = (goal.at.Else-shorten c).After-pop-leaf

  as_were : c.pop-leaf.new.self ++ c.shorten.new.leaf ∷ [] ≡ ps q ++ leaf q ∷ []
  as_were = ap (λ u. ps q ++ u ∷ []) (c.shorten.ensures.kept_leaf c.if-shorten.false)

  restored : AreMovable (c.pop-leaf.new.self ++ c.shorten.new.leaf ∷ [])
  restored =
      subst AreMovable (sym as_were)
      (movable_left (ps q ++ leaf q ∷ []) (ys q)
      (subst AreMovable (parts q ∙ sym (append_assoc (ps q) (leaf q ∷ []) (ys q))) (all q)))

pub push-requires-clause-level : goal.push-requires-clause-level
push-requires-clause-level c =
    (restored (goal.at.push-requires-clause-level c).Else-shorten).level

pub push-requires-clause-few : goal.push-requires-clause-few
push-requires-clause-few c = (restored (goal.at.push-requires-clause-few c).Else-shorten).few

pub take_from-requires-2-clause-level : goal.take_from-requires-2-clause-level
take_from-requires-2-clause-level c =
    let e = (goal.at.take_from-requires-2-clause-level c).Else-shorten in
    rw (ap₂ (λ l m. l ++ m) (c.push.ensures ∙ as_were e ∙ sym (front_is (q e))) (rest_is (q e))
    ∙ take-append-drop (c.branch_at-place.result.place + 1) c.args.right.now) (all (q e)).level

pub take_from-requires-2-clause-level_other : goal.take_from-requires-2-clause-level_other
take_from-requires-2-clause-level_other c =
    let e = (goal.at.take_from-requires-2-clause-level_other c).Else-shorten in
    rw (rest_is (q e)) (level_of _ 0 (ys (q e)) (level_after _ _ _ _ (placed (q e))))

pub returns-then-shorten-clause-parted : goal.returns-then-shorten-clause-parted
returns-then-shorten-clause-parted c = λ _.
    let t = (goal.at.returns-then-shorten-clause-parted c).Then-shorten in
    rw (now_is t _ (c.swap.ensures.x_after ∙ c.push_front.ensures)) (parted t)

pub returns-then-shorten-clause-each : goal.returns-then-shorten-clause-each
returns-then-shorten-clause-each c = λ _.
    let t = (goal.at.returns-then-shorten-clause-each c).Then-shorten in
    rw (now_is t _ (c.swap.ensures.x_after ∙ c.push_front.ensures)) (meet t).each
