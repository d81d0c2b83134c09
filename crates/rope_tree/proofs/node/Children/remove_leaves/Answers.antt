use Rattle.std.proofs.Common.{◌≡◌, ℕ, ◌+◌, ◌<◌, ◌≤◌, inl, inr, List, [], ◌∷◌, ◌++◌, length, get_or, take, drop, sym, ap, ap₂, subst, refl, ◌∙◌, arith}
use Rattle.std.proofs.lemmas.List.{append_assoc, length-append, length-take-le, length-drop, take-append-drop}
use Rattle.std.proofs.Math.Seq.{take-append_seam, get_or-append_seam}
use Rattle.rope_text.specs.Text.{byte_len}
use Rattle.rope_text.specs.declared.line_breaks.LineBreaks.{LineBreaks}
use Rattle.rope_leaf.specs.Tree.{Tree, text, joined, leaves_of, breaks_of, leaf_tree}
use Rattle.rope_leaf.specs.Siblings.{AreSiblings}
use Rattle.rope_leaf.proofs.NodeLaws.{leaves_of-append, joined_one}
use Rattle.rope_leaf.proofs.TreeLaws.{breaks_of_is}
use Rattle.rope_leaf.proofs.SiblingLaws.{byte_len-append}
use Rattle.rope_tree.specs.Removed.{AreParted, AreWithout}
use Rattle.rope_tree.proofs.LeafSplits.{HasLeaf, IsEnd, own_leaf, level_before, level_after, leaves_some, flat_height, all_second}
use Rattle.rope_tree.proofs.MoveLaws.{AreMovable, movable_of, movable_left, movable_after, level_of}
use Rattle.rope_tree.proofs.RemovedLaws.{sides_meet, keeps_first, text_of_leaf_tree, bytes_taken, bytes_dropped}
use Rattle.rope_tree.proofs.node.Children.remove_leaves.Goals.{After-pop-leaf, Then-shorten, Else-shorten}
use Rattle.rope_tree.proofs.node.Children.remove_leaves.Goals as goal

pub take_from-requires-clause-level : goal.take_from-requires-clause-level
take_from-requires-clause-level c =
    (movable_after c.args.self.now c.none-rest.result (c.branch_at-place.result.place + 1)
    c.none-rest.ensures (movable_of _ c.requires.children c.requires.few)).level

pub take_from-requires-clause-few : goal.take_from-requires-clause-few
take_from-requires-clause-few c =
    (movable_after c.args.self.now c.none-rest.result (c.branch_at-place.result.place + 1)
    c.none-rest.ensures (movable_of _ c.requires.children c.requires.few)).few

module _ (c : After-pop-leaf) where
  abbrev ts : List Tree
  ts = c.args.self.now

  abbrev k : ℕ
  k = c.branch_at-place.result.place

  abbrev at : ℕ
  at = c.branch_at-place.result.inside

  abbrev ps : List Tree
  ps = c.pop-leaf.new.self

  abbrev leaf : Tree
  leaf = c.pop-leaf.result

  abbrev ys : List Tree
  ys = drop (k + 1) ts

  rest_is : c.take_from.new.self ≡ ys
  rest_is = c.take_from.ensures.moved ∙ ap (λ l. l ++ ys) c.none-rest.ensures

  front_is : take (k + 1) ts ≡ ps ++ leaf ∷ []
  front_is = sym c.take_from.ensures.rest ∙ c.pop-leaf.ensures

  parts : ts ≡ ps ++ leaf ∷ ys
  parts = sym (take-append-drop (k + 1) ts) ∙ ap (λ l. l ++ ys) front_is
      ∙ append_assoc ps (leaf ∷ []) ys

  as_many : length ps ≡ k
  as_many =
      omega (
        arith,
        ap length front_is,
        length-append ps (leaf ∷ []),
        length-take-le (k + 1) ts (omega (arith, c.branch_at-place.ensures.child)),
      )

  placed : HasLeaf ts ps leaf ys
  placed = record { is = parts; family = c.requires.children; flat = c.requires.leaves }

  here : get_or ts k leaf ≡ leaf
  here = ap (λ n. get_or ts n leaf) (sym as_many) ∙ ap (λ l. get_or l (length ps) leaf) parts
      ∙ get_or-append_seam ps leaf ys leaf

  within : at ≤ length (text leaf)
  within =
      subst (λ t. at ≤ length (text t)) here
      (c.branch_at-place.ensures.goes leaf).within

  end_is : c.args.end ≡ length (joined ps) + at
  end_is = c.branch_at-place.ensures.place
      ∙ ap (λ l. length (joined l) + at)
      (ap (λ n. take n ts) (sym as_many) ∙ ap (take (length ps)) parts
      ∙ take-append_seam ps (leaf ∷ ys))

  some_after : 1 ≤ length ys
  some_after =
      omega (
        arith,
        length-drop (k + 1) ts,
        c.branch_at-place.ensures.child,
        c.count.ensures,
        c.if-place-count.false,
      )

  all : AreMovable ts
  all = movable_of ts c.requires.children c.requires.few

  before : AreMovable ps
  before = movable_left ps (leaf ∷ ys) (subst AreMovable parts all)

pub first_leaf_len-requires-clause-level : goal.first_leaf_len-requires-clause-level
first_leaf_len-requires-clause-level c =
    let p = (goal.at.first_leaf_len-requires-clause-level c).After-pop-leaf in
    rw (rest_is p) (level_of _ 0 (ys p) (level_after _ _ _ _ (placed p)))

pub first_leaf_len-requires-clause-leaves : goal.first_leaf_len-requires-clause-leaves
first_leaf_len-requires-clause-leaves c =
    let p = (goal.at.first_leaf_len-requires-clause-leaves c).After-pop-leaf in
    rw (rest_is p) (flat_height _ (ys p) (level_after _ _ _ _ (placed p)).each)

pub shorten-requires-clause-level : goal.shorten-requires-clause-level
shorten-requires-clause-level c =
    (before (goal.at.shorten-requires-clause-level c).After-pop-leaf).level

pub shorten-requires-clause-leaves : goal.shorten-requires-clause-leaves
shorten-requires-clause-leaves c =
    let p = (goal.at.shorten-requires-clause-leaves c).After-pop-leaf in
    flat_height _ (ps p) (level_before _ _ _ _ (placed p)).each

pub shorten-requires-clause-few : goal.shorten-requires-clause-few
shorten-requires-clause-few c =
    (before (goal.at.shorten-requires-clause-few c).After-pop-leaf).few

pub shorten-requires-clause-leaf : goal.shorten-requires-clause-leaf
shorten-requires-clause-leaf c =
    (own_leaf _ _ _ _ (placed (goal.at.shorten-requires-clause-leaf c).After-pop-leaf)).at_height

pub shorten-requires-clause-within : goal.shorten-requires-clause-within
shorten-requires-clause-within c =
    within (goal.at.shorten-requires-clause-within c).After-pop-leaf

pub shorten-requires-clause-some : goal.shorten-requires-clause-some
shorten-requires-clause-some c =
    let side = (c.branch_at-place.ensures.goes c.pop-leaf.result).outside refl in
    elim side [
      | inl none ↦ absurd (omega (arith, none, c.requires.ordered))
      | inr some ↦ some
    ]

-- the leaves on both sides, which stand beside each other
module _ (c : Then-shorten) where
  abbrev p : After-pop-leaf
  p = (goal.at.Then-shorten c).After-pop-leaf

  abbrev fs : List Tree
  fs = c.shorten.new.self

  abbrev key : Tree
  key = c.shorten.new.leaf

  abbrev b : LineBreaks
  b = breaks_of c.args.self.now

  key_is : key ≡ leaf_tree (leaf p).breaks (drop (at p) (text (leaf p)))
  key_is = c.shorten.ensures.leaf c.if-shorten.true

  key_text : text key ≡ drop (at p) (text (leaf p))
  key_text = ap text key_is
      ∙ text_of_leaf_tree (leaf p).breaks (drop (at p) (text (leaf p)))

  rest : IsEnd (leaf p) (ys p) (at p) key
  rest = record {
    is = key_is;
    tree = c.shorten.ensures.leaf_tree c.if-shorten.true;
    near =
        rw (rest_is p) at (c.first_leaf_len.ensures (byte_len (drop (at p) (text (leaf p))))
        (omega (arith, c.shorten.ensures.long c.if-shorten.true, ap byte_len key_text)));
  }

  some : 1 ≤ at p
  some = elim ((c.branch_at-place.ensures.goes c.pop-leaf.result).outside refl) [
    | inl none ↦ absurd (omega (arith, none, c.requires.ordered))
    | inr here ↦ here
  ]

  part : at p < length (text (leaf p))
  part = c.shorten.ensures.some_left c.if-shorten.true

  second : AreSiblings b 0 (key ∷ ys p)
  second = all_second _ _ _ _ (placed p) _ some part _ rest

  set : breaks_of (ps p) ≡ b
  set =
      breaks_of_is b 0 (ps p)
      (omega (
        arith,
        c.shorten.ensures.some c.if-shorten.true,
        c.shorten.ensures.fewer c.if-shorten.true,
      ))
      (level_before _ _ _ _ (placed p)).each

  first : AreSiblings b 0 fs
  first = subst (λ x. AreSiblings x 0 fs) set (c.shorten.ensures.level c.if-shorten.true)

  fewer_front : byte_len (joined fs) ≤ byte_len (joined (ps p))
  fewer_front =
      rw (c.shorten.ensures.front c.if-shorten.true).text_is (bytes_taken c.args.start
      (joined (ps p)))

  fewer_back : byte_len (joined (key ∷ ys p)) ≤ byte_len (joined (leaf p ∷ ys p))
  fewer_back =
      omega (
        arith,
        byte_len-append (key ∷ []) (ys p),
        byte_len-append (leaf p ∷ []) (ys p),
        ap byte_len (joined_one key),
        ap byte_len (joined_one (leaf p)),
        ap byte_len key_text,
        bytes_dropped (at p) (text (leaf p)),
      )

  bytes : byte_len (joined (ps p)) + byte_len (joined (leaf p ∷ ys p))
      ≡ byte_len (joined c.args.self.now)
  bytes = sym (byte_len-append (ps p) (leaf p ∷ ys p))
      ∙ ap (λ l. byte_len (joined l)) (sym (parts p))

  meet : AreSiblings b 0 (fs ++ key ∷ ys p)
  meet =
      sides_meet b fs key (ys p) first second (c.shorten.ensures.seam c.if-shorten.true)
      (c.shorten.ensures.near c.if-shorten.true)
      (omega (arith, fewer_front, fewer_back, bytes, c.requires.children.fits))

  parted : AreParted c.args.start (at p) (leaves_of (ps p)) (leaves_of (leaf p ∷ ys p))
      (leaves_of (fs ++ key ∷ ys p))
  parted = record {
    front = leaves_of fs;
    back = leaves_of (key ∷ ys p);
    is_front = c.shorten.ensures.front c.if-shorten.true;
    is_back =
        keeps_first b (leaf p) key (ys p) (at p) (own_leaf _ _ _ _ (placed p)) key_text (within p)
        (leaves_some b 0 (ys p) (level_after _ _ _ _ (placed p)).each (some_after p));
    new_is = leaves_of-append fs (key ∷ ys p);
    leaves = meet.leaves;
  }

  moved : AreMovable (fs ++ key ∷ ys p)
  moved = record {
    level = level_of b 0 (fs ++ key ∷ ys p) meet;
    few = omega (
      arith,
      fewer_front,
      fewer_back,
      bytes,
      byte_len-append fs (key ∷ ys p),
      c.requires.few,
    );
  }

  moved_front : AreMovable (fs ++ key ∷ [])
  moved_front =
      movable_left (fs ++ key ∷ []) (ys p)
      (subst AreMovable (sym (append_assoc fs (key ∷ []) (ys p))) moved)

  without : AreWithout c.args.start c.args.end (leaves_of c.args.self.now)
      (leaves_of (fs ++ key ∷ ys p))
  without = record {
    left = leaves_of (ps p);
    between = [];
    right = leaves_of (leaf p ∷ ys p);
    from = at p;
    old_is = ap leaves_of (parts p) ∙ leaves_of-append (ps p) (leaf p ∷ ys p);
    end_is = omega (arith, end_is p);
    parted = parted;
  }

pub push-requires-clause-level : goal.push-requires-clause-level
push-requires-clause-level c =
    (moved_front (goal.at.push-requires-clause-level c).Then-shorten).level

pub push-requires-clause-few : goal.push-requires-clause-few
push-requires-clause-few c =
    (moved_front (goal.at.push-requires-clause-few c).Then-shorten).few

-- the list of all after the leaf was put back
together : (fs rest ys pushed : List Tree) (key : Tree) → pushed ≡ fs ++ key ∷ [] → rest ≡ ys
    → pushed ++ rest ≡ fs ++ key ∷ ys
together fs rest ys pushed key is same = ap₂ (λ l m. l ++ m) is same ∙ append_assoc fs (key ∷ []) ys

pub take_from-requires-then-shorten-clause-level : goal.take_from-requires-then-shorten-clause-level
take_from-requires-then-shorten-clause-level c =
    let t = (goal.at.take_from-requires-then-shorten-clause-level c).Then-shorten in
    rw (together (fs t) _ _ _ (key t) c.push.ensures (rest_is (p t))) (moved t).level

pub take_from-requires-then-shorten-clause-few : goal.take_from-requires-then-shorten-clause-few
take_from-requires-then-shorten-clause-few c =
    let t = (goal.at.take_from-requires-then-shorten-clause-few c).Then-shorten in
    rw (together (fs t) _ _ _ (key t) c.push.ensures (rest_is (p t))) (moved t).few

pub take_from-requires-then-shorten-clause-level_other :
    goal.take_from-requires-then-shorten-clause-level_other
take_from-requires-then-shorten-clause-level_other c =
    let t = (goal.at.take_from-requires-then-shorten-clause-level_other c).Then-shorten in
    rw (rest_is (p t)) (level_of _ 0 (ys (p t)) (level_after _ _ _ _ (placed (p t))))

pub returns-then-shorten-clause-without : goal.returns-then-shorten-clause-without
returns-then-shorten-clause-without c = λ _.
    let t = (goal.at.returns-then-shorten-clause-without c).Then-shorten in
    rw (c.take_from-then-shorten.ensures.moved
    ∙ together (fs t) _ _ _ (key t) c.push.ensures (rest_is (p t))) (without t)

pub returns-then-shorten-clause-each : goal.returns-then-shorten-clause-each
returns-then-shorten-clause-each c = λ _.
    let t = (goal.at.returns-then-shorten-clause-each c).Then-shorten in
    rw (c.take_from-then-shorten.ensures.moved
    ∙ together (fs t) _ _ _ (key t) c.push.ensures (rest_is (p t))) (meet t).each

-- the children as they were
module _ (c : Else-shorten) where
  abbrev q : After-pop-leaf
  q = (goal.at.Else-shorten c).After-pop-leaf

  as_were : c.shorten.new.self ++ c.shorten.new.leaf ∷ [] ≡ ps q ++ leaf q ∷ []
  as_were =
      ap₂ (λ l u. l ++ u ∷ []) (c.shorten.ensures.kept c.if-shorten.false)
      (c.shorten.ensures.kept_leaf c.if-shorten.false)

  restored : AreMovable (c.shorten.new.self ++ c.shorten.new.leaf ∷ [])
  restored =
      subst AreMovable (sym as_were)
      (movable_left (ps q ++ leaf q ∷ []) (ys q)
      (subst AreMovable (parts q ∙ sym (append_assoc (ps q) (leaf q ∷ []) (ys q))) (all q)))

pub push-requires-2-clause-level : goal.push-requires-2-clause-level
push-requires-2-clause-level c =
    (restored (goal.at.push-requires-2-clause-level c).Else-shorten).level

pub push-requires-2-clause-few : goal.push-requires-2-clause-few
push-requires-2-clause-few c = (restored (goal.at.push-requires-2-clause-few c).Else-shorten).few

pub take_from-requires-2-clause-level : goal.take_from-requires-2-clause-level
take_from-requires-2-clause-level c =
    let e = (goal.at.take_from-requires-2-clause-level c).Else-shorten in
    rw (ap₂ (λ l m. l ++ m) (c.push-2.ensures ∙ as_were e ∙ sym (front_is (q e))) (rest_is (q e))
    ∙ take-append-drop (c.branch_at-place.result.place + 1) c.args.self.now) (all (q e)).level

pub take_from-requires-2-clause-level_other : goal.take_from-requires-2-clause-level_other
take_from-requires-2-clause-level_other c =
    let e = (goal.at.take_from-requires-2-clause-level_other c).Else-shorten in
    rw (rest_is (q e)) (level_of _ 0 (ys (q e)) (level_after _ _ _ _ (placed (q e))))
