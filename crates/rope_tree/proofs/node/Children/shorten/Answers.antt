use Rattle.std.proofs.Common.{◌≡◌, ℕ, ◌+◌, ◌-◌, ◌<◌, ◌≤◌, List, [], ◌∷◌, ◌++◌, length, get_or, take, drop, sym, ap, subst, refl, ◌∙◌, arith}
use Rattle.std.proofs.lemmas.List.{append_assoc, length-append, length-take-le, take-append-drop}
use Rattle.std.proofs.Math.Seq.{take-append_seam, get_or-append_seam}
use Rattle.rope_text.specs.Text.{byte_len}
use Rattle.rope_text.specs.Dense.{last_bytes}
use Rattle.rope_leaf.specs.Tree.{Tree, text, joined, leaves_of, breaks_of, leaf_tree}
use Rattle.rope_leaf.specs.Siblings.{AreSiblings}
use Rattle.rope_tree.specs.Removed.{KeepsFront}
use Rattle.rope_tree.proofs.LeafSplits.{HasLeaf, IsStart, level_before, all_first, move_first}
use Rattle.rope_tree.proofs.MoveLaws.{AreMovable, movable, movable_left, movable_after, family_of, level_of}
use Rattle.rope_tree.proofs.RemovedLaws.{removed_end, some_taken, text_of_leaf_tree, last_of_leaf, keeps_front}
use Rattle.rope_tree.proofs.node.Children.shorten.Goals.{After-none-middle, After-pop-last, Then-shorten_both, Else-shorten_both}
use Rattle.rope_tree.proofs.node.Children.shorten.Goals as goal

pub take_from-requires-clause-level : goal.take_from-requires-clause-level
take_from-requires-clause-level c =
    (movable_after c.args.self.now c.none-middle.result (c.branch_at-place.result.place + 1)
    c.none-middle.ensures (movable _ c.requires.level c.requires.few)).level

pub take_from-requires-clause-few : goal.take_from-requires-clause-few
take_from-requires-clause-few c =
    (movable_after c.args.self.now c.none-middle.result (c.branch_at-place.result.place + 1)
    c.none-middle.ensures (movable _ c.requires.level c.requires.few)).few

module _ (c : After-pop-last) where
  abbrev ts : List Tree
  ts = c.args.self.now

  abbrev k : ℕ
  k = c.branch_at-place.result.place

  abbrev ps : List Tree
  ps = c.pop-last.new.self

  abbrev leaf : Tree
  leaf = c.pop-last.result

  abbrev ys : List Tree
  ys = drop (k + 1) ts

  front_is : take (k + 1) ts ≡ ps ++ leaf ∷ []
  front_is = sym c.take_from.ensures.rest ∙ c.pop-last.ensures

  parts : ts ≡ ps ++ leaf ∷ ys
  parts = sym (take-append-drop (k + 1) ts) ∙ ap (λ l. l ++ ys) front_is
      ∙ append_assoc ps (leaf ∷ []) ys

  as_many : length ps ≡ k
  as_many =
      omega (
        arith,
        ap length front_is,
        length-append ps (leaf ∷ []),
        length-take-le (k + 1) ts (omega (arith, c.branch_at-place.ensures.child)),
      )

  placed : HasLeaf ts ps leaf ys
  placed = record {
    is = parts;
    family = family_of _ _ ts c.requires.level
        (omega (arith, c.if-count-lt2.false, c.count.ensures)) c.requires.most;
    flat = c.requires.leaves;
  }

  here : get_or ts k leaf ≡ leaf
  here = ap (λ n. get_or ts n leaf) (sym as_many) ∙ ap (λ l. get_or l (length ps) leaf) parts
      ∙ get_or-append_seam ps leaf ys leaf

  inside : c.branch_at-place.result.inside < length (text leaf)
  inside =
      subst (λ t. c.branch_at-place.result.inside < length (text t)) here
      ((c.branch_at-place.ensures.goes leaf).inside refl)

  start_is : c.args.start ≡ length (joined ps) + c.branch_at-place.result.inside
  start_is = c.branch_at-place.ensures.place
      ∙ ap (λ l. length (joined l) + c.branch_at-place.result.inside)
      (ap (λ n. take n ts) (sym as_many) ∙ ap (take (length ps)) parts
      ∙ take-append_seam ps (leaf ∷ ys))

  all : AreMovable ts
  all = movable ts c.requires.level c.requires.few

pub last_leaf_len-requires-clause-level : goal.last_leaf_len-requires-clause-level
last_leaf_len-requires-clause-level c =
    let p = placed (goal.at.last_leaf_len-requires-clause-level c).After-pop-last in
    level_of _ 0 c.pop-last.new.self (level_before _ _ _ _ p)

pub shorten_both-requires-clause-within : goal.shorten_both-requires-clause-within
shorten_both-requires-clause-within c =
    inside (goal.at.shorten_both-requires-clause-within c).After-pop-last

-- the last leaf without its end
module _ (c : Then-shorten_both) where
  abbrev p : After-pop-last
  p = (goal.at.Then-shorten_both c).After-pop-last

  text_is : c.shorten_both.new.self
      ≡ leaf_tree (leaf p).breaks (take c.branch_at-place.result.inside (text (leaf p)))
  text_is = c.shorten_both.ensures.left c.if-shorten_both.true
      ∙ ap (leaf_tree (leaf p).breaks)
      (removed_end (text (leaf p)) c.branch_at-place.result.inside)

  spared : 492 - c.last_leaf_len.result
      ≤ byte_len (take c.branch_at-place.result.inside (text (leaf p)))
  spared =
      subst (λ l. 492 - c.last_leaf_len.result ≤ byte_len l)
      (removed_end (text (leaf p)) c.branch_at-place.result.inside)
      (c.shorten_both.ensures.spares c.if-shorten_both.true).enough

  some : 1 ≤ c.branch_at-place.result.inside
  some =
      some_taken c.branch_at-place.result.inside (text (leaf p))
      (subst (λ l. 1 ≤ byte_len l)
      (removed_end (text (leaf p)) c.branch_at-place.result.inside)
      (c.shorten_both.ensures.spares c.if-shorten_both.true).some)

  start : IsStart (ps p) (leaf p) c.branch_at-place.result.inside c.shorten_both.new.self
  start = record {
    is = text_is;
    tree = c.shorten_both.ensures.tree;
    long = omega (arith, spared, c.last_leaf_len.ensures);
  }

  moved : AreMovable (ps p ++ c.shorten_both.new.self ∷ [])
  moved = move_first _ _ _ _ (placed p) _ some (inside p) _ start c.requires.few

  now_siblings : AreSiblings (breaks_of c.args.self.now) 0 (ps p ++ c.shorten_both.new.self ∷ [])
  now_siblings = all_first _ _ _ _ (placed p) _ some (inside p) _ start

  front : KeepsFront c.args.start (leaves_of c.args.self.now)
      (leaves_of (ps p ++ c.shorten_both.new.self ∷ []))
  front =
      subst (λ n. KeepsFront n (leaves_of c.args.self.now)
      (leaves_of (ps p ++ c.shorten_both.new.self ∷ []))) (sym (start_is p))
      (keeps_front _ _ _ _ (placed p) _ some (inside p) _ start
      (omega (arith, as_many p, c.if-place-eq0.false)))

  last_is : last_bytes 492 (leaves_of (ps p ++ c.shorten_both.new.self ∷ []))
      ≡ byte_len (take c.branch_at-place.result.inside (text (leaf p)))
  last_is = last_of_leaf _ _ _ _ (placed p) _ some (inside p) _ start

pub push-requires-clause-level : goal.push-requires-clause-level
push-requires-clause-level c =
    (moved (goal.at.push-requires-clause-level c).Then-shorten_both).level

pub push-requires-clause-few : goal.push-requires-clause-few
push-requires-clause-few c = (moved (goal.at.push-requires-clause-few c).Then-shorten_both).few

pub returns-then-shorten_both-clause-front : goal.returns-then-shorten_both-clause-front
returns-then-shorten_both-clause-front c = λ _.
    let t = (goal.at.returns-then-shorten_both-clause-front c).Then-shorten_both in
    rw c.push.ensures (front t)

pub returns-then-shorten_both-clause-level : goal.returns-then-shorten_both-clause-level
returns-then-shorten_both-clause-level c = λ _.
    let t = (goal.at.returns-then-shorten_both-clause-level c).Then-shorten_both in
    rw c.push.ensures (now_siblings t)

pub returns-then-shorten_both-clause-near : goal.returns-then-shorten_both-clause-near
returns-then-shorten_both-clause-near c = λ _.
    let t = (goal.at.returns-then-shorten_both-clause-near c).Then-shorten_both in
    let m = c.shorten_both.ensures.meet c.if-shorten_both.true in
    let k = c.branch_at-place.result.inside in
    omega (
      arith,
      m,
      ap (λ l. last_bytes 492 (leaves_of l)) c.push.ensures,
      last_is t,
      ap byte_len (removed_end (text c.pop-last.result) k),
      ap (λ u. byte_len (text u)) (c.shorten_both.ensures.right c.if-shorten_both.true),
      ap byte_len (text_of_leaf_tree c.args.leaf.now.breaks
          (drop c.args.end (text c.args.leaf.now))),
    )

pub returns-then-shorten_both-clause-long : goal.returns-then-shorten_both-clause-long
returns-then-shorten_both-clause-long c = λ _.
    let s = (c.shorten_both.ensures.spares_right c.if-shorten_both.true).enough in
    omega (
      arith,
      s,
      ap (λ u. byte_len (text u)) (c.shorten_both.ensures.right c.if-shorten_both.true),
      ap byte_len (text_of_leaf_tree c.args.leaf.now.breaks
          (drop c.args.end (text c.args.leaf.now))),
    )

-- the list without the last leaf, where nothing has changed
module _ (c : Else-shorten_both) where
  abbrev q : After-pop-last
  q = (goal.at.Else-shorten_both c).After-pop-last

  restored : AreMovable (ps q ++ c.shorten_both.new.self ∷ [])
  restored =
      subst (λ t. AreMovable (ps q ++ t ∷ []))
      (sym (c.shorten_both.ensures.kept c.if-shorten_both.false))
      (movable_left (ps q ++ leaf q ∷ []) (ys q)
      (subst AreMovable (parts q ∙ sym (append_assoc (ps q) (leaf q ∷ []) (ys q))) (all q)))

pub push-requires-2-clause-level : goal.push-requires-2-clause-level
push-requires-2-clause-level c =
    (restored (goal.at.push-requires-2-clause-level c).Else-shorten_both).level

pub push-requires-2-clause-few : goal.push-requires-2-clause-few
push-requires-2-clause-few c =
    (restored (goal.at.push-requires-2-clause-few c).Else-shorten_both).few

pub take_from-requires-2-clause-level_other : goal.take_from-requires-2-clause-level_other
take_from-requires-2-clause-level_other c =
    rw c.take_from.ensures.moved (movable_after c.args.self.now c.none-middle.result
    (c.branch_at-place.result.place + 1) c.none-middle.ensures
    (movable _ c.requires.level c.requires.few)).level
