-- Two lists of children as one list, and as two lists under one root.
use Rattle.std.proofs.Common.{◌≡◌, ℕ, ◌+◌, ◌^◌, ◌<◌, ◌≤◌, List, [], ◌∷◌, ◌++◌, length, sym, ap, subst, ◌∙◌, arith}
use Rattle.std.specs.List.{concat}
use Rattle.std.proofs.lemmas.List.{append-nil, length-append}
use Rattle.std.proofs.lemmas.List.Elements.{All-nil, All-cons}
use Rattle.rope_text.specs.declared.line_breaks.LineBreaks.{LineBreaks}
use Rattle.rope_text.specs.Text.{byte_len}
use Rattle.rope_text.specs.Dense.{IsDenseAfter, last_bytes}
use Rattle.rope_text.proofs.CuttingLaws.{concat-append}
use Rattle.rope_leaf.specs.Leaves.{IsSeam}
use Rattle.rope_leaf.specs.Tree.{Tree, joined, leaves_of, height_of, breaks_of, tree_over, IsChild, AreFamily}
use Rattle.rope_leaf.specs.Siblings.{AreSiblings}
use Rattle.rope_leaf.proofs.NodeLaws.{leaves_of-append}
use Rattle.rope_leaf.proofs.SiblingLaws.{byte_len-append, siblings_left, siblings_right, children_of}
use Rattle.rope_tree.proofs.RowLaws.{siblings_of}
use Rattle.rope_tree.proofs.PartLaws.{same_set}
use Rattle.rope_leaf.proofs.TreeLaws.{is_wide_over}
use Rattle.rope_tree.proofs.MoveLaws.{AreMovable, level_of, siblings-append, family_of}

-- two lists of children of one height that may follow each other
pub record AreAppendable (xs ys : List Tree) : Type 0 where
  pub left : AreFamily xs
  pub right : AreFamily ys
  pub same_breaks : breaks_of ys ≡ breaks_of xs
  pub level : height_of ys ≡ height_of xs
  pub seam : IsSeam (joined xs) (joined ys)
  pub near : IsDenseAfter (last_bytes 492 (leaves_of xs)) (leaves_of ys)
  pub few : byte_len (joined xs) + byte_len (joined ys) < 2 ^ 32

module _ (xs ys : List Tree) (o : AreAppendable xs ys) where
  abbrev b : LineBreaks
  b = breaks_of xs

  abbrev h : ℕ
  h = height_of xs

  both : AreSiblings b h (xs ++ ys)
  both =
      let own : AreSiblings b h ys =
      subst (λ y. AreSiblings y h ys) o.same_breaks
      (subst (λ n. AreSiblings (breaks_of ys) n ys) o.level
      (siblings_of (breaks_of ys) (height_of ys) ys o.right)) in
      siblings-append b h xs ys (siblings_of b h xs o.left) own o.seam o.near
      (omega (arith, o.few, byte_len-append xs ys))

  pub appended_movable : AreMovable (xs ++ ys)
  appended_movable = record {
    level = level_of b h (xs ++ ys) both;
    few = omega (arith, o.few, byte_len-append xs ys);
  }

  pub appended_family : length (xs ++ ys) ≤ 24 → AreFamily (xs ++ ys)
  appended_family most =
      family_of b h (xs ++ ys) both
      (omega (arith, length-append xs ys, o.left.at_least_two)) most

  pub appended_text : joined (xs ++ ys) ≡ joined xs ++ joined ys
  appended_text = ap concat (leaves_of-append xs ys) ∙ concat-append (leaves_of xs) (leaves_of ys)

  pub appended_breaks : breaks_of (xs ++ ys) ≡ b
  appended_breaks = sym (same_set xs ys (omega (arith, o.left.at_least_two)))

  -- the children of both in two other lists
  module _ (ls ms : List Tree) (same : ls ++ ms ≡ xs ++ ys) (many : 24 < length (xs ++ ys))
      (least : 12 ≤ length ls) (most : length ls ≤ 24)
      (least_right : 1 ≤ length ms → 12 ≤ length ms) (most_right : length ms ≤ 24) where
    abbrev nodes : List Tree
    nodes = tree_over ls ∷ tree_over ms ∷ []

    some_right : 12 ≤ length ms
    some_right =
        least_right (omega (arith, many, most, length-append ls ms, ap length same))

    in_order : AreSiblings b h (ls ++ ms)
    in_order = rw same both

    first : AreSiblings b h ls
    first = siblings_left b h ls ms in_order

    second : AreSiblings b h ms
    second = siblings_right b h ls ms in_order

    pub first_family : AreFamily ls
    first_family = family_of b h ls first (omega (arith, least)) most

    pub second_family : AreFamily ms
    second_family = family_of b h ms second (omega (arith, some_right)) most_right

    pub root_leaves : leaves_of nodes ≡ leaves_of (xs ++ ys)
    root_leaves = ap (λ l. leaves_of ls ++ l) (append-nil (leaves_of ms))
        ∙ sym (leaves_of-append ls ms) ∙ ap leaves_of same

    root_siblings : AreSiblings b (h + 1) nodes
    root_siblings = record {
      each =
          All-cons (IsChild b (h + 1)) (tree_over ls) (tree_over ms ∷ [])
          (is_wide_over b 12 h ls (children_of b h ls first (omega (arith, least)) most) least)
          (All-cons (IsChild b (h + 1)) (tree_over ms) []
          (is_wide_over b 12 h ms
          (children_of b h ms second (omega (arith, some_right)) most_right) some_right)
          (All-nil (IsChild b (h + 1))));
      leaves = rw root_leaves both.leaves;
      fits = omega (arith, both.fits, ap (λ l. byte_len (concat l)) root_leaves);
    }

    pub root_movable : AreMovable nodes
    root_movable = record {
      level = level_of b (h + 1) nodes root_siblings;
      few = omega (
        arith,
        appended_movable.few,
        ap (λ l. byte_len (concat l)) root_leaves,
      );
    }

    pub root_family : AreFamily nodes
    root_family = family_of b (h + 1) nodes root_siblings (omega arith) (omega arith)

    pub root_breaks : breaks_of ls ≡ b
    root_breaks = same_set ls ms (omega (arith, least)) ∙ ap breaks_of same ∙ appended_breaks
