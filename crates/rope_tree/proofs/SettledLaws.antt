-- Nodes over the children of two adjacent lists, each over at least 12.
use Rattle.std.proofs.Common.{◌≡◌, ℕ, ◌+◌, ◌≤◌, List, ◌++◌, length, refl, ap, ◌∙◌, arith}
use Rattle.std.specs.List.{All}
use Rattle.std.proofs.lemmas.List.{length-append}
use Rattle.std.proofs.lemmas.List.Elements.{All-append}
use Rattle.rope_text.specs.declared.line_breaks.LineBreaks.{LineBreaks}
use Rattle.rope_leaf.specs.Tree.{Tree, leaves_of, height_of, breaks_of, IsChild, AreFamily}
use Rattle.rope_leaf.specs.Siblings.{AreSiblings}
use Rattle.rope_tree.specs.Split.{nodes_over, AreSettled}
use Rattle.rope_leaf.proofs.SiblingLaws.{siblings_left, siblings_right}
use Rattle.rope_tree.proofs.MoveLaws.{AreMovable, family_of, over_some, few_over, leaves_over_both, each_over}

module _ (cs ns : List Tree) (t : AreSettled cs ns) where
  pub settled_some : 1 ≤ length ns
  settled_some =
      omega (
        arith,
        ap length t.is,
        length-append (nodes_over t.first) (nodes_over t.second),
        ap length (over_some t.first (omega (arith, t.least))),
      )

  pub settled_few : length ns ≤ 2
  settled_few =
      omega (
        arith,
        ap length t.is,
        length-append (nodes_over t.first) (nodes_over t.second),
        few_over t.first,
        few_over t.second,
      )

  pub settled_leaves : leaves_of ns ≡ leaves_of cs
  settled_leaves = ap leaves_of t.is ∙ leaves_over_both t.first t.second cs t.same

  pub settled_each : (b : LineBreaks) (h : ℕ) → AreSiblings b h cs → All (IsChild b (h + 1)) ns
  settled_each b h s =
      let both : AreSiblings b h (t.first ++ t.second) = rw t.same s in
      rw t.is (All-append (IsChild b (h + 1)) (nodes_over t.first) (nodes_over t.second)
      (each_over b h t.first (siblings_left b h t.first t.second both) (λ _. t.least) t.most)
      (each_over b h t.second (siblings_right b h t.first t.second both) t.least_second
      t.most_second))

-- two adjacent lists that were settled, and those of them that are children of a node
module _ (cs l m : List Tree) (n : AreMovable cs) (same : l ++ m ≡ cs) (least : 12 ≤ length l)
    (most : length l ≤ 24) (least_right : 1 ≤ length m → 12 ≤ length m) (most_right : length m ≤ 24)
  where
    pub settled : AreSettled cs (nodes_over l ++ nodes_over m)
    settled = record {
      first = l;
      second = m;
      same = same;
      is = refl;
      least = least;
      most = most;
      least_second = least_right;
      most_second = most_right;
    }

    both : AreSiblings (breaks_of cs) (height_of cs) (l ++ m)
    both = rw same n.level

    pub family_first : AreFamily l
    family_first =
        family_of _ _ l (siblings_left _ _ l m both) (omega (arith, least)) most

    pub family_second : 1 ≤ length m → AreFamily m
    family_second some =
        family_of _ _ m (siblings_right _ _ l m both) (omega (arith, least_right some)) most_right
