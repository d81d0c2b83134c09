-- The empty side of a split tree.
use Rattle.std.proofs.Common.{◌≡◌, ℕ, List, [], length, refl, sym, arith}
use Rattle.std.proofs.lemmas.List.{drop_all}
use Rattle.rope_leaf.specs.Tree.{Tree, text, leaf_tree}
use Rattle.rope_leaf.proofs.LeafLaws.{no_leaves}
use Rattle.rope_join.specs.Cut.{IsFront, IsBack}

pub empty_front : (n r : Tree) (l : List ℕ) (at : ℕ) → r ≡ leaf_tree n.breaks l → l ≡ [] → at ≡ 0
    → IsFront at n r
empty_front n r l at e f z =
    rw (e, f, z) (record {
      text_is = refl;
      same_breaks = refl;
      leaves = no_leaves;
      not_higher = omega arith;
      near = λ high. absurd (omega arith);
      following = λ s. absurd (omega (arith, s.some, s.past));
    })

pub empty_back : (n r : Tree) (l : List ℕ) (at : ℕ) → r ≡ leaf_tree n.breaks l → l ≡ []
    → at ≡ length (text n) → IsBack at n r
empty_back n r l at e f z =
    rw (e, f) (record {
      text_is = sym (drop_all at (text n) (omega arith));
      same_breaks = refl;
      leaves = no_leaves;
      not_higher = omega arith;
      near = λ high. absurd (omega arith);
      ahead = λ s. absurd (omega (arith, s.some, s.before, z));
    })
