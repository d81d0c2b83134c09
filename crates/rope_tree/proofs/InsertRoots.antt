-- The results of an insert become one tree.
use Rattle.std.proofs.Common.{◌≡◌, ℕ, ◌<◌, ◌^◌, eqb, Some, slice_get, List, length, drop, ap, ◌∙◌, arith}
use Rattle.std.specs.List.{concat}
use Rattle.std.proofs.lemmas.List.{drop_more}
use Rattle.std.proofs.lemmas.Option.{slice_get_within, get_or_from_slice_get}
use Rattle.rope_text.specs.Text.{byte_len}
use Rattle.rope_text.specs.Breaks.{begins_with_lf}
use Rattle.rope_leaf.specs.Tree.{Tree, text, height_of, breaks_of, IsTree, AreChildren}
use Rattle.rope_leaf.specs.Siblings.{gathered}
use Rattle.rope_leaf.specs.Insert.{IsInserted}
use Rattle.rope_leaf.proofs.TreeLaws.{breaks_of_wide}
use Rattle.rope_leaf.proofs.NodeLaws.{children_of_first}
use Rattle.rope_tree.proofs.Gathered.{is_gathered, gathered_tree}

-- the character at an index begins the rest
pub begins_at : (xs : List ℕ) (i x : ℕ) → slice_get xs i ≡ Some x
    → begins_with_lf (drop i xs) ≡ eqb x 10
begins_at xs i x e = ap begins_with_lf (drop_more xs i x (slice_get_within xs i x e))
    ∙ ap (λ d. eqb d 10) (get_or_from_slice_get xs i x x e)

-- the results of an insert, as one tree
module _ (old : Tree) (ts : List Tree) (new : List ℕ) (i : IsInserted old ts new) where
  pub root_children : byte_len new < 2 ^ 63 → length ts ≡ 2
      → AreChildren (breaks_of ts) (height_of ts) ts
  root_children fits two = children_of_first old.breaks old.height ts (record {
    at_least_two = omega (arith, two);
    at_most_24 = omega (arith, two);
    each = i.parts.two two;
    leaves = i.leaves;
    fits = omega (arith, ap byte_len i.text_is, fits);
  })

  pub root_text : (t : Tree) → t ≡ gathered ts → text t ≡ new
  root_text t is = ap text is ∙ ap concat (is_gathered ts i.parts.some).leaves ∙ i.text_is

  pub root_breaks : (t : Tree) → t ≡ gathered ts → t.breaks ≡ old.breaks
  root_breaks t is = ap (λ u. u.breaks) is ∙ (is_gathered ts i.parts.some).same_breaks
      ∙ breaks_of_wide old.breaks _ old.height ts i.parts.some i.parts.each

  pub root_tree : byte_len new < 2 ^ 63 → (t : Tree) → t ≡ gathered ts → IsTree t
  root_tree fits t is =
      rw is (gathered_tree old.breaks _ old.height ts i.parts.some i.parts.each
      (λ more. root_children fits (omega (arith, i.parts.at_most_two, more))))
