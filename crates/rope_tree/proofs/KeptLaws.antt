-- A list of children whose nodes were written back as they were, and what follows at the returns
-- of edits that changed nothing.
use Rattle.std.proofs.Common.{◌≡◌, ℕ, ◌+◌, ◌<◌, ◌≤◌, Bool, true, List, ◌++◌, length, get_or, set, take, drop, ap, ◌∙◌, arith}
use Rattle.std.specs.Prelude.{Result, Ok, Err, IsErr}
use Rattle.std.proofs.lemmas.Bool.{false≢true}
use Rattle.std.proofs.lemmas.List.{set-get_or, length-drop, take-append-drop}
use Rattle.rope_leaf.specs.Tree.{Tree, joined, tree_over}
use Rattle.rope_leaf.specs.Insert.{MayInsert}
use Rattle.rope_leaf.proofs.InsertLaws.{begins_some}
use Rattle.rope_tree.specs.declared.node.Children.TheInside.{Inside}
use Rattle.rope_tree.specs.Listed.{listed, IsListed}
use Rattle.rope_tree.specs.Tries.{IsTried}

-- an entry that was overwritten by itself
pub unset : (xs : List Tree) (k : ℕ) (u d : Tree) → u ≡ get_or xs k d → set xs k u ≡ xs
unset xs k u d same = ap (set xs k) same ∙ set-get_or xs k d

-- an entry in each of two parts of a list
pub unset_parts : (xs front back : List Tree) (n k : ℕ) (u v d e : Tree) → front ≡ take n xs
    → back ≡ drop n xs → u ≡ get_or front k d → v ≡ get_or back 0 e
    → set front k u ++ set back 0 v ≡ xs
unset_parts xs front back n k u v d e front_is back_is left right =
    ap (λ l. l ++ set back 0 v) (unset front k u d left)
    ∙ ap (λ l. front ++ l) (unset back 0 v e right) ∙ ap (λ l. l ++ back) front_is
    ∙ ap (λ l. take n xs ++ l) back_is ∙ take-append-drop n xs

pub same_seen : (a : Inside) (ts nodes : List Tree) → nodes ≡ a.nodes → listed a ≡ ts
    → take (length a.totals) nodes ≡ ts
same_seen a ts nodes same view = ap (take (length a.totals)) same ∙ view

pub same_listed : (a b : Inside) → IsListed a → b.nodes ≡ a.nodes → b.totals ≡ a.totals
    → b.height ≡ a.height → b.breaks ≡ a.breaks → IsListed b
same_listed a b i nodes totals height breaks = record {
  room = rw nodes i.room;
  totals_right = rw (totals, nodes) i.totals_right;
  above = rw (height, totals, nodes) i.above;
  same_breaks = rw (breaks, totals, nodes) i.same_breaks;
  places = rw (totals, nodes) i.places;
}

-- a text that goes to the right of a seam is not inserted at the end
pub right_within : (ts : List Tree) (at : ℕ) (s : List ℕ) (to_right : Bool)
    → MayInsert (tree_over ts) at s to_right → to_right ≡ true → at < length (joined ts)
right_within ts at s to_right side e =
    omega (arith, begins_some (drop at (joined ts)) (side.right e), length-drop at (joined ts))

-- an edit for which memory ran out
pub refused : {E A P : Type 0} (r : Result Bool E) (old new : A) → IsErr r → new ≡ old
    → IsTried r old new P
refused (Ok did) old new is same = absurd (false≢true is)
refused (Err e) old new is same = record { done = tt; kept = tt; err = same }
