-- The number of leaves of trees.
use Rattle.std.proofs.Common.{◌≡◌, ℕ, ◌+◌, ◌<◌, ◌^◌, min, List, [], ◌∷◌, ◌++◌, length, get_or, take, drop, refl, sym, ap, ◌∙◌, arith, All}
use Rattle.std.specs.List.{concat}
use Rattle.std.proofs.lemmas.List.{length-append, take_more, append-nil, take-append-drop}
use Rattle.std.proofs.lemmas.List.Elements.{All-head, All-tail}
use Rattle.std.proofs.lemmas.Str.{length-le-encodes}
use Rattle.rope_text.specs.declared.line_breaks.LineBreaks.{LineBreaks}
use Rattle.rope_text.specs.Text.{byte_len}
use Rattle.rope_leaf.specs.Tree.{Tree, leaves_of, IsChild, AreChildren, one_leaf}
use Rattle.rope_leaf.proofs.LeafLaws.{leaves_le}
use Rattle.rope_leaf.proofs.NodeLaws.{leaves_of-append}

-- the leaves of one more tree
pub leaves_more : (ts : List Tree) (i : ℕ) (n : Tree) → i < length ts → n ≡ get_or ts i n
    → length (leaves_of (take (i + 1) ts)) ≡ length (leaves_of (take i ts)) + length n.leaves
leaves_more ts i n lt at =
    let here : get_or ts i n ≡ n = sym at in
    let one : leaves_of (n ∷ []) ≡ n.leaves = append-nil n.leaves in
    let more : take (i + 1) ts ≡ take i ts ++ get_or ts i n ∷ [] = take_more ts i n lt in
    let split : leaves_of (take (i + 1) ts) ≡ leaves_of (take i ts) ++ leaves_of (n ∷ []) =
    ap leaves_of more ∙ ap (λ u. leaves_of (take i ts ++ u ∷ [])) here
    ∙ leaves_of-append (take i ts) (n ∷ []) in
    omega (
      arith,
      ap length split,
      ap length one,
      length-append (leaves_of (take i ts)) (leaves_of (n ∷ [])),
    )

-- a list of trees has no more leaves than bytes
pub few_leaves : (breaks : LineBreaks) (h : ℕ) (ts : List Tree) (i : ℕ) → AreChildren breaks h ts
    → length (leaves_of (take i ts)) < 2 ^ 63
few_leaves breaks h ts i a =
    let whole = ap length (leaves_of-append (take i ts) (drop i ts)) in
    let same = ap (λ us. length (leaves_of us)) (take-append-drop i ts) in
    omega (
      arith,
      whole,
      same,
      length-append (leaves_of (take i ts)) (leaves_of (drop i ts)),
      leaves_le (leaves_of ts) a.leaves.each,
      length-le-encodes (concat (leaves_of ts)),
      a.fits,
    )

-- adjacent leaves, none of them empty
pub lowest : (breaks : LineBreaks) (ts : List Tree) → All (IsChild breaks 0) ts
    → length (leaves_of ts) ≡ length ts
lowest breaks [] each = refl
lowest breaks (t ∷ ts) each =
    let c = All-head (IsChild breaks 0) t ts each in
    omega (
      arith,
      length-append t.leaves (leaves_of ts),
      lowest breaks ts (All-tail (IsChild breaks 0) t ts each),
      c.some,
      c.tree.lone c.at_height,
    )

pub lone_count : (leaf : List ℕ) → length (one_leaf leaf) ≡ min (byte_len leaf) 1
lone_count [] = refl
lone_count (c ∷ cs) = omega (arith, length-le-encodes (c ∷ cs))
