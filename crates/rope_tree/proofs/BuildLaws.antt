-- Trees built from the bottom up: leaves split off the front of a text, and nodes over groups of
-- nodes.
use Rattle.std.proofs.Common.{◌≡◌, ℕ, zero, suc, ◌+◌, ◌-◌, ◌*◌, ◌/◌, ◌%◌, ◌^◌, ◌<◌, ◌≤◌, true, List, [], ◌∷◌, ◌++◌, length, take, drop, ap, ap₂, sym, subst, ◌∙◌, get_or, arith, append_assoc, take-append-drop, inl, inr}
use Rattle.std.specs.List.{All, concat}
use Rattle.std.specs.Str.{chars, IsUtf8}
use Rattle.std.proofs.Math.Nat.{mul-le-mul_right, mul-suc, mod-lt, div-mul-le_self, div-le_of_le-mul}
use Rattle.std.proofs.lemmas.Nat.{le-div, div-add-mod'}
use Rattle.std.proofs.lemmas.Bool.{cases_lt}
use Rattle.std.proofs.lemmas.List.{append-nil, length-append, length-take-le, length-drop, take_all}
use Rattle.std.proofs.lemmas.Str.{chars-append, chars-nil, scalars-chars, length-le-encodes}
use Rattle.std.proofs.lemmas.List.Elements.{All-push, All-head, All-tail}
use Rattle.rope_text.specs.declared.line_breaks.LineBreaks.{LineBreaks}
use Rattle.rope_text.specs.Text.{byte_len}
use Rattle.rope_text.specs.Cuts.{is_cut}
use Rattle.rope_text.specs.Cutting.{parts_crlf}
use Rattle.rope_text.proofs.Apart.{some_char, apart_at_cut}
use Rattle.rope_text.proofs.Walks.{byte_len-chars}
use Rattle.rope_text.proofs.CuttingLaws.{concat-append}
use Rattle.rope_text.proofs.DenseLaws.{last_bytes-append, dense-append}
use Rattle.rope_leaf.specs.Leaves.{IsLeafText, IsSeam}
use Rattle.rope_leaf.specs.Tree.{Tree, leaves_of, joined, height_of, breaks_of, one_leaf, leaf_tree, tree_over, IsTree, IsChild, AreChildren}
use Rattle.rope_leaf.specs.Siblings.{AreSiblings}
use Rattle.rope_tree.specs.Fronts.{AreFronts, AreFrontNodes}
use Rattle.rope_leaf.proofs.LeafLaws.{lone_leaf, leaves-append, seam-nil, seam_of_left, seam_left_longer}
use Rattle.rope_leaf.proofs.TreeLaws.{is_wide_over, height_of_is, breaks_of_is}
use Rattle.rope_leaf.proofs.NodeLaws.{leaves_of-append}
use Rattle.rope_leaf.proofs.SiblingLaws.{siblings_left, siblings_right, children_of}
use Rattle.rope_leaf.proofs.StandLaws.{one_leaf_is}
use Rattle.rope_leaf.proofs.InsertLeaves.{wide_leaf}

-- one more leaf, from the front of the rest
fronts_more : (text : List ℕ) (leaves : List (List ℕ)) (rest x y : List ℕ)
    → AreFronts text leaves rest → x ++ y ≡ rest → IsLeafText x → IsSeam x y
    → (1 ≤ length y → 492 ≤ byte_len x)
    → AreFronts text (leaves ++ x ∷ []) y
fronts_more text leaves rest x y fronts parts leaf seam long =
    let all : concat (leaves ++ x ∷ []) ≡ concat leaves ++ x = concat-append leaves (x ∷ [])
    ∙ ap (λ t. concat leaves ++ t) (append-nil x) in
    let before : IsSeam (concat leaves) (x ++ y) =
    subst (IsSeam (concat leaves)) (sym parts) fronts.apart in
    let last = fronts.long (omega (arith, ap length parts, length-append x y, leaf.some)) in
    let dense =
    dense-append 492 leaves (x ∷ []) fronts.are_leaves.dense (omega (arith, last), tt) in
    record {
      whole = ap (λ t. t ++ y) all ∙ append_assoc (concat leaves) x y
          ∙ ap (λ t. concat leaves ++ t) parts ∙ fronts.whole;
      are_leaves =
          leaves-append leaves (x ∷ []) fronts.are_leaves (lone_leaf x leaf)
          (subst (IsSeam (concat leaves)) (sym (append-nil x))
          (seam_of_left (concat leaves) x y before)) dense;
      long = λ more. rw (last_bytes-append 492 leaves (x ∷ [])) (long more);
      apart = subst (λ t. IsSeam t y) (sym all) (seam_left_longer (concat leaves) x y before seam);
    }

-- the leaves below one more node
pub leaves_more : (breaks : LineBreaks) (ts : List Tree) (t : Tree) (x : List ℕ) → 1 ≤ length x
    → t ≡ leaf_tree breaks x → leaves_of (ts ++ t ∷ []) ≡ leaves_of ts ++ x ∷ []
leaves_more breaks ts t x some is =
    leaves_of-append ts (t ∷ [])
    ∙ ap (λ ls. leaves_of ts ++ ls) (append-nil t.leaves ∙ ap (λ u. u.leaves) is
    ∙ one_leaf_is x some)

nodes_more : (breaks : LineBreaks) (text : List ℕ) (ts : List Tree) (rest x y : List ℕ) (t : Tree)
    → AreFrontNodes breaks text ts rest → x ++ y ≡ rest → IsLeafText x → IsSeam x y
    → (1 ≤ length y → 492 ≤ byte_len x)
    → t ≡ leaf_tree breaks x → IsTree t → AreFrontNodes breaks text (ts ++ t ∷ []) y
nodes_more breaks text ts rest x y t a parts leaf seam long is tree = record {
  each = All-push (IsChild breaks 0) ts t a.each (wide_leaf breaks 12 t x is tree leaf.some);
  fronts = subst (λ ls. AreFronts text ls y) (sym (leaves_more breaks ts t x leaf.some is))
      (fronts_more text (leaves_of ts) rest x y a.fronts parts leaf seam long);
}

-- one more node, for the front of the rest
pub nodes_front : (breaks : LineBreaks) (text : List ℕ) (ts : List Tree) (rest x y : List ℕ)
    (t : Tree) → AreFrontNodes breaks text ts rest → x ++ y ≡ rest → 1 ≤ byte_len x → IsSeam x y
    → (1 ≤ length y → 492 ≤ byte_len x)
    → t ≡ leaf_tree breaks x → IsTree t → AreFrontNodes breaks text (ts ++ t ∷ []) y
    × (length (leaves_of (ts ++ t ∷ [])) ≡ length (leaves_of ts) + 1)
nodes_front breaks text ts rest x y t a parts some seam long is tree =
    let inside : 1 ≤ length x = some_char x some in
    let lone : t.leaves ≡ x ∷ [] = ap (λ u. u.leaves) is ∙ one_leaf_is x inside in
    let i : IsLeafText x =
    All-head IsLeafText x [] (subst (All IsLeafText) lone tree.leaves.each) in (
      nodes_more breaks text ts rest x y t a parts i seam long is tree,
      ap length (leaves_more breaks ts t x inside is) ∙ length-append (leaves_of ts) (x ∷ []),
    )

-- bytes of a text that fit in a leaf
leaf_of_bytes : (bs : List ℕ) → IsUtf8 bs → 0 < length bs → length bs ≤ 984 → IsLeafText (chars bs)
leaf_of_bytes bs u some short =
    let size : byte_len (chars bs) ≡ length bs = byte_len-chars bs u in
    record {
      some = some_char (chars bs) (omega arith);
      fits = omega arith;
      scalars = scalars-chars bs u;
    }

-- one more node, for the bytes of a front that is split off at a legal position
pub nodes_cut : (breaks : LineBreaks) (text : List ℕ) (ts : List Tree) (bs front back leaf : List ℕ)
    (r : ℕ) (t : Tree) → AreFrontNodes breaks text ts (chars bs)
    → IsUtf8 bs → IsUtf8 front → IsUtf8 back → front ≡ take (r - 0) bs → back ≡ drop r bs → 492 ≤ r
    → r < length bs → r ≤ 984 → is_cut bs r ≡ true
    → leaf ≡ chars front → t ≡ leaf_tree breaks leaf → IsTree t
    → AreFrontNodes breaks text (ts ++ t ∷ []) (chars back)
    × (length (leaves_of (ts ++ t ∷ [])) ≡ length (leaves_of ts) + 1)
nodes_cut breaks text ts bs front back leaf r t a u v w is_front is_back some inside short cut
    of_front is tree =
    let e : front ≡ take r bs = is_front ∙ ap (λ k. take k bs) (omega arith) in
    let n : length front ≡ r = ap length e ∙ length-take-le r bs (omega arith) in
    let parts : chars front ++ chars back ≡ chars bs = sym (chars-append front back v)
    ∙ ap chars (ap₂ (λ a b. a ++ b) e is_back ∙ take-append-drop r bs) in
    let seam : IsSeam (chars front) (chars back) =
    record {
      apart = ap₂ (λ a b. parts_crlf (chars a) (chars b)) e is_back
          ∙ apart_at_cut bs r (subst IsUtf8 e v) (subst IsUtf8 is_back w) (omega arith) inside cut;
    } in
    let own : t ≡ leaf_tree breaks (chars front) = is ∙ ap (leaf_tree breaks) of_front in
    let i : IsLeafText (chars front) = leaf_of_bytes front v (omega arith) (omega arith) in (
      nodes_more breaks text ts (chars bs) (chars front) (chars back) t a parts i seam
          (λ _. omega (arith, byte_len-chars front v)) own tree,
      ap length (leaves_more breaks ts t (chars front) i.some own)
          ∙ length-append (leaves_of ts) (chars front ∷ []),
    )

-- the last node has the whole rest
pub nodes_last : (breaks : LineBreaks) (text : List ℕ) (ts : List Tree) (bs leaf : List ℕ)
    (t : Tree) → AreFrontNodes breaks text ts (chars bs)
    → IsUtf8 bs → 0 < length bs → length bs ≤ 984 → leaf ≡ chars bs → t ≡ leaf_tree breaks leaf
    → IsTree t
    → AreFrontNodes breaks text (ts ++ t ∷ []) []
    × (length (leaves_of (ts ++ t ∷ [])) ≡ length (leaves_of ts) + 1)
nodes_last breaks text ts bs leaf t a u some short of_rest is tree =
    let own : t ≡ leaf_tree breaks (chars bs) = is ∙ ap (leaf_tree breaks) of_rest in
    let i : IsLeafText (chars bs) = leaf_of_bytes bs u some short in (
      nodes_more breaks text ts (chars bs) (chars bs) [] t a (append-nil (chars bs)) i
          (seam-nil (chars bs)) (λ more. absurd (omega arith)) own tree,
      ap length (leaves_more breaks ts t (chars bs) i.some own)
          ∙ length-append (leaves_of ts) (chars bs ∷ []),
    )

-- with an empty rest, the nodes have the whole text
pub nodes_whole : (breaks : LineBreaks) (text : List ℕ) (ts : List Tree)
    → AreFrontNodes breaks text ts [] → joined ts ≡ text
nodes_whole breaks text ts a = sym (append-nil (joined ts)) ∙ a.fronts.whole

pub siblings_whole : (breaks : LineBreaks) (text : List ℕ) (ts : List Tree)
    → AreFrontNodes breaks text ts [] → byte_len text < 2 ^ 63 → AreSiblings breaks 0 ts
siblings_whole breaks text ts a few = record {
  each = a.each;
  leaves = a.fronts.are_leaves;
  fits = omega (arith, ap byte_len (nodes_whole breaks text ts a));
}

-- at most one leaf
pub leaf_few : (x : List ℕ) → length (one_leaf x) ≤ (byte_len x + 980) / 981
leaf_few [] = omega arith
leaf_few (c ∷ x) = omega (arith, length-le-encodes (c ∷ x))

-- an even share of the remaining nodes
pub share_least : (left groups : ℕ) → 1 ≤ groups → 12 * groups ≤ left → 12 ≤ left / groups
share_least left groups some least = le-div 12 left groups some least

pub share_most : (left groups : ℕ) → left ≤ 24 * groups → left / groups ≤ 24
share_most left groups most = div-le_of_le-mul groups (omega arith)

pub least_after : (left groups : ℕ) → 1 ≤ groups → 12 * groups ≤ left
    → 12 * (groups - 1) ≤ left - left / groups
least_after left zero some least = omega arith
least_after left (suc g) some least =
    let q : ℕ = left / suc g in
    omega (
      arith,
      div-mul-le_self left (suc g),
      mul-suc q g,
      mul-le-mul_right g (share_least left (suc g) some least),
    )

pub most_after : (left groups : ℕ) → 1 ≤ groups → left ≤ 24 * groups
    → left - left / groups ≤ 24 * (groups - 1)
most_after left zero some most = absurd (omega arith)
most_after left (suc g) some most =
    let q : ℕ = left / suc g in
    let r : ℕ = left % suc g in
    elim (cases_lt q 24) [
      | inl less ↦
          let few : q ≤ 23 = omega arith in
          omega (
            arith,
            div-add-mod' left (suc g),
            mod-lt left {m = suc g} some,
            mul-suc q g,
            mul-le-mul_right g few,
          )
      | inr ge ↦ omega (arith, div-add-mod' left (suc g), mul-suc q g, mul-le-mul_right g ge)
    ]

-- the nodes made so far over the first nodes, and the remaining nodes
pub record AreOver (breaks : LineBreaks) (h : ℕ) (whole done rest : List Tree) : Type 0 where
  pub each : All (IsChild breaks (h + 1)) done
  pub left : AreSiblings breaks h rest
  pub same : leaves_of done ++ leaves_of rest ≡ leaves_of whole

-- the next group of children
pub group_children : (breaks : LineBreaks) (h : ℕ) (rest : List Tree) (n : ℕ)
    → AreSiblings breaks h rest → 12 ≤ n → n ≤ 24 → n ≤ length rest
    → AreChildren breaks h (take n rest)
group_children breaks h rest n a least most within =
    let s : AreSiblings breaks h (take n rest ++ drop n rest) = rw take-append-drop a in
    let l = length-take-le n rest within in
    children_of breaks h (take n rest) (siblings_left breaks h (take n rest) (drop n rest) s)
    (omega arith) (omega arith)

-- one more node
pub over_more : (breaks : LineBreaks) (h : ℕ) (whole done rest : List Tree) (n : ℕ) (t : Tree)
    → AreOver breaks h whole done rest → 12 ≤ n → n ≤ 24 → n ≤ length rest
    → t ≡ tree_over (take n rest) → AreOver breaks h whole (done ++ t ∷ []) (drop n rest)
over_more breaks h whole done rest n t a least most within is =
    let s : AreSiblings breaks h (take n rest ++ drop n rest) = rw take-append-drop a.left in
    let l = length-take-le n rest within in
    let child : IsChild breaks (h + 1) t =
    subst (IsChild breaks (h + 1)) (sym is)
    (is_wide_over breaks 12 h (take n rest)
    (group_children breaks h rest n a.left least most within) (omega arith)) in
    let front : leaves_of (done ++ t ∷ []) ≡ leaves_of done ++ leaves_of (take n rest) =
    leaves_of-append done (t ∷ [])
    ∙ ap (λ ls. leaves_of done ++ ls) (append-nil t.leaves ∙ ap (λ u. u.leaves) is) in
    let both : leaves_of (take n rest) ++ leaves_of (drop n rest) ≡ leaves_of rest =
    sym (leaves_of-append (take n rest) (drop n rest)) ∙ ap leaves_of (take-append-drop n rest) in
    record {
      each = All-push (IsChild breaks (h + 1)) done t a.each child;
      left = siblings_right breaks h (take n rest) (drop n rest) s;
      same = ap (λ ls. ls ++ leaves_of (drop n rest)) front
          ∙ append_assoc (leaves_of done) (leaves_of (take n rest)) (leaves_of (drop n rest))
          ∙ ap (λ ls. leaves_of done ++ ls) both ∙ a.same;
    }

-- without remaining nodes, the leaves are those of all nodes
pub over_same : (breaks : LineBreaks) (h : ℕ) (whole done rest : List Tree)
    → AreOver breaks h whole done rest → length rest ≡ 0 → leaves_of done ≡ leaves_of whole
over_same breaks h whole done [] a none = sym (append-nil (leaves_of done)) ∙ a.same
over_same breaks h whole done (t ∷ ts) a none = absurd (omega arith)

-- the back of a list, as a slice
pub back_of : (ts xs : List Tree) (n : ℕ) → xs ≡ take (length ts - n) (drop n ts) → xs ≡ drop n ts
back_of ts xs n e = e ∙ take_all (length ts - n) (drop n ts) (simp length-drop (omega arith))

-- a single node has the leaves of the list
pub lone_leaves : (ts : List Tree) (t : Tree) → length ts ≡ 1 → get_or ts 0 t ≡ t
    → leaves_of ts ≡ t.leaves
lone_leaves [] t one here = absurd (omega arith)
lone_leaves (u ∷ []) t one here = append-nil u.leaves ∙ ap (λ v. v.leaves) here
lone_leaves (u ∷ v ∷ us) t one here = absurd (omega arith)

-- the next level
pub level_up : (breaks : LineBreaks) (h : ℕ) (ts us : List Tree) → AreSiblings breaks h ts
    → 1 ≤ length ts → AreSiblings (breaks_of ts) (height_of ts + 1) us → 1 ≤ length us
    → AreSiblings breaks (height_of us) us
level_up breaks h ts us a some b more =
    let e : height_of us ≡ height_of ts + 1 =
    height_of_is (breaks_of ts) (height_of ts + 1) us more b.each in
    let s : AreSiblings breaks (height_of ts + 1) us =
    subst (λ x. AreSiblings x (height_of ts + 1) us) (breaks_of_is breaks h ts some a.each) b in
    subst (λ k. AreSiblings breaks k us) (sym e) s

-- each node has a leaf
pub nodes_le : (breaks : LineBreaks) (h : ℕ) (ts : List Tree) → All (IsChild breaks h) ts
    → length ts ≤ length (leaves_of ts)
nodes_le breaks h [] each = omega arith
nodes_le breaks h (t ∷ ts) each =
    omega (
      arith,
      (All-head (IsChild breaks h) t ts each).some,
      nodes_le breaks h ts (All-tail (IsChild breaks h) t ts each),
      length-append t.leaves (leaves_of ts),
    )
