-- A tree is a rope.
use Rattle.std.proofs.Common.{◌≡◌, ℕ, zero, suc, ◌-◌, ◌*◌, ◌^◌, ◌<◌, ◌≤◌, true, [], ◌∷◌, length, refl, sym, ap, ◌∙◌, ◌+◌, ◌/◌, subst, arith}
use Rattle.std.specs.Str.{chars}
use Rattle.std.proofs.Math.Nat.{pow-succ', mul-le-mul_right}
use Rattle.std.proofs.lemmas.Bool.{and_from}
use Rattle.std.proofs.lemmas.List.{append-nil, nil_from_length}
use Rattle.std.proofs.lemmas.List.Elements.{All-weaker}
use Rattle.std.proofs.lemmas.Str.{length-le-encodes, chars-encodes}
use Rattle.rope_text.specs.Text.{byte_len}
use Rattle.rope_text.specs.Cutting.{IsChunkSize}
use Rattle.rope_text.specs.Content as of_content
use Rattle.rope_text.proofs.DenseLaws.{few_chunks}
use Rattle.rope_leaf.specs.Leaves.{IsLeafText}
use Rattle.rope_leaf.specs.Tree.{Tree, text, IsTree}
use Rattle.rope_leaf.proofs.LeafLaws.{leaf_sizes, leaves_le}
use Rattle.rope_leaf.proofs.TreeLaws.{low_tree}
use Rattle.ropey.specs.View.{RopeView, IsRope, HasFewChunks, content, view_of}
use lib.Utf8.{scalar, encode}
use Rattle.rope_slice.proofs.Kept.{scalars-concat}

-- the invariant of a rope, by its tree
pub content_of : (t : Tree) → IsTree t → of_content.IsRope (content (view_of t))
content_of t i = record {
  cut = record {
    joined = refl;
    sized = All-weaker IsLeafText (λ chunk. IsChunkSize (byte_len chunk))
        (λ leaf l. (omega (arith, l.some, length-le-encodes leaf), l.fits)) t.leaves i.leaves.each;
    whole = i.leaves.whole;
  };
  few = few_chunks t.leaves (leaf_sizes t.leaves i.leaves.each) i.leaves.dense;
  scalars = scalars-concat t.leaves i.leaves.each;
  fits = i.fits;
}

-- the number of chunks of a tree is between those of two full children and those of 24
least_chunks : (t : Tree) → IsTree t → 1 ≤ t.height → 2 * 12 ^ (t.height - 1) ≤ length t.leaves
least_chunks t i high =
    omega (arith, i.least_leaves high, mul-le-mul_right (12 ^ (t.height - 1)) (i.at_least_two high))

most_for : (h w n : ℕ) → (h ≡ 0 → n ≤ 1) → w ≤ 24 → (1 ≤ h → n ≤ w * 24 ^ (h - 1)) → n ≤ 24 ^ h
most_for zero w n lone many most = lone refl
most_for (suc h) w n lone many most =
    let e : suc h - 1 ≡ h = omega arith in
    let m : n ≤ w * 24 ^ h = subst (λ k. n ≤ w * 24 ^ k) e (most (omega arith)) in
    omega (arith, m, pow-succ' 24 h, mul-le-mul_right (24 ^ h) many)

pub rope_of : (t : Tree) → IsTree t → IsRope (view_of t)
rope_of t i = record {
  content = content_of t i;
  low = low_tree t i;
  lone = i.lone;
  least = least_chunks t i;
  most = most_for t.height t.width (length t.leaves) i.lone i.at_most_24 i.most_leaves;
}

-- each leaf has a byte
pub few_leaves : (t : Tree) → IsTree t → length t.leaves < 2 ^ 63
few_leaves t i = omega (arith, leaves_le t.leaves i.leaves.each, length-le-encodes (text t), i.fits)

-- a rope of few chunks and no text has none
pub no_chunks : (r : RopeView) → r.text ≡ [] → HasFewChunks r → r.chunks ≡ []
no_chunks r empty few =
    let some : length r.chunks ≤ (byte_len [] + 980) / 981 =
    subst (λ t. length r.chunks ≤ (byte_len t + 980) / 981) empty few in
    nil_from_length r.chunks (omega (arith, some))

-- the bytes of a character spell it
pub one_char : (c : ℕ) → scalar c ≡ true → chars (encode c) ≡ c ∷ []
one_char c s = ap chars (sym (append-nil (encode c)))
    ∙ chars-encodes (c ∷ []) (and_from (scalar c) true s refl)
