-- The leaves into which a medium text is split.
use Rattle.std.proofs.Common.{◌≡◌, ℕ, ◌+◌, ◌≤◌, min, List, [], ◌∷◌, ◌++◌, length, take, drop, sym, ap, ap₂, subst, ◌∙◌, take-append-drop, inl, inr, true, arith}
use Rattle.std.specs.List.{All, concat}
use Rattle.std.specs.Str.{chars, IsUtf8}
use Rattle.std.proofs.lemmas.List.{append-nil, length-take-le, length-drop}
use Rattle.std.proofs.lemmas.List.Elements.{All-nil, All-cons, All-head, All-tail, All-weaker}
use Rattle.std.proofs.lemmas.Str.{chars-append}
use Rattle.rope_text.specs.declared.line_breaks.LineBreaks.{LineBreaks}
use Rattle.rope_text.specs.Cuts.{is_cut}
use Rattle.rope_text.specs.Cutting.{parts_crlf}
use Rattle.rope_text.specs.Dense.{IsDenseAfter, last_bytes}
use Rattle.rope_text.specs.Text.{byte_len}
use Rattle.rope_text.proofs.Apart.{apart_at_cut, has_chars}
use Rattle.rope_text.proofs.Measures.{IsMeasure-byte_len}
use Rattle.rope_text.proofs.Walks.{byte_len-chars}
use Rattle.rope_leaf.specs.Halves.{AreHalves}
use Rattle.rope_leaf.specs.Leaves.{AreLeaves, IsSeam}
use Rattle.rope_leaf.specs.Tree.{Tree, text, joined, leaves_of, leaf_tree, IsTree, IsWide, IsChild}
use Rattle.rope_leaf.specs.Insert.{IsReplaced}
use Rattle.rope_tree.specs.Pieces.{ArePieces, IsFirstSplit}
use Rattle.rope_tree.proofs.BuildLaws.{nodes_le}
use Rattle.rope_leaf.proofs.HalfLaws.{front_bytes, back_bytes}
use Rattle.rope_leaf.proofs.InsertLeaves.{wide_leaf}
use Rattle.rope_leaf.proofs.LeafLaws.{leaves-append}
use Rattle.rope_leaf.proofs.StandLaws.{one_leaf_is}
use Rattle.rope_leaf.proofs.TreeLaws.{wide_weaker}

-- leaves with half a leaf's bytes may follow any leaf
long_dense : (n : ℕ) (xs : List (List ℕ)) → 1 ≤ n → All (λ leaf. 491 ≤ byte_len leaf) xs
    → IsDenseAfter n xs
long_dense n [] some long = tt
long_dense n (x ∷ xs) some long =
    let own = All-head (λ leaf. 491 ≤ byte_len leaf) x xs long in (
      omega (arith, own, some),
      long_dense (byte_len x) xs (omega (arith, own))
          (All-tail (λ leaf. 491 ≤ byte_len leaf) x xs long),
    )

long_last : (n : ℕ) (xs : List (List ℕ)) → 491 ≤ n → All (λ leaf. 491 ≤ byte_len leaf) xs
    → 491 ≤ last_bytes n xs
long_last n [] some long = some
long_last n (x ∷ xs) some long =
    long_last (byte_len x) xs (All-head (λ leaf. 491 ≤ byte_len leaf) x xs long)
    (All-tail (λ leaf. 491 ≤ byte_len leaf) x xs long)

some_last : (n : ℕ) (xs : List (List ℕ)) → 1 ≤ length xs → All (λ leaf. 491 ≤ byte_len leaf) xs
    → 491 ≤ last_bytes n xs
some_last n [] some long = absurd (omega arith)
some_last n (x ∷ xs) some long =
    long_last (byte_len x) xs (All-head (λ leaf. 491 ≤ byte_len leaf) x xs long)
    (All-tail (λ leaf. 491 ≤ byte_len leaf) x xs long)

-- the leaf with these bytes
module _ (breaks : LineBreaks) (bs : List ℕ) (t : Tree) (u : IsUtf8 bs) (least : 491 ≤ length bs)
    (is : t ≡ leaf_tree breaks (chars bs)) (tree : IsTree t) where
  inside : 1 ≤ length (chars bs)
  inside = has_chars bs u (omega (arith, least))

  lone : t.leaves ≡ chars bs ∷ []
  lone = ap (λ x. x.leaves) is ∙ one_leaf_is (chars bs) inside

  own : IsChild breaks 0 t
  own = wide_leaf breaks 12 t (chars bs) is tree inside

  size : 491 ≤ byte_len (chars bs)
  size = omega (arith, least, byte_len-chars bs u)

  pub piece_alone : ArePieces breaks (chars bs) (t ∷ [])
  piece_alone =
      let flat : leaves_of (t ∷ []) ≡ chars bs ∷ [] = append-nil t.leaves ∙ lone in
      record {
        text_is = ap concat flat ∙ append-nil (chars bs);
        leaves = subst AreLeaves (sym (append-nil t.leaves)) tree.leaves;
        some = omega arith;
        each = All-cons (IsChild breaks 0) t [] own (All-nil (IsChild breaks 0));
        long = rw flat (All-cons (λ leaf. 491 ≤ byte_len leaf) (chars bs) [] size
            (All-nil (λ leaf. 491 ≤ byte_len leaf)));
      }

  -- before others
  pub piece_before : (ts : List Tree) (rest : List ℕ) → IsSeam (chars bs) rest
      → ArePieces breaks rest ts → ArePieces breaks (chars bs ++ rest) (t ∷ ts)
  piece_before ts rest seam p =
      let flat : leaves_of (t ∷ ts) ≡ chars bs ∷ leaves_of ts =
      ap (λ ls. ls ++ leaves_of ts) lone in
      let first : text t ≡ chars bs = ap concat lone ∙ append-nil (chars bs) in
      let dense : IsDenseAfter 492 (chars bs ∷ leaves_of ts) =
      (omega arith, long_dense (byte_len (chars bs)) (leaves_of ts) (omega (arith, size)) p.long) in
      let meets : IsSeam (text t) (joined ts) = rw (first, p.text_is) seam in
      record {
        text_is = ap concat flat ∙ ap (λ x. chars bs ++ x) p.text_is;
        leaves = leaves-append t.leaves (leaves_of ts) tree.leaves p.leaves meets (rw flat dense);
        some = omega arith;
        each = All-cons (IsChild breaks 0) t ts own p.each;
        long = rw flat (All-cons (λ leaf. 491 ≤ byte_len leaf) (chars bs) (leaves_of ts) size
            p.long);
      }

-- a leaf split off a longer text, before the leaves of the rest
pub pieces_more : (breaks : LineBreaks) (whole front back : List ℕ) (t : Tree) (ts : List Tree)
    → IsFirstSplit whole front back → t ≡ leaf_tree breaks (chars front) → IsTree t
    → ArePieces breaks (chars back) ts
    → ArePieces breaks (chars whole) (t ∷ ts)
pieces_more breaks whole front back t ts s is tree p =
    subst (λ x. ArePieces breaks x (t ∷ ts)) s.joined
    (piece_before breaks front t s.front_utf8 s.front_least is tree ts (chars back)
    (record { apart = s.apart }) p)

-- the split of a text
pub split_in_halves : (whole front back : List ℕ) → IsUtf8 whole → AreHalves 0 whole front back
    → IsFirstSplit whole front back
split_in_halves whole front back u h = record {
  front_utf8 = h.front_utf8;
  back_utf8 = h.back_utf8;
  joined = h.joined;
  bytes = omega (
    arith,
    front_bytes h,
    back_bytes h,
    byte_len-chars whole u,
    ap byte_len h.joined,
    IsMeasure-byte_len.joined (chars front) (chars back),
  );
  apart = h.apart;
  front_least = h.front_least;
  back_least = h.back_least;
  front_fits = omega (arith, h.front_room);
  few = inr (omega (arith, h.back_room));
}

pub split_at_cut : (whole front back : List ℕ) (n : ℕ) → IsUtf8 front → IsUtf8 back
    → front ≡ take n whole → back ≡ drop n whole → is_cut whole n ≡ true
    → 981 ≤ n → n ≤ 984 → n + 491 ≤ length whole → IsFirstSplit whole front back
split_at_cut whole front back n v w front_is back_is cut long short rest =
    let first : length front ≡ n = ap length front_is
    ∙ length-take-le n whole (omega (arith, rest)) in
    let left : length back + n ≡ length whole =
    omega (arith, ap length back_is, length-drop n whole, rest) in
    record {
      front_utf8 = v;
      back_utf8 = w;
      joined = sym (chars-append front back v)
          ∙ ap chars (ap₂ (λ a b. a ++ b) front_is back_is ∙ take-append-drop n whole);
      bytes = omega (arith, first, left);
      apart = ap₂ parts_crlf (ap chars front_is) (ap chars back_is)
          ∙ apart_at_cut whole n (subst IsUtf8 front_is v) (subst IsUtf8 back_is w)
          (omega (arith, long)) (omega (arith, rest)) cut;
      front_least = omega (arith, first, long);
      back_least = omega (arith, left, rest);
      front_fits = omega (arith, first, short);
      few = inl (omega (arith, first, long));
    }

-- the leaves replace one leaf
pub pieces_stand : (breaks : LineBreaks) (old : List ℕ) (leaf : Tree) (new : List ℕ)
    (ts : List Tree) → leaf ≡ leaf_tree breaks old → ArePieces breaks new ts → length ts ≤ 6
    → IsReplaced leaf ts new
pieces_stand breaks old leaf new ts is p few =
    rw is (record {
      text_is = p.text_is;
      leaves = p.leaves;
      stand = λ there. record {
        after = λ n half dense. long_dense n (leaves_of ts) (omega (arith, half)) p.long;
        ahead = λ n.
            let some : 1 ≤ length (leaves_of ts) =
            omega (arith, p.some, nodes_le breaks 0 ts p.each) in
            let last = some_last n (leaves_of ts) some p.long in
            omega (arith, last);
      };
      some = p.some;
      few = few;
      each = All-weaker (IsChild breaks 0) (IsWide breaks (min 12 0) 0)
          (λ u w. wide_weaker breaks (min 12 0) 12 0 u (omega arith) w) ts p.each;
    })
