-- A leaf that is split between others.
use Rattle.std.proofs.Common.{◌≡◌, ℕ, ◌+◌, ◌^◌, ◌<◌, ◌≤◌, ◌⊎◌, inl, inr, List, [], ◌∷◌, ◌++◌, length, get_or, take, drop, sym, ap, subst, ◌∙◌, Option, Some, None, Result, Ok, Err, IfOk, IfSome, IfNone, OnErr, arith, refl}
use Rattle.std.specs.List.{All, concat}
use Rattle.std.proofs.lemmas.List.{append-nil, length-append, length-take-le, length-drop, take_all, take_more, take-append-drop, take-append-le, drop-append-le}
use Rattle.std.proofs.lemmas.List.Elements.{All-nil, All-cons, All-head, All-get_or}
use Rattle.std.proofs.Math.Seq.{take-append-add, drop-append-add}
use Rattle.rope_text.specs.declared.line_breaks.LineBreaks.{LineBreaks}
use Rattle.rope_text.specs.Text.{byte_len}
use Rattle.rope_text.specs.Dense.{IsDenseAfter, last_bytes, AreDense}
use Rattle.rope_text.proofs.DenseLaws.{last_bytes-append, last_bytes-some, dense-append, dense_left}
use Rattle.rope_text.proofs.CuttingLaws.{concat-append}
use Rattle.rope_text.proofs.Measures.{IsMeasure-byte_len}
use Rattle.rope_leaf.specs.Leaves.{AreLeaves, IsSeam}
use Rattle.rope_leaf.specs.Tree.{Tree, text, joined, leaves_of, height_of, breaks_of, leaf_tree, IsTree, IsChild, AreFamily}
use Rattle.rope_leaf.specs.Siblings.{AreSiblings}
use Rattle.rope_leaf.proofs.BesideLaws.{one_text}
use Rattle.rope_leaf.proofs.LeafLaws.{leaves_right, leaves_seam, seam-take, seam-drop}
use Rattle.rope_leaf.proofs.NodeLaws.{leaves_of-append, joined-append, joined_one}
use Rattle.rope_leaf.proofs.SiblingLaws.{byte_len-append, siblings_left, siblings_right}
use Rattle.rope_tree.proofs.RowLaws.{siblings_of}
use Rattle.rope_leaf.proofs.StandLaws.{one_leaf_is}
use Rattle.rope_leaf.proofs.InsertLeaves.{wide_leaf}
use Rattle.rope_tree.proofs.MoveLaws.{AreMovable, level_of, siblings-append}
use Rattle.rope_tree.specs.Split.{IsFrontOf, IsBackOf, MayFollow, EndsAs}

pub lone_siblings : (b : LineBreaks) (t : Tree) → IsChild b 0 t → AreSiblings b 0 (t ∷ [])
lone_siblings b t i = record {
  each = All-cons (IsChild b 0) t [] i (All-nil (IsChild b 0));
  leaves = rw append-nil i.tree.leaves;
  fits = rw append-nil i.tree.fits;
}

pub flat_height : (b : LineBreaks) (ts : List Tree) → All (IsChild b 0) ts → height_of ts ≡ 0
flat_height b [] each = refl
flat_height b (t ∷ ts) each = (All-head (IsChild b 0) t ts each).at_height

-- the bytes of the last leaf, by those of the text, and of the first one
pub last_size : (b : LineBreaks) (ts : List Tree) (k n : ℕ) → length ts ≡ k + 1
    → All (IsChild b 0) ts → n + byte_len (joined (take k ts)) ≡ byte_len (joined ts)
    → n ≡ last_bytes 492 (leaves_of ts)
last_size b ts k n len each sum =
    let d = get_or ts k (leaf_tree b []) in
    let parts : ts ≡ take k ts ++ d ∷ [] = sym (take_all (k + 1) ts (omega (arith, len)))
    ∙ take_more ts k (leaf_tree b []) (omega (arith, len)) in
    let own : IsChild b 0 d =
    All-get_or (IsChild b 0) ts k (leaf_tree b []) (omega (arith, len)) each in
    let bytes : byte_len (joined ts) ≡ byte_len (joined (take k ts)) + byte_len (text d) =
    ap (λ l. byte_len (joined l)) parts ∙ byte_len-append (take k ts) (d ∷ [])
    ∙ ap (λ l. byte_len (joined (take k ts)) + byte_len l) (joined_one d) in
    let last : last_bytes 492 (leaves_of ts) ≡ byte_len (text d) =
    ap (λ l. last_bytes 492 (leaves_of l)) parts
    ∙ ap (last_bytes 492) (leaves_of-append (take k ts) (d ∷ []))
    ∙ last_bytes-append 492 (leaves_of (take k ts)) (leaves_of (d ∷ []))
    ∙ ap (last_bytes (last_bytes 492 (leaves_of (take k ts))))
    (append-nil d.leaves ∙ one_text b d own) in
    omega (arith, sum, bytes, last)

pub first_near : (b : LineBreaks) (ts : List Tree) (m n : ℕ) → 1 ≤ length ts
    → All (IsChild b 0) ts → n ≡ byte_len (joined (take 1 ts)) → AreDense (leaves_of ts)
    → 492 ≤ m + n → IsDenseAfter m (leaves_of ts)
first_near b [] m n some each is dense long = absurd (omega arith)
first_near b (t ∷ ts) m n some each is dense long =
    let all : leaves_of (t ∷ ts) ≡ text t ∷ leaves_of ts =
    ap (λ l. l ++ leaves_of ts) (one_text b t (All-head (IsChild b 0) t ts each)) in
    subst (IsDenseAfter m) (sym all)
    (omega (arith, long, is, ap byte_len (joined_one t)), (subst AreDense all dense).1)

-- some leaves of some trees
pub leaves_some : (b : LineBreaks) (h : ℕ) (ts : List Tree) → All (IsChild b h) ts → 1 ≤ length ts
    → 1 ≤ length (leaves_of ts)
leaves_some b h [] each some = absurd (omega arith)
leaves_some b h (t ∷ ts) each some =
    omega (
      arith,
      (All-head (IsChild b h) t ts each).some,
      length-append t.leaves (leaves_of ts),
    )

-- the outcome of a split
pub cut_or_kept : {E F G H : Type 0} (r : Result (Option Tree) E)
    → IfOk r (λ found. IfSome found (λ _. F)) → IfOk r (λ found. IfSome found (λ _. G))
    → IfOk r (λ found. IfNone found H) → OnErr r H → H ⊎ (F × G)
cut_or_kept (Ok (Some x)) f g kept err = inr (f, g)
cut_or_kept (Ok None) f g kept err = inl kept
cut_or_kept (Err e) f g kept err = inl err

-- a leaf between others
pub record HasLeaf (ts ps : List Tree) (leaf : Tree) (ys : List Tree) : Type 0 where
  pub is : ts ≡ ps ++ leaf ∷ ys
  pub family : AreFamily ts
  pub flat : height_of ts ≡ 0

-- a leaf of its first characters
pub record IsStart (ps : List Tree) (leaf : Tree) (at : ℕ) (front : Tree) : Type 0 where
  pub is : front ≡ leaf_tree leaf.breaks (take at (text leaf))
  pub tree : IsTree front
  pub long : 492 ≤ last_bytes 492 (leaves_of ps) + byte_len (take at (text leaf))

-- a leaf of the rest
pub record IsEnd (leaf : Tree) (ys : List Tree) (at : ℕ) (back : Tree) : Type 0 where
  pub is : back ≡ leaf_tree leaf.breaks (drop at (text leaf))
  pub tree : IsTree back
  pub near : IsDenseAfter (byte_len (drop at (text leaf))) (leaves_of ys)

module _ (ts ps : List Tree) (leaf : Tree) (ys : List Tree) (o : HasLeaf ts ps leaf ys) where
  abbrev br : LineBreaks
  br = breaks_of ts

  abbrev lp : List (List ℕ)
  lp = leaves_of ps

  abbrev ly : List (List ℕ)
  ly = leaves_of ys

  level : AreSiblings br 0 (ps ++ leaf ∷ ys)
  level =
      subst (AreSiblings br 0) o.is
      (subst (λ h. AreSiblings br h ts) o.flat (siblings_of br (height_of ts) ts o.family))

  level_from : AreSiblings br 0 (leaf ∷ ys)
  level_from = siblings_right br 0 ps (leaf ∷ ys) level

  pub level_before : AreSiblings br 0 ps
  level_before = siblings_left br 0 ps (leaf ∷ ys) level

  pub level_after : AreSiblings br 0 ys
  level_after = siblings_right br 0 (leaf ∷ []) ys level_from

  pub own_leaf : IsChild br 0 leaf
  own_leaf = All-head (IsChild br 0) leaf ys level_from.each

  pub leaves_are : leaves_of ts ≡ lp ++ (text leaf ∷ ly)
  leaves_are = ap leaves_of o.is ∙ leaves_of-append ps (leaf ∷ ys)
      ∙ ap (λ l. lp ++ (l ++ ly)) (one_text br leaf own_leaf)

  all : AreLeaves (lp ++ (text leaf ∷ ly))
  all = subst AreLeaves leaves_are o.family.leaves

  pub texts_are : joined ts ≡ joined ps ++ (text leaf ++ joined ys)
  texts_are = ap concat leaves_are ∙ concat-append lp (text leaf ∷ ly)

  pub bytes_are : byte_len (joined ts)
      ≡ byte_len (joined ps) + (byte_len (text leaf) + byte_len (joined ys))
  bytes_are = ap byte_len texts_are ∙ IsMeasure-byte_len.joined (joined ps) _
      ∙ ap (λ n. byte_len (joined ps) + n) (IsMeasure-byte_len.joined (text leaf) (joined ys))

  module _ (at : ℕ) (some : 1 ≤ at) (within : at < length (text leaf)) where
    abbrev first : List ℕ
    first = take at (text leaf)

    abbrev second : List ℕ
    second = drop at (text leaf)

    bytes_split : byte_len first + byte_len second ≡ byte_len (text leaf)
    bytes_split = sym (IsMeasure-byte_len.joined first second)
        ∙ ap byte_len (take-append-drop at (text leaf))

    -- a leaf of some of the characters
    part_own : (x : Tree) (part : List ℕ) → x ≡ leaf_tree leaf.breaks part → IsTree x
        → 1 ≤ length part → IsChild br 0 x
    part_own x part is tree long =
        wide_leaf br 12 x part (is ∙ ap (λ b. leaf_tree b part) own_leaf.same_breaks) tree long

    part_leaves : (x : Tree) (part : List ℕ) → x ≡ leaf_tree leaf.breaks part → 1 ≤ length part
        → x.leaves ≡ part ∷ []
    part_leaves x part is long = ap (λ u. u.leaves) is ∙ one_leaf_is part long

    module _ (f : Tree) (s : IsStart ps leaf at f) where
      long_first : 1 ≤ length first
      long_first = omega (arith, some, length-take-le at (text leaf) (omega (arith, within)))

      own_first : IsChild br 0 f
      own_first = part_own f first s.is s.tree long_first

      first_leaves : leaves_of (f ∷ []) ≡ first ∷ []
      first_leaves = append-nil f.leaves ∙ part_leaves f first s.is long_first

      first_text : joined (f ∷ []) ≡ first
      first_text = ap concat first_leaves ∙ append-nil first

      fewer_first : byte_len (joined (ps ++ f ∷ [])) ≤ byte_len (joined ts)
      fewer_first =
          omega (arith, byte_len-append ps (f ∷ []), ap byte_len first_text, bytes_are, bytes_split)

      seam_first : IsSeam (joined ps) (joined (f ∷ []))
      seam_first =
          let text_is : take at (text leaf ++ joined ys) ≡ joined (f ∷ []) =
          take-append-le at (text leaf) (joined ys) (omega (arith, within)) ∙ sym first_text in
          subst (IsSeam (joined ps)) text_is
          (seam-take at (joined ps) _ (leaves_seam lp (text leaf ∷ ly) all))

      near_first : IsDenseAfter (last_bytes 492 lp) (leaves_of (f ∷ []))
      near_first = rw first_leaves (s.long, tt)

      pub all_first : AreSiblings br 0 (ps ++ f ∷ [])
      all_first =
          siblings-append br 0 ps (f ∷ []) level_before (lone_siblings br f own_first) seam_first
          near_first (omega (arith, fewer_first, o.family.fits))

      pub move_first : byte_len (joined ts) < 2 ^ 32 → AreMovable (ps ++ f ∷ [])
      move_first few = record {
        level = level_of br 0 (ps ++ f ∷ []) all_first;
        few = omega (arith, few, fewer_first);
      }

      front_whole : joined (ps ++ f ∷ []) ≡ take (length (joined ps) + at) (joined ts)
      front_whole = joined-append ps (f ∷ []) ∙ ap (λ t. joined ps ++ t) first_text
          ∙ sym (ap (take (length (joined ps) + at)) texts_are
          ∙ take-append-add (joined ps) _ at
          ∙ ap (λ t. joined ps ++ t)
          (take-append-le at (text leaf) (joined ys) (omega (arith, within))))

      pub leaf_front : IsFrontOf (length (joined ps) + at) ts (ps ++ f ∷ [])
      leaf_front = record {
        text_is = front_whole;
        level = rw o.flat all_first;
        some = omega (arith, length-append ps (f ∷ []));
        few = omega (
          arith,
          ap length o.is,
          length-append ps (leaf ∷ ys),
          length-append ps (f ∷ []),
        );
      }

      pub leaf_following : 1 ≤ length ps → MayFollow ts (ps ++ f ∷ [])
      leaf_following before n d =
          let some_leaves : 1 ≤ length lp = leaves_some br 0 ps level_before.each before in
          rw (leaves_of-append ps (f ∷ []))
          (dense-append n lp (leaves_of (f ∷ []))
          (dense_left n lp (text leaf ∷ ly) (subst (IsDenseAfter n) leaves_are d))
          (rw (last_bytes-some n 492 lp some_leaves) near_first))

    module _ (k : Tree) (e : IsEnd leaf ys at k) where
      long_second : 1 ≤ length second
      long_second = omega (arith, within, length-drop at (text leaf))

      own_second : IsChild br 0 k
      own_second = part_own k second e.is e.tree long_second

      second_leaves : leaves_of (k ∷ []) ≡ second ∷ []
      second_leaves = append-nil k.leaves ∙ part_leaves k second e.is long_second

      second_text : joined (k ∷ []) ≡ second
      second_text = ap concat second_leaves ∙ append-nil second

      fewer_second : byte_len (joined (k ∷ ys)) ≤ byte_len (joined ts)
      fewer_second =
          omega (
            arith,
            byte_len-append (k ∷ []) ys,
            ap byte_len second_text,
            bytes_are,
            bytes_split,
          )

      seam_second : IsSeam (joined (k ∷ [])) (joined ys)
      seam_second =
          let from : AreLeaves (text leaf ∷ ly) = leaves_right lp (text leaf ∷ ly) all in
          let whole : IsSeam (text leaf) (joined ys) =
          rw append-nil at (leaves_seam (text leaf ∷ []) ly from) in
          rw second_text (seam-drop at (text leaf) (joined ys) whole)

      pub all_second : AreSiblings br 0 (k ∷ ys)
      all_second =
          siblings-append br 0 (k ∷ []) ys (lone_siblings br k own_second) level_after seam_second
          (rw second_leaves e.near) (omega (arith, fewer_second, o.family.fits))

      pub move_second : byte_len (joined ts) < 2 ^ 32 → AreMovable (k ∷ ys)
      move_second few = record {
        level = level_of br 0 (k ∷ ys) all_second;
        few = omega (arith, few, fewer_second);
      }

      back_whole : joined (k ∷ ys) ≡ drop (length (joined ps) + at) (joined ts)
      back_whole = joined-append (k ∷ []) ys ∙ ap (λ t. t ++ joined ys) second_text
          ∙ sym (ap (drop (length (joined ps) + at)) texts_are
          ∙ drop-append-add (joined ps) _ at
          ∙ drop-append-le at (text leaf) (joined ys) (omega (arith, within)))

      pub leaf_back : IsBackOf (length (joined ps) + at) ts (k ∷ ys)
      leaf_back = record {
        text_is = back_whole;
        level = rw o.flat all_second;
        some = omega arith;
        few = omega (arith, ap length o.is, length-append ps (leaf ∷ ys));
      }

      pub leaf_ahead : 1 ≤ length ys → EndsAs ts (k ∷ ys)
      leaf_ahead after m n =
          let more = leaves_some br 0 ys level_after.each after in
          let now : last_bytes n (leaves_of (k ∷ ys)) ≡ last_bytes 0 ly =
          last_bytes-append n k.leaves ly ∙ last_bytes-some (last_bytes n k.leaves) 0 ly more in
          let was : last_bytes m (leaves_of ts) ≡ last_bytes 0 ly = ap (last_bytes m) leaves_are
          ∙ last_bytes-append m lp (text leaf ∷ ly)
          ∙ last_bytes-some (byte_len (text leaf)) 0 ly more in
          omega (arith, now, was)
