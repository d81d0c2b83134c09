-- A row of the children of a node, and the totals of all children.
use Rattle.std.proofs.Common.{◌≡◌, ℕ, ◌+◌, ◌-◌, ◌<◌, ◌≤◌, ◌^◌, inl, inr, min, List, [], ◌∷◌, ◌++◌, length, get_or, take, drop, refl, sym, ap, subst, ◌∙◌, arith}
use Rattle.std.proofs.lemmas.Bool.{cases_lt}
use Rattle.std.specs.List.{All}
use Rattle.std.proofs.lemmas.List.{append_assoc, length-append, length-take, length-drop, take-take, take-append-drop, take-append-le, drop-drop, drop-take, drop_all, take_all}
use Rattle.std.proofs.lemmas.List.Elements.{All-take, All-drop}
use Rattle.std.proofs.Math.Seq.{take-add, take-length, take-append_seam, take-append-add, drop-append_seam}
use Rattle.rope_text.specs.declared.line_breaks.LineBreaks.{LineBreaks}
use Rattle.rope_text.specs.declared.text_info.TextInfo.{TextInfo}
use Rattle.rope_text.specs.TextInfo.{info_of, info_sum, HasPart}
use Rattle.rope_text.proofs.InfoLaws.{same_info, info_of-append_apart}
use Rattle.rope_leaf.specs.Leaves.{AreLeaves}
use Rattle.rope_text.specs.Text.{byte_len}
use Rattle.rope_leaf.specs.Tree.{Tree, joined, leaves_of, height_of, breaks_of, IsChild, AreChildren}
use Rattle.rope_leaf.specs.Siblings.{AreSiblings}
use Rattle.rope_leaf.specs.Totals.{HasTotals, IsTotalOf}
use Rattle.rope_leaf.specs.Search.{IsSmall}
use Rattle.rope_leaf.specs.Narrow.{FitsWith}
use Rattle.rope_leaf.specs.Flat.{IsFlat}
use Rattle.rope_tree.specs.Rows.{IsPart}
use Rattle.rope_tree.specs.NewList.{NewList, nodes_in, IsNewList}
use Rattle.rope_leaf.proofs.LeafLaws.{leaves_left, leaves_seam}
use Rattle.rope_leaf.proofs.NodeLaws.{leaves_of-append, joined-append, byte_len-joined, small_totals}
use Rattle.rope_leaf.proofs.TreeLaws.{breaks_of_is}
use Rattle.rope_leaf.proofs.TotalLaws.{sums_cancel}
use Rattle.rope_leaf.proofs.SiblingLaws.{byte_len-append, siblings_right}
use Rattle.rope_tree.proofs.RowLaws.{front_counts, siblings_of}
use Rattle.rope_leaf.proofs.Infos.{small_info}

-- the counts of adjacent trees are sums
pub counts_both : (b : LineBreaks) (xs ys : List Tree) → AreLeaves (leaves_of (xs ++ ys))
    → info_of b (joined (xs ++ ys)) ≡ info_sum (info_of b (joined xs)) (info_of b (joined ys))
counts_both b xs ys a =
    let apart =
    (leaves_seam (leaves_of xs) (leaves_of ys)
    (subst AreLeaves (leaves_of-append xs ys) a)).apart in
    ap (info_of b) (joined-append xs ys) ∙ info_of-append_apart b (joined xs) (joined ys) apart

-- the leaves of the first trees
pub front_are_leaves : (ts : List Tree) (k : ℕ) → AreLeaves (leaves_of ts)
    → AreLeaves (leaves_of (take k ts))
front_are_leaves ts k a =
    leaves_left (leaves_of (take k ts)) (leaves_of (drop k ts))
    (subst AreLeaves (ap leaves_of (sym (take-append-drop k ts))
    ∙ leaves_of-append (take k ts) (drop k ts)) a)

module _ (ts : List Tree) (totals : List TextInfo) (from : ℕ) (p : IsPart ts totals from) where
  pub part_within : from + length ts ≤ length p.whole
  part_within =
      omega (
        arith,
        p.within,
        ap length p.is,
        length-take (length ts) (drop from p.whole),
        length-drop from p.whole,
      )

  -- the rest after the first nodes
  pub part_rest : (m k : ℕ) → k ≡ min m (length ts) → IsPart (drop m ts) totals (from + k)
  part_rest m k e = elim (cases_lt (length ts) m) [
    | inl past ↦
        let none = drop_all m ts (omega arith) in
        record {
          whole = p.whole;
          level = p.level;
          few = p.few;
          totals_right = p.totals_right;
          within = omega (arith, part_within, e);
          is = rw none refl;
        }
    | inr near ↦
        let k_is : k ≡ m = omega (arith, e, near) in
        let n : length ts ≡ m + (length ts - m) = omega (arith, near) in
        let whole : drop m ts ≡ take (length ts - m) (drop m (drop from p.whole)) =
        ap (drop m) (p.is ∙ ap (λ l. take l (drop from p.whole)) n)
        ∙ drop-take m (length ts - m) (drop from p.whole) in
        let more : drop m (drop from p.whole) ≡ drop (from + k) p.whole = drop-drop m from p.whole
        ∙ ap (λ l. drop (from + l) p.whole) (sym k_is) in
        record {
          whole = p.whole;
          level = p.level;
          few = p.few;
          totals_right = p.totals_right;
          within = omega (arith, part_within, e);
          is = whole ∙ ap (λ l. take (length ts - m) l) more
              ∙ ap (λ l. take l (drop (from + k) p.whole)) (sym (length-drop m ts));
        }
  ]

  -- a total is the sum of the counts of the trees before the row and of the first ones in it
  pub part_total : (k : ℕ) (d : TextInfo) → k < length ts
      → get_or totals (from + k) d
      ≡ info_sum (info_of (breaks_of p.whole) (joined (take from p.whole)))
      (info_of (breaks_of p.whole) (joined (take (k + 1) ts)))
  part_total k d lt =
      let b = breaks_of p.whole in
      let own : take (k + 1) ts ≡ take (k + 1) (drop from p.whole) = ap (take (k + 1)) p.is
      ∙ take-take (k + 1) (length ts) (drop from p.whole) (omega arith) in
      let n : from + k + 1 ≡ from + (k + 1) = omega arith in
      let parts : take (from + k + 1) p.whole ≡ take from p.whole ++ take (k + 1) ts =
      ap (λ m. take m p.whole) n ∙ take-add from (k + 1) p.whole
      ∙ ap (λ l. take from p.whole ++ l) (sym own) in
      let leaves =
      subst (λ l. AreLeaves (leaves_of l)) parts
      (front_are_leaves p.whole (from + k + 1) p.level.leaves) in
      p.totals_right.total_at (from + k) d (omega (arith, part_within))
      ∙ ap (λ l. info_of b (joined l)) parts
      ∙ counts_both b (take from p.whole) (take (k + 1) ts) leaves

module _ (ts : List Tree) (totals : List TextInfo)
    (a : AreChildren (breaks_of ts) (height_of ts) ts) (h : HasTotals (breaks_of ts) totals ts)
  where
    pub whole_part : IsPart ts totals 0
    whole_part = record {
      whole = ts;
      level = siblings_of (breaks_of ts) (height_of ts) ts a;
      few = a.at_most_24;
      totals_right = h;
      within = omega arith;
      is = sym (take_all (length ts) ts (omega arith));
    }

pub same_set : (xs ys : List Tree) → 1 ≤ length xs → breaks_of xs ≡ breaks_of (xs ++ ys)
same_set [] ys some = absurd (omega arith)
same_set (t ∷ ts) ys some = refl

sums_turned : (base own before : TextInfo)
    → info_sum (info_sum base own) before ≡ info_sum (info_sum before own) base
sums_turned base own before =
    same_info (info_sum (info_sum base own) before) (info_sum (info_sum before own) base)
    (omega arith) (omega arith) (omega arith) (omega arith)

-- a row of the children of a node, after other trees
module _ (xs ts : List Tree) (totals : List TextInfo) (from : ℕ) (p : IsPart ts totals from)
    (some : 1 ≤ length ts) (s : AreSiblings (breaks_of (xs ++ ts)) (height_of (xs ++ ts))
    (xs ++ ts)) (base before : TextInfo)
    (base_is : base ≡ info_of (breaks_of p.whole) (joined (take from p.whole)))
    (before_is : IsTotalOf xs before) where
  own_set : breaks_of p.whole ≡ breaks_of (xs ++ ts)
  own_set =
      let w = breaks_of p.whole in
      let P = IsChild w (height_of p.whole) in
      let each : All P ts =
      subst (All P) (sym p.is)
      (All-take P (length ts) (drop from p.whole) (All-drop P from p.whole p.level.each)) in
      sym (breaks_of_is w (height_of p.whole) ts some each)
      ∙ breaks_of_is (breaks_of (xs ++ ts)) (height_of (xs ++ ts)) ts some
      (siblings_right _ _ xs ts s).each

  abbrev own : ℕ → TextInfo
  own k = info_of (breaks_of (xs ++ ts)) (joined (take (k + 1) ts))

  total_is : (k : ℕ) (d : TextInfo) → k < length ts
      → get_or totals (from + k) d ≡ info_sum base (own k)
  total_is k d lt = part_total ts totals from p k d lt
      ∙ ap (λ i. info_sum i (info_of (breaks_of p.whole) (joined (take (k + 1) ts)))) (sym base_is)
      ∙ ap (λ b. info_sum base (info_of b (joined (take (k + 1) ts)))) own_set

  before_counts : before ≡ info_of (breaks_of (xs ++ ts)) (joined xs)
  before_counts = front_counts xs ts before before_is

  pub small_before : IsSmall before
  small_before =
      rw before_counts (small_info (breaks_of (xs ++ ts)) (joined xs)
      (omega (arith, byte_len-append xs ts, s.fits)))

  own_small : (k : ℕ) → IsSmall (own k)
  own_small k =
      small_info (breaks_of (xs ++ ts)) (joined (take (k + 1) ts))
      (omega (arith, byte_len-append xs ts, s.fits, byte_len-joined ts (k + 1)))

  pub small_part : (k : ℕ) (d : TextInfo) → k < length ts → IsSmall (get_or totals (from + k) d)
  small_part k d lt =
      small_totals (breaks_of p.whole) totals p.whole p.totals_right p.level.fits (from + k) d
      (omega (arith, part_within ts totals from p, p.totals_right.as_many))

  pub has_base : (k : ℕ) (d : TextInfo) → k < length ts → HasPart (get_or totals (from + k) d) base
  has_base k d lt =
      rw (total_is k d lt) (record {
        bytes = omega arith;
        chars = omega arith;
        pairs = omega arith;
        breaks = omega arith;
      })

  -- if the last total fits in 32 bits, all do
  pub part_fits : (k : ℕ) (d : TextInfo) → k < length ts
      → (get_or totals (from + length ts - 1) d).bytes + before.bytes < 2 ^ 32 + base.bytes
      → FitsWith (get_or totals (from + k) d) base before
  part_fits k d lt room =
      let n : from + length ts - 1 ≡ from + (length ts - 1) = omega arith in
      let last =
      ap (λ i. i.bytes) (ap (λ m. get_or totals m d) n
      ∙ total_is (length ts - 1) d (omega arith)) in
      let m : length ts - 1 + 1 ≡ length ts = omega arith in
      let most : byte_len (joined (take (k + 1) ts)) ≤ byte_len
      (joined (take (length ts - 1 + 1) ts)) =
      rw m (rw (take-length ts) (byte_len-joined ts (k + 1))) in
      let o = own_small k in
      let q = small_before in
      rw (total_is k d lt) (record {
        bytes = omega (arith, last, most, room);
        chars = omega (arith, last, most, room, o.chars, q.chars);
        pairs = omega (arith, last, most, room, o.chars, q.chars, o.pairs, q.pairs);
        breaks = omega (arith, last, most, room, o.chars, q.chars, o.breaks, q.breaks);
      })

  -- if all counts fit in 32 bits, the totals do
  pub part_few : byte_len (joined (xs ++ ts)) < 2 ^ 32 → (k : ℕ) (d : TextInfo) → k < length ts
      → FitsWith (get_or totals (from + k) d) base before
  part_few few k d lt =
      let n : from + length ts - 1 ≡ from + (length ts - 1) = omega arith in
      let m : length ts - 1 + 1 ≡ length ts = omega arith in
      let last =
      ap (λ i. i.bytes) (ap (λ i. get_or totals i d) n
      ∙ total_is (length ts - 1) d (omega arith)) in
      let all : byte_len (joined (take (length ts - 1 + 1) ts)) ≡ byte_len (joined ts) =
      ap (λ i. byte_len (joined (take i ts))) m ∙ ap (λ l. byte_len (joined l)) (take-length ts) in
      part_fits k d lt
      (omega (arith, last, all, ap (λ i. i.bytes) before_counts, byte_len-append xs ts, few))

  -- the list with the row
  module _ (a b : NewList) (i : IsNewList a) (view : nodes_in a ≡ xs) (m : ℕ)
      (m_is : m ≡ length a.totals) (len : length b.totals ≡ length a.totals + length ts)
      (kept : (j : ℕ) (d : TextInfo) → j < length a.totals
      → get_or b.totals j d ≡ get_or a.totals j d)
      (moved : (j : ℕ) (d : TextInfo) → j < length ts
      → info_sum (get_or b.totals (length a.totals + j) d) base
      ≡ info_sum (get_or totals (from + j) d) before)
      (nodes : b.nodes ≡ take m a.nodes ++ (ts ++ drop (m + length ts) a.nodes))
      (room_left : length xs + length ts ≤ 24) where
    many : length a.totals ≡ length xs
    many = omega (arith, ap length view, i.totals_right.as_many)

    all_nodes : b.nodes ≡ (xs ++ ts) ++ drop (m + length ts) a.nodes
    all_nodes = nodes ∙ ap (λ n. take n a.nodes ++ (ts ++ drop (m + length ts) a.nodes)) m_is
        ∙ ap (λ l. l ++ (ts ++ drop (m + length ts) a.nodes)) view
        ∙ sym (append_assoc xs ts (drop (m + length ts) a.nodes))

    longer : length b.totals ≡ length (xs ++ ts)
    longer = omega (arith, len, many, length-append xs ts)

    pub part_in : nodes_in b ≡ xs ++ ts
    part_in = (rw (longer, all_nodes) refl)
        ∙ take-append_seam (xs ++ ts) (drop (m + length ts) a.nodes)

    moved_total : (j : ℕ) (d : TextInfo) → j < length ts
        → get_or b.totals (length xs + j) d ≡ info_of (breaks_of (xs ++ ts))
        (joined (take (length xs + (j + 1)) (xs ++ ts)))
    moved_total j d lt =
        let br = breaks_of (xs ++ ts) in
        let sum = rw many at (moved j d lt) in
        let now =
        sums_cancel (get_or b.totals (length xs + j) d) (info_sum before (own j)) base (sum
        ∙ ap (λ t. info_sum t before) (total_is j d lt) ∙ sums_turned base (own j) before) in
        let parts : take (length xs + (j + 1)) (xs ++ ts) ≡ xs ++ take (j + 1) ts =
        take-append-add xs ts (j + 1) in
        let leaves =
        subst (λ l. AreLeaves (leaves_of l)) parts
        (front_are_leaves (xs ++ ts) (length xs + (j + 1)) s.leaves) in
        now ∙ ap (λ t. info_sum t (own j)) before_counts
        ∙ sym (ap (λ l. info_of br (joined l)) parts ∙ counts_both br xs (take (j + 1) ts) leaves)

    part_totals : HasTotals (breaks_of (xs ++ ts)) b.totals (xs ++ ts)
    part_totals = record {
      as_many = longer;
      total_at = λ k d lt. elim (cases_lt k (length xs)) [
        | inl early ↦
            let br : breaks_of xs ≡ breaks_of (xs ++ ts) = same_set xs ts (omega arith) in
            let was = rw view at i.totals_right in
            let front : take (k + 1) xs ≡ take (k + 1) (xs ++ ts) =
            sym (take-append-le (k + 1) xs ts (omega arith)) in
            kept k d (omega (arith, many)) ∙ was.total_at k d early
            ∙ ap (λ b. info_of b (joined (take (k + 1) xs))) br
            ∙ ap (λ l. info_of (breaks_of (xs ++ ts)) (joined l)) front
        | inr late ↦
            let j = k - length xs in
            let n : length xs + j ≡ k = omega arith in
            let more : length xs + (j + 1) ≡ k + 1 = omega arith in
            ap (λ n. get_or b.totals n d) (sym n)
            ∙ moved_total j d (omega (arith, lt, length-append xs ts))
            ∙ ap (λ n. info_of (breaks_of (xs ++ ts)) (joined (take n (xs ++ ts)))) more
      ];
    }

    pub is_new_list_part : IsNewList b
    is_new_list_part =
        let all = length-append xs ts in
        let n : m + length ts ≡ length a.totals + length ts = omega (arith, m_is) in
        let following : drop (length b.totals) b.nodes
        ≡ drop (length ts) (drop (length a.totals) a.nodes) =
        (rw (longer, all_nodes) refl) ∙ drop-append_seam (xs ++ ts) (drop (m + length ts) a.nodes)
        ∙ ap (λ k. drop k a.nodes) n ∙ sym (drop-drop (length ts) (length a.totals) a.nodes) in
        record {
          room = omega (
            arith,
            ap length all_nodes,
            length-append (xs ++ ts) (drop (m + length ts) a.nodes),
            all,
            length-drop (m + length ts) a.nodes,
            i.room,
            room_left,
            m_is,
            many,
          );
          totals_right = rw part_in part_totals;
          places = rw following (All-drop IsFlat (length ts) (drop (length a.totals) a.nodes)
              i.places);
        }
