-- A list with one more child before the others.
use Rattle.std.proofs.Common.{◌≡◌, ℕ, ◌+◌, ◌-◌, ◌^◌, ◌<◌, ◌≤◌, inl, inr, List, [], ◌∷◌, ◌++◌, length, get_or, take, drop, sym, ap, ap₂, subst, refl, add-one, ◌∙◌, arith}
use Rattle.std.proofs.lemmas.Bool.{cases_lt}
use Rattle.std.proofs.lemmas.List.{length-append, length-drop, length-take-le, take-take, drop-drop}
use Rattle.std.proofs.lemmas.List.Elements.{All-drop}
use Rattle.std.proofs.Math.Seq.{take-append_seam, drop-append_seam}
use Rattle.rope_text.specs.declared.line_breaks.LineBreaks.{LineBreaks}
use Rattle.rope_text.specs.declared.text_info.TextInfo.{TextInfo}
use Rattle.rope_text.specs.Text.{byte_len}
use Rattle.rope_text.specs.TextInfo.{info_of, info_sum}
use Rattle.rope_tree.specs.declared.node.Children.TheInside.{Inside}
use Rattle.rope_leaf.specs.Leaves.{AreLeaves}
use Rattle.rope_leaf.specs.Tree.{Tree, text, joined, leaves_of, height_of, breaks_of, IsChild}
use Rattle.rope_leaf.specs.Siblings.{AreLevel}
use Rattle.rope_leaf.specs.Totals.{HasTotals}
use Rattle.rope_leaf.specs.Narrow.{IsNarrow}
use Rattle.rope_leaf.specs.RunningTotals.{AreSmall, FitFrom}
use Rattle.rope_leaf.specs.Change.{no_counts}
use Rattle.rope_leaf.specs.Flat.{IsFlat}
use Rattle.rope_tree.specs.Listed.{listed, IsListed}
use Rattle.rope_leaf.proofs.Infos.{info_within}
use Rattle.rope_leaf.proofs.NodeLaws.{joined_one, byte_len-joined, small_totals}
use Rattle.rope_leaf.proofs.PartCounts.{sum_turned}
use Rattle.rope_tree.proofs.PartLaws.{counts_both, front_are_leaves}
use Rattle.rope_leaf.proofs.SiblingLaws.{siblings_right}
use Rattle.rope_leaf.proofs.TreeLaws.{breaks_of_is}

-- counts of a text whose counts all fit in 32 bits
pub narrow_info : (b : LineBreaks) (s : List ℕ) → byte_len s < 2 ^ 32 → IsNarrow (info_of b s)
narrow_info b s few =
    let low = info_within b s 4294967295 (omega (arith, few)) in
    record {
      bytes = omega (arith, low.bytes);
      chars = omega (arith, low.chars);
      pairs = omega (arith, low.pairs);
      breaks = omega (arith, low.breaks);
    }

take_first : (x : Tree) (xs : List Tree) (n : ℕ) → take (n + 1) (x ∷ xs) ≡ x ∷ take n xs
take_first x xs n = ap (λ m. take m (x ∷ xs)) (add-one n)

-- the entries after the first node
put_before : (nodes xs zs : List Tree) (x : Tree) (n : ℕ) → length nodes ≡ 24 → n < 24
    → take n nodes ≡ xs → zs ≡ x ∷ take (length (take (n + 1) nodes) - 1) (take (n + 1) nodes)
    → zs ≡ x ∷ xs
put_before nodes xs zs x n room few view e =
    let long : length (take (n + 1) nodes) - 1 ≡ n =
    omega (arith, length-take-le (n + 1) nodes (omega (arith, room))) in
    e ∙ ap (λ m. x ∷ take m (take (n + 1) nodes)) long
    ∙ ap (λ l. x ∷ l) (take-take n (n + 1) nodes (omega arith) ∙ view)

module _ (a : Inside) (xs : List Tree) (x : Tree) (info : TextInfo) (i : IsListed a)
    (view : listed a ≡ xs) (s : AreLevel (x ∷ xs)) (info_is : info ≡ info_of x.breaks (text x))
  where
    pub as_many : length a.totals ≡ length xs
    as_many = i.totals_right.as_many ∙ ap length view

    own_totals : HasTotals (breaks_of xs) a.totals xs
    own_totals = rw view at i.totals_right

    same_breaks : 1 ≤ length xs → breaks_of xs ≡ x.breaks
    same_breaks some =
        breaks_of_is x.breaks x.height xs some
        (All-drop (IsChild x.breaks x.height) 1 (x ∷ xs) s.each)

    -- the counts of the first child and some of the others
    pub sum_with : (j : ℕ) (d : TextInfo) → j < length xs
        → info_sum (get_or a.totals j d) info ≡ info_of x.breaks (joined (x ∷ take (j + 1) xs))
    sum_with j d lt =
        let b = x.breaks in
        let was : get_or a.totals j d ≡ info_of b (joined (take (j + 1) xs)) =
        own_totals.total_at j d lt
        ∙ ap (λ y. info_of y (joined (take (j + 1) xs))) (same_breaks (omega (arith, lt))) in
        let one : info ≡ info_of b (joined (x ∷ [])) = info_is
        ∙ ap (info_of b) (sym (joined_one x)) in
        sum_turned (get_or a.totals j d) info ∙ ap₂ info_sum one was
        ∙ sym (counts_both b (x ∷ []) (take (j + 1) xs)
        (subst (λ l. AreLeaves (leaves_of l)) (take_first x xs (j + 1))
        (front_are_leaves (x ∷ xs) (j + 1 + 1) s.leaves)))

    pub small_before : AreSmall a.totals
    small_before j d lt =
        small_totals (breaks_of xs) a.totals xs own_totals
        (siblings_right x.breaks x.height (x ∷ []) xs s).fits j d lt

    pub few_with : byte_len (joined (x ∷ xs)) < 2 ^ 32 → FitFrom (2 ^ 32) 0 a.totals no_counts info
    few_with few j d from lt =
        let at : j < length xs = omega (arith, lt, as_many) in
        let part : byte_len (joined (x ∷ take (j + 1) xs)) ≤ byte_len (joined (x ∷ xs)) =
        subst (λ l. byte_len (joined l) ≤ byte_len (joined (x ∷ xs))) (take_first x xs (j + 1))
        (byte_len-joined (x ∷ xs) (j + 1 + 1)) in
        let low =
        narrow_info x.breaks (joined (x ∷ take (j + 1) xs)) (omega (arith, few, part)) in
        let sum = sum_with j d at in
        record {
          bytes = omega (arith, low.bytes, ap (λ t. t.bytes) sum);
          chars = omega (arith, low.chars, ap (λ t. t.chars) sum);
          pairs = omega (arith, low.pairs, ap (λ t. t.utf16_surrogates) sum);
          breaks = omega (arith, low.breaks, ap (λ t. t.break_count) sum);
        }

    module _ (b : Inside) (n : ℕ) (zs : List Tree) (n_is : n ≡ length a.totals)
        (room : length xs < 24) (len : length b.totals ≡ length a.totals + 1)
        (first : (d : TextInfo) → get_or b.totals 0 d ≡ info)
        (later : (j : ℕ) (d : TextInfo) → j < length a.totals
        → get_or b.totals (j + 1) d ≡ info_sum (get_or a.totals j d) info)
        (put : zs ≡ x ∷ take (length (take (n + 1) a.nodes) - 1) (take (n + 1) a.nodes))
        (nodes : b.nodes ≡ zs ++ drop (n + 1) a.nodes) (height : b.height ≡ x.height + 1)
        (breaks : b.breaks ≡ x.breaks) where
      placed : zs ≡ x ∷ xs
      placed =
          put_before a.nodes xs zs x n i.room (omega (arith, n_is, as_many, room))
          (ap (λ m. take m a.nodes) n_is ∙ view) put

      many : length b.totals ≡ length zs
      many = omega (arith, len, as_many, ap length placed)

      pub first_seen : listed b ≡ x ∷ xs
      first_seen = (rw (many, nodes) refl) ∙ take-append_seam zs (drop (n + 1) a.nodes) ∙ placed

      totals : HasTotals x.breaks b.totals (x ∷ xs)
      totals = record {
        as_many = omega (arith, len, as_many);
        total_at = λ k d lt. elim (cases_lt k 1) [
          | inl early ↦
              let at : k ≡ 0 = omega (arith, early) in
              rw at (first d ∙ info_is ∙ ap (info_of x.breaks) (sym (joined_one x)))
          | inr late ↦
              let at : k ≡ (k - 1) + 1 = omega (arith, late) in
              let front : take (k + 1) (x ∷ xs) ≡ x ∷ take (k - 1 + 1) xs = take_first x xs k
              ∙ ap (λ m. x ∷ take m xs) at in
              ap (λ m. get_or b.totals m d) at
              ∙ later (k - 1) d (omega (arith, late, lt, as_many))
              ∙ sum_with (k - 1) d (omega (arith, late, lt))
              ∙ ap (λ l. info_of x.breaks (joined l)) (sym front)
        ];
      }

      pub first_listed : IsListed b
      first_listed =
          let following : drop (length b.totals) b.nodes
          ≡ drop 1 (drop (length a.totals) a.nodes) =
          (rw (many, nodes) refl) ∙ drop-append_seam zs (drop (n + 1) a.nodes)
          ∙ ap (λ m. drop (m + 1) a.nodes) n_is ∙ sym (drop-drop 1 (length a.totals) a.nodes) in
          record {
            room = omega (
              arith,
              ap length nodes,
              length-append zs (drop (n + 1) a.nodes),
              length-drop (n + 1) a.nodes,
              ap length placed,
              n_is,
              as_many,
              room,
              i.room,
            );
            totals_right = rw first_seen totals;
            above = height ∙ ap (λ l. height_of l + 1) (sym first_seen);
            same_breaks = breaks ∙ ap breaks_of (sym first_seen);
            places = rw following (All-drop IsFlat 1 (drop (length a.totals) a.nodes) i.places);
          }
