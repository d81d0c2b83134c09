-- Children that move between adjacent lists, and the lists that keep and get them.
use Rattle.std.proofs.Common.{◌≡◌, ℕ, ◌+◌, ◌^◌, ◌<◌, ◌≤◌, inl, inr, List, [], ◌∷◌, ◌++◌, length, get_or, take, drop, sym, ap, subst, ◌∙◌, arith, zero, suc, set, refl, ap₂}
use Rattle.std.proofs.lemmas.Bool.{cases_lt}
use Rattle.std.specs.List.{All}
use Rattle.std.proofs.lemmas.List.{append-nil, append_assoc, length-append, length-take-le, take_all, take_more, take-append-drop, take-append-le, length-set, length-take, take-take, get_or-take, take-set-le, drop-set-lt, drop-drop, get_or-set_same}
use Rattle.std.proofs.lemmas.List.Elements.{All-nil, All-cons, All-head, All-append, All-drop}
use Rattle.std.proofs.Math.Seq.{drop-append_seam}
use Rattle.rope_text.specs.declared.line_breaks.LineBreaks.{LineBreaks}
use Rattle.rope_text.specs.declared.text_info.TextInfo.{TextInfo}
use Rattle.rope_text.specs.Text.{byte_len}
use Rattle.rope_text.specs.TextInfo.{info_of}
use Rattle.rope_text.specs.Dense.{IsDenseAfter, last_bytes}
use Rattle.rope_text.proofs.DenseLaws.{dense-append}
use Rattle.rope_leaf.specs.Leaves.{IsSeam}
use Rattle.rope_leaf.specs.Tree.{Tree, joined, leaves_of, height_of, breaks_of, IsChild, AreFamily, tree_over}
use Rattle.rope_leaf.specs.Siblings.{AreSiblings, AreLevel}
use Rattle.rope_tree.specs.Split.{nodes_over}
use Rattle.rope_leaf.specs.Totals.{HasTotals}
use Rattle.rope_leaf.specs.Flat.{IsFlat}
use Rattle.rope_tree.specs.Listed.{listed, IsListed}
use Rattle.rope_tree.specs.declared.node.Children.TheInside.{Inside}
use Rattle.rope_leaf.proofs.LeafLaws.{all_right, leaves-append}
use Rattle.rope_leaf.proofs.NodeLaws.{leaves_of-append}
use Rattle.rope_leaf.proofs.SiblingLaws.{byte_len-append, siblings_left, siblings_right, children_of}
use Rattle.rope_tree.proofs.RowLaws.{siblings_of}
use Rattle.rope_tree.proofs.PartLaws.{same_set}
use Rattle.rope_leaf.proofs.TreeLaws.{height_of_is, breaks_of_is, is_wide_over}

pub over_some : (ts : List Tree) → 1 ≤ length ts → nodes_over ts ≡ tree_over ts ∷ []
over_some [] some = absurd (omega arith)
over_some (t ∷ ts) some = refl

pub leaves_over : (ts : List Tree) → leaves_of (nodes_over ts) ≡ leaves_of ts
leaves_over [] = refl
leaves_over (t ∷ ts) = append-nil (leaves_of (t ∷ ts))

-- the nodes over two lists have the leaves of both
pub leaves_over_both : (l m ts : List Tree) → l ++ m ≡ ts
    → leaves_of (nodes_over l ++ nodes_over m) ≡ leaves_of ts
leaves_over_both l m ts e = leaves_of-append (nodes_over l) (nodes_over m)
    ∙ ap₂ (λ x y. x ++ y) (leaves_over l) (leaves_over m)
    ∙ sym (leaves_of-append l m) ∙ ap leaves_of e

pub few_over : (ts : List Tree) → length (nodes_over ts) ≤ 1
few_over [] = omega arith
few_over (t ∷ ts) = omega arith

-- siblings by the set of line breaks and the height of the first of them
pub level_of : (b : LineBreaks) (h : ℕ) (ts : List Tree) → AreSiblings b h ts → AreLevel ts
level_of b h [] s = record {
  each = All-nil (IsChild (breaks_of []) (height_of []));
  leaves = s.leaves;
  fits = s.fits;
}
level_of b h (t ∷ ts) s =
    let low : height_of (t ∷ ts) ≡ h = height_of_is b h (t ∷ ts) (omega arith) s.each in
    let set : breaks_of (t ∷ ts) ≡ b = breaks_of_is b h (t ∷ ts) (omega arith) s.each in
    subst (λ n. AreSiblings (breaks_of (t ∷ ts)) n (t ∷ ts)) (sym low)
    (subst (λ x. AreSiblings x h (t ∷ ts)) (sym set) s)

-- adjacent siblings
pub siblings-append : (b : LineBreaks) (h : ℕ) (xs ys : List Tree) → AreSiblings b h xs
    → AreSiblings b h ys → IsSeam (joined xs) (joined ys)
    → IsDenseAfter (last_bytes 492 (leaves_of xs)) (leaves_of ys)
    → byte_len (joined (xs ++ ys)) < 2 ^ 63 → AreSiblings b h (xs ++ ys)
siblings-append b h xs ys s t seam near fits = record {
  each = All-append (IsChild b h) xs ys s.each t.each;
  leaves = rw leaves_of-append (leaves-append (leaves_of xs) (leaves_of ys) s.leaves t.leaves seam
      (dense-append 492 (leaves_of xs) (leaves_of ys) s.leaves.dense near));
  fits = fits;
}

-- the node over a list of at least 12 children
pub each_over : (b : LineBreaks) (h : ℕ) (ts : List Tree) → AreSiblings b h ts
    → (1 ≤ length ts → 12 ≤ length ts) → length ts ≤ 24 → All (IsChild b (h + 1)) (nodes_over ts)
each_over b h [] s least most = All-nil (IsChild b (h + 1))
each_over b h (t ∷ ts) s least most =
    let long = least (omega arith) in
    let c = children_of b h (t ∷ ts) s (omega (arith, long)) most in
    All-cons (IsChild b (h + 1)) (tree_over (t ∷ ts)) [] (is_wide_over b 12 h (t ∷ ts) c long)
    (All-nil (IsChild b (h + 1)))

-- adjacent trees whose counts fit in 32 bits
pub record AreMovable (ts : List Tree) : Type 0 where
  pub level : AreLevel ts
  pub few : byte_len (joined ts) < 2 ^ 32

pub movable_left : (xs ys : List Tree) → AreMovable (xs ++ ys) → AreMovable xs
movable_left xs ys n = record {
  level = level_of _ _ xs (siblings_left _ _ xs ys n.level);
  few = omega (arith, byte_len-append xs ys, n.few);
}

pub movable_right : (xs ys : List Tree) → AreMovable (xs ++ ys) → AreMovable ys
movable_right xs ys n = record {
  level = level_of _ _ ys (siblings_right _ _ xs ys n.level);
  few = omega (arith, byte_len-append xs ys, n.few);
}

pub movable : (ts : List Tree) → AreLevel ts → byte_len (joined ts) < 2 ^ 32 → AreMovable ts
movable ts level few = record { level = level; few = few }

pub movable_of : (ts : List Tree) → AreFamily ts → byte_len (joined ts) < 2 ^ 32 → AreMovable ts
movable_of ts family few = record {
  level = siblings_of (breaks_of ts) (height_of ts) ts family;
  few = few;
}

pub family_of : (b : LineBreaks) (h : ℕ) (ts : List Tree) → AreSiblings b h ts → 2 ≤ length ts
    → length ts ≤ 24 → AreFamily ts
family_of b h ts s some few =
    children_of (breaks_of ts) (height_of ts) ts (level_of b h ts s) some few

-- a list without its last children, and these after an empty list
pub both_parts : (ts none : List Tree) (n : ℕ) → none ≡ [] → take n ts ++ (none ++ drop n ts) ≡ ts
both_parts ts none n e = ap (λ l. take n ts ++ (l ++ drop n ts)) e ∙ take-append-drop n ts

pub movable_after : (ts none : List Tree) (n : ℕ) → none ≡ [] → AreMovable ts
    → AreMovable (none ++ drop n ts)
movable_after ts none n e m =
    subst (λ l. AreMovable (l ++ drop n ts)) (sym e)
    (movable_right (take n ts) (drop n ts) (subst AreMovable (sym (take-append-drop n ts)) m))

pub first_split : (xs ys : List Tree) (n : ℕ) → take n xs ++ (drop n xs ++ ys) ≡ xs ++ ys
first_split xs ys n = sym (append_assoc (take n xs) (drop n xs) ys)
    ∙ ap (λ l. l ++ ys) (take-append-drop n xs)

pub second_split : (xs ys : List Tree) (n : ℕ) → (xs ++ take n ys) ++ drop n ys ≡ xs ++ ys
second_split xs ys n = append_assoc xs (take n ys) (drop n ys)
    ∙ ap (λ l. xs ++ l) (take-append-drop n ys)

-- two adjacent lists, of which one is split
module _ (xs ys : List Tree) (n : ℕ) (m : AreMovable (xs ++ ys)) where
  pub move_both : AreMovable (drop n xs ++ ys)
  move_both = movable_right (take n xs) (drop n xs ++ ys) (rw first_split m)

  pub move_end : AreMovable (drop n xs)
  move_end = movable_left (drop n xs) ys move_both

  pub move_longer : AreMovable (xs ++ take n ys)
  move_longer = movable_left (xs ++ take n ys) (drop n ys) (rw second_split m)

  pub move_start : AreMovable (take n ys)
  move_start = movable_right xs (take n ys) move_longer

  pub move_rest : AreMovable (drop n ys)
  move_rest = movable_right (xs ++ take n ys) (drop n ys) (rw second_split m)

-- a list with one more child
module _ (a b : Inside) (xs : List Tree) (x : Tree) (n : ℕ) (total : TextInfo) (i : IsListed a)
    (view : listed a ≡ xs) (s : AreLevel (xs ++ x ∷ [])) (room : length xs < 24)
    (n_is : n ≡ length a.totals) (len : length b.totals ≡ length a.totals + 1)
    (before : (j : ℕ) (d : TextInfo) → j < n → get_or b.totals j d ≡ get_or a.totals j d)
    (here : (d : TextInfo) → get_or b.totals n d ≡ total)
    (total_is : total ≡ info_of (breaks_of (xs ++ x ∷ [])) (joined (xs ++ x ∷ [])))
    (nodes : b.nodes ≡ set a.nodes n x) (height : b.height ≡ x.height + 1)
    (breaks : b.breaks ≡ x.breaks) where
  many : n ≡ length xs
  many = omega (arith, n_is, i.totals_right.as_many, ap length view)

  own : IsChild (breaks_of (xs ++ x ∷ [])) (height_of (xs ++ x ∷ [])) x
  own =
      let P = IsChild (breaks_of (xs ++ x ∷ [])) (height_of (xs ++ x ∷ [])) in
      All-head P x [] (all_right P xs (x ∷ []) s.each)

  longer : length b.totals ≡ n + 1
  longer = omega (arith, len, n_is)

  pub push_seen : listed b ≡ xs ++ x ∷ []
  push_seen =
      let ys = set a.nodes n x in
      let lt : n < length ys = omega (arith, many, length-set a.nodes n x, i.room, room) in
      let front : take n ys ≡ xs = take-set-le n a.nodes n x (omega arith)
      ∙ ap (λ m. take m a.nodes) n_is ∙ view in
      let last : get_or ys n x ≡ x =
      get_or-set_same a.nodes n x x (omega (arith, many, i.room, room)) in
      (rw (longer, nodes) refl) ∙ take_more ys n x lt ∙ (rw (front, last) refl)

  push_totals : HasTotals (breaks_of (xs ++ x ∷ [])) b.totals (xs ++ x ∷ [])
  push_totals = record {
    as_many = omega (arith, longer, many, length-append xs (x ∷ []));
    total_at = λ k d lt. elim (cases_lt k n) [
      | inl early ↦
          let same : breaks_of xs ≡ breaks_of (xs ++ x ∷ []) =
          same_set xs (x ∷ []) (omega (arith, early, many)) in
          let was = rw view at i.totals_right in
          let front : take (k + 1) xs ≡ take (k + 1) (xs ++ x ∷ []) =
          sym (take-append-le (k + 1) xs (x ∷ []) (omega (arith, early, many))) in
          before k d early ∙ was.total_at k d (omega (arith, early, many))
          ∙ ap (λ y. info_of y (joined (take (k + 1) xs))) same
          ∙ ap (λ l. info_of (breaks_of (xs ++ x ∷ [])) (joined l)) front
      | inr late ↦
          let at : k ≡ n = omega (arith, late, lt, many, length-append xs (x ∷ [])) in
          let whole : xs ++ x ∷ [] ≡ take (k + 1) (xs ++ x ∷ []) =
          sym (take_all (k + 1) (xs ++ x ∷ [])
          (omega (arith, at, many, length-append xs (x ∷ [])))) in
          ap (λ m. get_or b.totals m d) at ∙ here d ∙ total_is
          ∙ ap (λ l. info_of (breaks_of (xs ++ x ∷ [])) (joined l)) whole
    ];
  }

  pub push_listed : IsListed b
  push_listed =
      let following : drop (length b.totals) b.nodes ≡ drop 1 (drop (length a.totals) a.nodes) =
      (rw (longer, nodes) refl) ∙ drop-set-lt (n + 1) a.nodes n x (omega arith)
      ∙ ap (λ m. drop (m + 1) a.nodes) n_is ∙ sym (drop-drop 1 (length a.totals) a.nodes) in
      record {
        room = ap length nodes ∙ length-set a.nodes n x ∙ i.room;
        totals_right = rw push_seen push_totals;
        above = height ∙ ap (λ m. m + 1) (own.at_height ∙ ap height_of (sym push_seen));
        same_breaks = breaks ∙ own.same_breaks ∙ ap breaks_of (sym push_seen);
        places = rw following (All-drop IsFlat 1 (drop (length a.totals) a.nodes) i.places);
      }

-- the first of some trees
pub first_height : (n : ℕ) (ts : List Tree) → 1 ≤ n → height_of (take n ts) ≡ height_of ts
first_height zero ts some = absurd (omega arith)
first_height (suc n) [] some = refl
first_height (suc n) (t ∷ ts) some = refl

pub first_breaks : (n : ℕ) (ts : List Tree) → 1 ≤ n → breaks_of (take n ts) ≡ breaks_of ts
first_breaks zero ts some = absurd (omega arith)
first_breaks (suc n) [] some = refl
first_breaks (suc n) (t ∷ ts) some = refl

-- the first totals of a list are those of its first children
pub first_totals : (n : ℕ) (totals : List TextInfo) (ts : List Tree) → n ≤ length ts
    → HasTotals (breaks_of ts) totals ts → HasTotals (breaks_of (take n ts)) (take n totals)
    (take n ts)
first_totals n totals ts le h = record {
  as_many = length-take-le n totals (omega (arith, h.as_many)) ∙ sym (length-take-le n ts le);
  total_at = λ k d lt.
      let early : k < n = omega (arith, lt, length-take-le n ts le) in
      let front : take (k + 1) ts ≡ take (k + 1) (take n ts) =
      sym (take-take (k + 1) n ts (omega (arith, early))) in
      get_or-take n totals k d early ∙ h.total_at k d (omega (arith, early, le))
      ∙ ap (λ y. info_of y (joined (take (k + 1) ts)))
      (sym (first_breaks n ts (omega (arith, early))))
      ∙ ap (λ l. info_of (breaks_of (take n ts)) (joined l)) front;
}

-- a list that keeps its first children; the entries after them are empty
module _ (a b : Inside) (ts : List Tree) (n : ℕ) (ys zs : List Tree) (i : IsListed a)
    (view : listed a ≡ ts) (le : n ≤ length ts) (totals : b.totals ≡ take n a.totals)
    (nodes : b.nodes ≡ take n a.nodes ++ (ys ++ zs)) (room : length b.nodes ≡ 24)
    (first : All IsFlat ys) (second : All IsFlat zs)
    (height : b.height ≡ height_of (take n ts) + 1) (breaks : b.breaks ≡ breaks_of (take n ts))
  where
    pub as_many_in : length a.totals ≡ length ts
    as_many_in = i.totals_right.as_many ∙ ap length view

    pub kept_len : length b.totals ≡ n
    kept_len = ap length totals ∙ length-take-le n a.totals (omega (arith, as_many_in))

    front : length (take n a.nodes) ≡ n
    front =
        length-take-le n a.nodes
        (omega (arith, le, ap length view, length-take (length a.totals) a.nodes))

    pub kept_seen : listed b ≡ take n ts
    kept_seen =
        (rw (kept_len, nodes) refl)
        ∙ take-append-le n (take n a.nodes) (ys ++ zs) (omega (arith, front))
        ∙ take-take n n a.nodes (omega arith)
        ∙ sym (take-take n (length a.totals) a.nodes (omega (arith, as_many_in)))
        ∙ ap (take n) view

    pub kept_listed : IsListed b
    kept_listed = record {
      room = room;
      totals_right =
          rw (kept_seen, totals)
          (first_totals n a.totals ts le (rw view at i.totals_right));
      above = height ∙ ap (λ l. height_of l + 1) (sym kept_seen);
      same_breaks = breaks ∙ ap breaks_of (sym kept_seen);
      places =
          let past : drop (length b.totals) b.nodes ≡ ys ++ zs =
          (rw (kept_len, nodes) refl) ∙ ap (λ k. drop k (take n a.nodes ++ (ys ++ zs))) (sym front)
          ∙ drop-append_seam (take n a.nodes) (ys ++ zs) in
          rw past (All-append IsFlat ys zs first second);
    }
