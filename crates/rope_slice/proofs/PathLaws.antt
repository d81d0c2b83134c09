-- The path to a leaf, and the adjacent leaves.
use Rattle.std.proofs.Common.{◌≡◌, ℕ, zero, suc, ◌+◌, ◌-◌, ◌<◌, ◌≤◌, List, [], ◌∷◌, ◌++◌, length, take, drop, get_or, refl, sym, ap, subst, ◌∙◌, arith, inl, inr, All}
use Rattle.std.specs.List.{concat}
use Rattle.std.proofs.lemmas.Bool.{cases_lt}
use Rattle.std.proofs.lemmas.List.{append-nil, take_all, take_more, drop_more, take_at, length-append, length-take-le, get_or-append-add, get_or_append_left}
use Rattle.std.proofs.lemmas.List.Elements.{All-get_or, All-take, All-drop, All-nil, All-cons, All-head, All-tail}
use Rattle.std.proofs.lemmas.Str.{length-le-encodes}
use Rattle.std.proofs.Math.Seq.{drop-append-add, get_or-append_seam, split_at}
use Rattle.rope_text.specs.declared.line_breaks.LineBreaks.{LineBreaks}
use Rattle.rope_text.specs.declared.text_info.TextInfo.{TextInfo}
use Rattle.rope_text.specs.declared.TheConstants.{MAX_CHILDREN}
use Rattle.rope_text.specs.Text.{byte_len}
use Rattle.rope_text.specs.TextInfo.{info_of, info_sum}
use Rattle.rope_text.specs.Lookup.{chunk_index_at_byte}
use Rattle.rope_text.proofs.ChunkLaws.{before, before_more}
use Rattle.rope_text.proofs.CuttingLaws.{concat-append}
use Rattle.rope_text.proofs.LookupLaws.{chunk_index_at_byte_is}
use Rattle.rope_text.proofs.Measures.{IsMeasure-byte_len}
use Rattle.rope_leaf.specs.declared.search.Unit.{Unit}
use Rattle.rope_leaf.specs.declared.search.Unit.TheVariants.{Byte, Char, CodeUnit, LineBreak}
use Rattle.rope_leaf.specs.Search.{count_of}
use Rattle.rope_leaf.specs.Totals.{HasTotals}
use Rattle.rope_leaf.specs.Tree.{Tree, text, joined, leaves_of, height_of, breaks_of, leaf_tree, tree_over, IsTree, IsChild, AreChildren}
use Rattle.rope_leaf.proofs.Descents.{Descends, count_of-nil}
use Rattle.rope_leaf.proofs.LeafLaws.{nonempty_leaves}
use Rattle.rope_tree.proofs.LookupDescent.{IsOnDescent, at_start, at_end, further}
use Rattle.rope_tree.proofs.LeafCounts.{lowest}
use Rattle.rope_leaf.proofs.BesideLaws.{one_text}
use Rattle.rope_slice.specs.Path.{Place, leaves, IsNext, HoldsPlace}
use Rattle.rope_slice.specs.Descent.{place_at, IsLow, AreInList, IsDescent}
use Rattle.rope_slice.specs.Starts.{IsItem}

-- a text with an index in bounds has a leaf
some_leaves : (unit : Unit) (breaks : LineBreaks) (at : ℕ) (ls : List (List ℕ))
    → at < count_of unit (info_of breaks (concat ls)) → 0 < length ls
some_leaves unit breaks at [] l = absurd (omega (arith, count_of-nil unit breaks))
some_leaves unit breaks at (leaf ∷ ls) l = omega arith

-- the content of a leaf with a text
leaf_here : (t : Tree) (breaks : LineBreaks) (leaf : List ℕ) → t ≡ leaf_tree breaks leaf
    → 0 < length t.leaves → t.leaves ≡ leaf ∷ []
leaf_here t breaks [] e some = absurd (omega (arith, ap (λ u. length u.leaves) e))
leaf_here t breaks (c ∷ cs) e some = ap (λ u. u.leaves) e

-- a text with a character has a byte
some_bytes : (leaf : List ℕ) → 0 < length leaf → 0 < byte_len leaf
some_bytes leaf some = omega (arith, some, length-le-encodes leaf)

module _ (ls : List (List ℕ)) (solid : All (λ leaf. 0 < length leaf) ls) where
  -- the leaf that starts at a byte is the one with that many bytes before it
  pub index_is : (k b : ℕ) → k < length ls → byte_len (concat (take k ls)) ≤ b
      → b < byte_len (concat (take k ls)) + byte_len (get_or ls k []) → chunk_index_at_byte ls b ≡ k
  index_is k b within low high =
      chunk_index_at_byte_is ls b k within low
      (λ _. omega (
        arith,
        high,
        ap byte_len (before_more ls k within),
        IsMeasure-byte_len.joined (before ls k) (get_or ls k []),
      ))

  pub start_index : (k : ℕ) → k < length ls
      → chunk_index_at_byte ls (byte_len (concat (take k ls))) ≡ k
  start_index k within =
      index_is k (byte_len (concat (take k ls))) within (omega arith)
      (omega (
        arith,
        some_bytes (get_or ls k [])
            (All-get_or (λ leaf. 0 < length leaf) ls k [] within solid),
      ))

  -- the leaf there, and the next one
  pub at_index : (k start : ℕ) (leaf : List ℕ) → k < length ls → leaf ≡ get_or ls k []
      → start ≡ byte_len (concat (take k ls))
      → place_at ls leaf start ≡ record { before = take k ls; here = leaf; after = drop (k + 1) ls }
  at_index k start leaf within leaf_is start_is =
      let e : chunk_index_at_byte ls start ≡ k = ap (chunk_index_at_byte ls) start_is
      ∙ start_index k within in
      rw e refl

-- a leaf among some leaves, by the number of leaves before it
pub record StandsAt (ls : List (List ℕ)) (p : Place) : Type 0 where
  pub within : length p.before < length ls
  pub before_is : p.before ≡ take (length p.before) ls
  pub here_is : p.here ≡ get_or ls (length p.before) []
  pub after_is : p.after ≡ drop (length p.before + 1) ls

pub stands_at : (ls : List (List ℕ)) (p : Place) → leaves p ≡ ls → StandsAt ls p
stands_at ls p e =
    let n : ℕ = length p.before in
    record {
      within = omega (arith, ap length e, length-append p.before (p.here ∷ p.after));
      before_is = sym (take_at p.before (p.here ∷ p.after) n refl) ∙ ap (take n) e;
      here_is = sym (get_or-append_seam p.before p.here p.after []) ∙ ap (λ xs. get_or xs n []) e;
      after_is = sym (drop-append-add p.before (p.here ∷ p.after) 1) ∙ ap (drop (n + 1)) e;
    }

-- the k-th leaf
abbrev pub nth : List (List ℕ) → ℕ → Place
nth ls k = record { before = take k ls; here = get_or ls k []; after = drop (k + 1) ls }

pub leaves_nth : (ls : List (List ℕ)) (k : ℕ) → k < length ls → leaves (nth ls k) ≡ ls
leaves_nth ls k within =
    let next : k + 1 ≡ suc k = omega arith in
    rw next (sym (split_at ls k [] within))

abbrev place : List (List ℕ) → List ℕ → List (List ℕ) → Place
place b h a = record { before = b; here = h; after = a }

place_of_parts : (b : List (List ℕ)) (h : List ℕ) (a : List (List ℕ)) (p : Place) → p.before ≡ b
    → p.here ≡ h → p.after ≡ a → p ≡ record { before = b; here = h; after = a }
place_of_parts b h a p x y z =
    ap (λ v. place v p.here p.after) x ∙ ap (λ v. place b v p.after) y ∙ ap (place b h) z

pub nth_is : (ls : List (List ℕ)) (p : Place) → StandsAt ls p → (k : ℕ) → length p.before ≡ k
    → p ≡ nth ls k
nth_is ls p s k e =
    place_of_parts (take k ls) (get_or ls k []) (drop (k + 1) ls) p (s.before_is
    ∙ ap (λ n. take n ls) e) (s.here_is ∙ ap (λ n. get_or ls n []) e) (s.after_is
    ∙ ap (λ n. drop (n + 1) ls) e)

pub next_of : (ls : List (List ℕ)) (k : ℕ) → k + 1 < length ls → IsNext (nth ls k) (nth ls (k + 1))
next_of ls k within = record {
  before = take_more ls k [] (omega arith);
  after = drop_more ls (k + 1) [] within;
}

-- there is none before the first, and none after the last
none_left : (ls : List (List ℕ)) → All (λ leaf. 0 < length leaf) ls → byte_len (concat ls) ≡ 0
    → ls ≡ []
none_left [] solid none = refl
none_left (leaf ∷ ls) solid none =
    absurd (omega (
      arith,
      none,
      IsMeasure-byte_len.joined leaf (concat ls),
      some_bytes leaf (All-head (λ x. 0 < length x) leaf ls solid),
    ))

module _ (ls : List (List ℕ)) (solid : All (λ leaf. 0 < length leaf) ls) (p : Place)
    (e : leaves p ≡ ls) where
  pub sizes : byte_len (concat ls) ≡ byte_len (concat p.before)
      + (byte_len p.here + byte_len (concat p.after))
  sizes =
      ap (λ xs. byte_len (concat xs)) (sym e)
      ∙ ap byte_len (concat-append p.before (p.here ∷ p.after))
      ∙ IsMeasure-byte_len.joined (concat p.before) (p.here ++ concat p.after)
      ∙ ap (λ n. byte_len (concat p.before) + n) (IsMeasure-byte_len.joined p.here (concat p.after))

  solid_parts : All (λ leaf. 0 < length leaf) (p.before ++ (p.here ∷ p.after))
  solid_parts = subst (λ xs. All (λ leaf. 0 < length leaf) xs) (sym e) solid

  pub last_of : byte_len (concat p.before) + byte_len p.here ≡ byte_len (concat ls) → p.after ≡ []
  last_of all =
      let after =
      All-drop (λ leaf. 0 < length leaf) (length p.before + 1) (p.before ++ (p.here ∷ p.after))
      solid_parts in
      let same : drop (length p.before + 1) (p.before ++ (p.here ∷ p.after)) ≡ p.after =
      drop-append-add p.before (p.here ∷ p.after) 1 in
      none_left p.after (subst (λ xs. All (λ leaf. 0 < length leaf) xs) same after)
      (omega (arith, all, sizes))

  pub first_of : byte_len (concat p.before) ≡ 0 → p.before ≡ []
  first_of none =
      let before =
      All-take (λ leaf. 0 < length leaf) (length p.before) (p.before ++ (p.here ∷ p.after))
      solid_parts in
      let same : take (length p.before) (p.before ++ (p.here ∷ p.after)) ≡ p.before =
      take_at p.before (p.here ∷ p.after) (length p.before) refl in
      none_left p.before (subst (λ xs. All (λ leaf. 0 < length leaf) xs) same before) none

  -- the leaf that holds a byte
  module _ (q : Place) (f : leaves q ≡ ls) (b : ℕ) (low : byte_len (concat q.before) ≤ b)
      (high : b < byte_len (concat q.before) + byte_len q.here) where
    found : chunk_index_at_byte ls b ≡ length q.before
    found =
        let s = stands_at ls q f in
        let size = ap (λ xs. byte_len (concat xs)) s.before_is in
        index_is ls solid (length q.before) b s.within (omega (arith, low, size))
        (omega (arith, high, size, ap byte_len s.here_is))

    pub holds_next : b ≡ byte_len (concat p.before) + byte_len p.here → IsNext p q
    holds_next b_is =
        let s = stands_at ls p e in
        let t = stands_at ls q f in
        let i : ℕ = length p.before in
        let size = ap (λ xs. byte_len (concat xs)) s.before_is in
        let upto : byte_len (concat (take (suc i) ls)) ≡ b = ap byte_len (before_more ls i s.within)
        ∙ IsMeasure-byte_len.joined (before ls i) (get_or ls i [])
        ∙ omega (arith, b_is, size, ap byte_len s.here_is) in
        let more : suc i < length ls = elim (cases_lt (suc i) (length ls)) [
          | inl less ↦ less
          | inr not ↦ absurd (
              let all = ap (λ xs. byte_len (concat xs)) (take_all (suc i) ls not) in
              let other = ap (λ xs. byte_len (concat xs)) (sym f)
              ∙ ap byte_len (concat-append q.before (q.here ∷ q.after))
              ∙ IsMeasure-byte_len.joined (concat q.before) (q.here ++ concat q.after) in
              omega (
                arith,
                all,
                upto,
                high,
                other,
                IsMeasure-byte_len.joined q.here
                    (concat q.after),
              ))
        ] in
        let one : suc i ≡ i + 1 = omega arith in
        let here : length q.before ≡ i + 1 = sym found ∙ ap (chunk_index_at_byte ls) (sym upto)
        ∙ start_index ls solid (suc i) more ∙ one in
        rw (nth_is ls p s i refl, nth_is ls q t (i + 1) here) (next_of ls i (omega (arith, more)))

    pub holds_prev : b + 1 ≡ byte_len (concat p.before) → IsNext q p
    holds_prev b_is =
        let s = stands_at ls p e in
        let t = stands_at ls q f in
        let i : ℕ = length p.before in
        let size = ap (λ xs. byte_len (concat xs)) s.before_is in
        let later : 0 < i = elim (cases_lt 0 i) [
          | inl some ↦ some
          | inr none ↦ absurd (let zero : i ≡ 0 = omega arith in
              let first : take i ls ≡ [] = ap (λ n. take n ls) zero in
              omega (arith, b_is, size, ap (λ xs. byte_len (concat xs)) first))
        ] in
        let k : ℕ = i - 1 in
        let up : suc k ≡ i = omega arith in
        let own =
        some_bytes (get_or ls k [])
        (All-get_or (λ leaf. 0 < length leaf) ls k [] (omega (arith, s.within)) solid) in
        let upto : byte_len (concat (take i ls))
        ≡ byte_len (concat (take k ls)) + byte_len (get_or ls k []) =
        ap (λ n. byte_len (concat (take n ls))) (sym up)
        ∙ ap byte_len (before_more ls k (omega (arith, s.within)))
        ∙ IsMeasure-byte_len.joined (before ls k) (get_or ls k []) in
        let here : length q.before ≡ k = sym found
        ∙ index_is ls solid k b (omega (arith, s.within)) (omega (arith, b_is, size, upto, own))
        (omega (arith, b_is, size, upto)) in
        let next : i ≡ k + 1 = omega arith in
        rw (nth_is ls p s (k + 1) next, nth_is ls q t k here)
        (next_of ls k (omega (arith, s.within)))

-- a leaf in its list
module _ (t : Tree) (nodes : List Tree) (at : ℕ) (leaf : List ℕ) (start : ℕ)
    (w : IsDescent t nodes at leaf start) where
  pub solid_leaves : All (λ x. 0 < length x) t.leaves
  solid_leaves = nonempty_leaves t.leaves w.tree.leaves.each

  pub descent_is : place_at t.leaves leaf start ≡ record {
    before = take w.index t.leaves;
    here = leaf;
    after = drop (w.index + 1) t.leaves;
  }
  descent_is = at_index t.leaves solid_leaves w.index start leaf w.within w.leaf_is w.start_is

  pub descent_nth : place_at t.leaves leaf start ≡ nth t.leaves w.index
  descent_nth =
      place_of_parts (take w.index t.leaves) (get_or t.leaves w.index [])
      (drop (w.index + 1) t.leaves) (place_at t.leaves leaf start) (ap (λ p. p.before) descent_is)
      w.leaf_is (ap (λ p. p.after) descent_is)

  pub leaves_descent : leaves (place_at t.leaves leaf start) ≡ t.leaves
  leaves_descent = ap leaves descent_nth ∙ leaves_nth t.leaves w.index w.within

  pub start_descent : byte_len (concat (place_at t.leaves leaf start).before) ≡ start
  start_descent = ap (λ p. byte_len (concat p.before)) descent_is ∙ sym w.start_is

  -- the adjacent node
  leaf_at : (i : ℕ) (x : List ℕ) → i < length nodes
      → ((d : Tree) → (get_or nodes i d).leaves ≡ x ∷ [])
      → x ≡ get_or t.leaves ((w.index - at) + i) []
  leaf_at i x within own =
      let e : x ∷ [] ≡ get_or t.leaves ((w.index - at) + i) [] ∷ [] = sym (own t)
      ∙ w.list.each i t within in
      cc

  module _ (x : List ℕ) (is_more : at + 1 < length nodes) (own : (d : Tree)
      → (get_or nodes (at + 1) d).leaves ≡ x ∷ []) where
    pub descent_on : IsDescent t nodes (at + 1) x (start + byte_len leaf)
    descent_on =
        let l = w.list in
        let first = l.first in
        let same : (w.index + 1) - (at + 1) ≡ w.index - at = omega arith in
        let here : (w.index - at) + (at + 1) ≡ w.index + 1 = omega arith in
        let last = l.last in
        let next : w.index + 1 ≡ suc w.index = omega arith in
        record {
          tree = w.tree;
          index = w.index + 1;
          within = omega (arith, last, is_more, first);
          leaf_is = leaf_at (at + 1) x is_more own ∙ ap (λ k. get_or t.leaves k []) here;
          start_is =
              omega (
                arith,
                w.start_is,
                ap (λ k. byte_len (concat (take k t.leaves))) next,
                ap byte_len (before_more t.leaves w.index w.within),
                IsMeasure-byte_len.joined (before t.leaves w.index) (get_or t.leaves w.index []),
                ap byte_len w.leaf_is,
              );
          list = record {
            here = λ _. is_more;
            few = l.few;
            first = omega arith;
            last = omega (arith, last, same);
            low = l.low;
            each = λ i d less. l.each i d less
                ∙ ap (λ k. get_or t.leaves (k + i) [] ∷ []) (sym same);
          };
        }

  module _ (x : List ℕ) (later : 0 < at) (inside : at < length nodes) (own : (d : Tree)
      → (get_or nodes (at - 1) d).leaves ≡ x ∷ []) where
    pub descent_back : IsDescent t nodes (at - 1) x (start - byte_len x) × (byte_len x ≤ start)
    descent_back =
        let l = w.list in
        let first = l.first in
        let last = l.last in
        let k : ℕ = w.index - 1 in
        let same : k - (at - 1) ≡ w.index - at = omega arith in
        let here : (w.index - at) + (at - 1) ≡ k = omega arith in
        let up : suc k ≡ w.index = omega arith in
        let leaf_is = leaf_at (at - 1) x (omega arith) own ∙ ap (λ j. get_or t.leaves j []) here in
        let within : k < length t.leaves = omega (arith, w.within) in
        let size : start ≡ byte_len (concat (take k t.leaves)) + byte_len x =
        w.start_is ∙ ap (λ j. byte_len (concat (take j t.leaves))) (sym up)
        ∙ ap byte_len (before_more t.leaves k within)
        ∙ IsMeasure-byte_len.joined (before t.leaves k) (get_or t.leaves k [])
        ∙ ap (λ y. byte_len (before t.leaves k) + byte_len y) (sym leaf_is) in (
          record {
            tree = w.tree;
            index = k;
            within = within;
            leaf_is = leaf_is;
            start_is = omega (arith, size);
            list = record {
              here = λ _. omega arith;
              few = l.few;
              first = omega arith;
              last = omega (arith, last, same);
              low = l.low;
              each = λ i d less. l.each i d less
                  ∙ ap (λ j. get_or t.leaves (j + i) [] ∷ []) (sym same);
            };
          },
          omega (arith, size),
        )

-- two paths in a tree, one of which starts where the other ends
pub paths_next : (t : Tree) (nodes more : List Tree) (at to : ℕ) (leaf x : List ℕ) (start next : ℕ)
    → IsDescent t nodes at leaf start → IsDescent t more to x next → next ≡ start + byte_len leaf
    → IsNext (place_at t.leaves leaf start) (place_at t.leaves x next)
paths_next t nodes more at to leaf x start next w v e =
    let solid = solid_leaves t nodes at leaf start w in
    let own =
    some_bytes x (subst (λ (y : List ℕ). 0 < length y) (sym v.leaf_is)
    (All-get_or (λ (y : List ℕ). 0 < length y) t.leaves v.index [] v.within solid)) in
    let there = start_descent t more to x next v in
    holds_next t.leaves solid (place_at t.leaves leaf start)
    (leaves_descent t nodes at leaf start w) (place_at t.leaves x next)
    (leaves_descent t more to x next v) next (omega (arith, there)) (omega (arith, there, own))
    (omega (arith, e, start_descent t nodes at leaf start w))

-- leaves side by side: each tree has one
single : (t : Tree) (b : LineBreaks) → IsChild b 0 t → t.leaves ≡ get_or t.leaves 0 [] ∷ []
single t b c = let is = one_text b t c in is ∙ ap (λ ls. get_or ls 0 [] ∷ []) (sym is)

leaf_of_list : (ts : List Tree) (b : LineBreaks) → All (IsChild b 0) ts → (i : ℕ) (d : Tree)
    → i < length ts → (get_or ts i d).leaves ≡ get_or (leaves_of ts) i [] ∷ []
leaf_of_list [] b all i d less = absurd (omega arith)
leaf_of_list (t ∷ ts) b all zero d less =
    let own = single t b (All-head (IsChild b 0) t ts all) in
    own ∙ ap (λ x. x ∷ []) (sym (ap (λ xs. get_or (xs ++ leaves_of ts) 0 []) own))
leaf_of_list (t ∷ ts) b all (suc i) d less =
    let own = single t b (All-head (IsChild b 0) t ts all) in
    leaf_of_list ts b (All-tail (IsChild b 0) t ts all) i d (omega arith)
    ∙ ap (λ x. x ∷ []) (sym (ap (λ xs. get_or (xs ++ leaves_of ts) (suc i) []) own))

low_list : (ts : List Tree) (b : LineBreaks) → All (IsChild b 0) ts → All IsLow ts
low_list [] b all = All-nil IsLow
low_list (t ∷ ts) b all =
    let own = All-head (IsChild b 0) t ts all in
    All-cons IsLow t ts (record {
      levels = omega (arith, own.at_height);
      some = omega (arith, own.some);
    }) (low_list ts b (All-tail (IsChild b 0) t ts all))

-- on the path: a node in the list of its parent's children, which are leaves if it is one
pub record IsOnPath (unit : Unit) (idx : ℕ) (t here : Tree) (rest : ℕ) (before : TextInfo)
    (nodes : List Tree) (at : ℕ) : Type 0 where
  pub descent : IsOnDescent unit idx t here rest before
  pub list : here.height ≡ 0 → AreInList t.leaves (length descent.left) nodes at

pub path_start : (unit : Unit) (idx : ℕ) (t : Tree) (before : TextInfo)
    → ((breaks : LineBreaks) → before ≡ info_of breaks [])
    → idx < count_of unit (info_of t.breaks (text t)) → IsOnPath unit idx t t idx before [] 0
unfolding at_start
path_start unit idx t info none less = record {
  descent = at_start unit idx t info none less;
  list = λ flat. record {
    here = λ some. absurd (omega (arith, some));
    few = omega arith;
    first = omega arith;
    last = omega arith;
    low = All-nil IsLow;
    each = λ i d less. absurd (omega (arith, less));
  };
}

-- the children of a node on the path, if they are leaves
children_listed : (ls left right : List (List ℕ)) (b : LineBreaks) (ts : List Tree) (k : ℕ)
    → ls ≡ left ++ (leaves_of ts ++ right) → All (IsChild b 0) ts → k < length ts
    → length ts ≤ MAX_CHILDREN → AreInList ls (length (left ++ leaves_of (take k ts))) ts k
children_listed ls left right b ts k whole all within few =
    let count = lowest b ts all in
    let front = lowest b (take k ts) (All-take (IsChild b 0) k ts all) in
    let short = length-take-le k ts (omega (arith, within)) in
    let index : length (left ++ leaves_of (take k ts)) ≡ length left + k =
    omega (arith, length-append left (leaves_of (take k ts)), front, short) in
    let back : length (left ++ leaves_of (take k ts)) - k ≡ length left = omega (arith, index) in
    let size = ap length whole in
    record {
      here = λ _. within;
      few = few;
      first = omega (arith, index);
      last = omega (
        arith,
        back,
        size,
        length-append left (leaves_of ts ++ right),
        length-append (leaves_of ts) right,
        count,
      );
      low = low_list ts b all;
      each = λ i d less.
          (let there : get_or ls (length left + i) [] ≡ get_or (leaves_of ts) i [] =
          ap (λ xs. get_or xs (length left + i) []) whole
          ∙ get_or-append-add left (leaves_of ts ++ right) i []
          ∙ get_or_append_left (leaves_of ts) right [] i (omega (arith, less, count)) in
          leaf_of_list ts b all i d less ∙ ap (λ x. x ∷ []) (sym there)
          ∙ ap (λ n. get_or ls (n + i) [] ∷ []) (sym back));
    }

pub path_down : (unit : Unit) (idx : ℕ) (t here : Tree) (rest : ℕ) (info : TextInfo)
    (nodes ts : List Tree) (at k : ℕ) (child : Tree) (front : TextInfo) → IsTree t
    → IsOnPath unit idx t here rest info nodes at → here ≡ tree_over ts
    → Descends (breaks_of ts) unit rest ts k child front
    → IsOnPath unit idx t child (rest - count_of unit front) (info_sum info front) ts k
unfolding further
path_down unit idx t here rest info nodes ts at k child front tree p is d =
    let w = p.descent in
    let own : here.leaves ≡ leaves_of ts = ap (λ u. u.leaves) is in
    record {
      descent = further unit idx t here rest info ts k child front tree w is d;
      list = λ flat.
          (let level : height_of ts ≡ 0 = omega (arith, flat, d.own.at_height) in
          let all : All (IsChild (breaks_of ts) 0) ts =
          subst (λ h. All (IsChild (breaks_of ts) h) ts) level d.children.each in
          children_listed t.leaves w.left w.right (breaks_of ts) ts k (w.whole
          ∙ ap (λ xs. w.left ++ (xs ++ w.right)) own) all d.within d.children.at_most_24);
    }

-- the end of the path
pub path_end : (unit : Unit) (idx : ℕ) (t here : Tree) (rest : ℕ) (info : TextInfo)
    (nodes : List Tree) (at : ℕ) (leaf : List ℕ) → IsTree t
    → IsOnPath unit idx t here rest info nodes at → here ≡ leaf_tree here.breaks leaf
    → IsDescent t nodes at leaf info.bytes
path_end unit idx t here rest info nodes at leaf tree p is =
    let w = p.descent in
    let some : 0 < length here.leaves = some_leaves unit here.breaks rest here.leaves w.past in
    let own = leaf_here here here.breaks leaf is some in
    let whole : t.leaves ≡ w.left ++ (leaf ∷ w.right) = w.whole
    ∙ ap (λ xs. w.left ++ (xs ++ w.right)) own in
    record {
      tree = tree;
      index = length w.left;
      within = omega (arith, ap length whole, length-append w.left (leaf ∷ w.right));
      leaf_is =
          sym (ap (λ xs. get_or xs (length w.left) []) whole
          ∙ get_or-append_seam w.left leaf w.right []);
      start_is = ap (λ x. x.bytes) w.before_is
          ∙ ap (λ xs. byte_len (concat xs))
          (sym (ap (take (length w.left)) whole
          ∙ take_at w.left (leaf ∷ w.right) (length w.left) refl));
      list = p.list (ap (λ u. u.height) is);
    }

-- the leaf that it found
pub path_holds : (unit : Unit) (idx : ℕ) (t here : Tree) (rest : ℕ) (info : TextInfo)
    (nodes : List Tree) (at : ℕ) (leaf : List ℕ) → IsTree t
    → IsOnPath unit idx t here rest info nodes at → here ≡ leaf_tree here.breaks leaf
    → HoldsPlace unit t.breaks idx (place_at t.leaves leaf info.bytes).before leaf info
path_holds unit idx t here rest info nodes at leaf tree p is =
    let v = path_end unit idx t here rest info nodes at leaf tree p is in
    let f = at_end unit idx t here rest info leaf tree p.descent is in
    let place = descent_is t nodes at leaf info.bytes v in
    let w = p.descent in
    let some : 0 < length here.leaves = some_leaves unit here.breaks rest here.leaves w.past in
    let own = leaf_here here here.breaks leaf is some in
    let whole : t.leaves ≡ w.left ++ (leaf ∷ w.right) = w.whole
    ∙ ap (λ xs. w.left ++ (xs ++ w.right)) own in
    let solid = solid_leaves t nodes at leaf info.bytes v in
    let same : f.index ≡ v.index =
    sym (start_index t.leaves solid f.index f.within)
    ∙ ap (chunk_index_at_byte t.leaves) (sym (ap (λ x. x.bytes) f.before_is) ∙ v.start_is)
    ∙ start_index t.leaves solid v.index v.within in
    let front : (place_at t.leaves leaf info.bytes).before ≡ take f.index t.leaves =
    ap (λ q. q.before) place ∙ ap (λ n. take n t.leaves) (sym same) in
    let next : f.index + 1 ≡ suc f.index = omega arith in
    let upto : concat (take (f.index + 1) t.leaves) ≡ concat (take f.index t.leaves) ++ leaf =
    ap (λ n. concat (take n t.leaves)) next ∙ before_more t.leaves f.index f.within
    ∙ ap (λ x. concat (take f.index t.leaves) ++ x) (sym f.leaf_is) in
    rw front record { info_is = f.before_is; not_past = f.not_past; past = rw (← upto) f.past }

-- a text with a character has one of each item
item_count : (unit : Unit) → IsItem unit → (breaks : LineBreaks) (x : List ℕ) → 0 < length x
    → 0 < count_of unit (info_of breaks x)
item_count Byte i breaks x some = some_bytes x some
item_count Char i breaks x some = some
item_count CodeUnit i breaks x some = absurd i
item_count LineBreak i breaks x some = absurd i

-- leaves with a character each, of which there is one, have a character
some_joined : (ls : List (List ℕ)) → All (λ leaf. 0 < length leaf) ls → 1 ≤ length ls
    → 0 < length (concat ls)
some_joined [] solid some = absurd (omega arith)
some_joined (leaf ∷ ls) solid some =
    omega (arith, length-append leaf (concat ls), solid 0 leaf (omega arith))

-- the first child of a node has a byte and a character
pub first_counts : (unit : Unit) → IsItem unit → (breaks : LineBreaks) (totals : List TextInfo)
    (ts : List Tree) → AreChildren breaks (height_of ts) ts → HasTotals breaks totals ts
    → (d : TextInfo) → 0 < count_of unit (get_or totals 0 d)
first_counts unit i breaks totals [] a h d = absurd (omega (arith, a.at_least_two))
first_counts unit i breaks totals (t ∷ ts) a h d =
    let own = a.each 0 t (omega arith) in
    let solid = nonempty_leaves t.leaves own.tree.leaves.each in
    let some : 0 < length (concat t.leaves) = some_joined t.leaves solid own.some in
    let same : concat (t.leaves ++ []) ≡ concat t.leaves = ap concat (append-nil t.leaves) in
    rw (h.total_at 0 d (omega arith)) (item_count unit i breaks (joined (take (0 + 1) (t ∷ ts)))
    (omega (arith, some, ap length same)))
