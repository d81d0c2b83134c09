-- Properties of nodes, and of adjacent trees.
use Rattle.std.proofs.Common.{◌≡◌, ℕ, ◌+◌, ◌<◌, ◌≤◌, ◌^◌, false, List, [], ◌∷◌, ◌++◌, length, get_or, take, drop, refl, sym, ap, subst, ◌∙◌, arith, inl, inr}
use Rattle.std.specs.List.{concat}
use Rattle.std.proofs.lemmas.List.{append-nil, length-append, length-take-le, take_more, take_all, take-take, take-append-drop, get_or_append_left, get_or_push}
use Rattle.std.proofs.lemmas.Bool.{cases_lt}
use Rattle.std.proofs.lemmas.List.Elements.{All-get_or}
use Rattle.std.proofs.lemmas.List.Concat.{flat_map-append}
use Rattle.rope_text.specs.declared.line_breaks.LineBreaks.{LineBreaks}
use Rattle.rope_text.specs.declared.text_info.TextInfo.{TextInfo}
use Rattle.rope_text.specs.Text.{byte_len}
use Rattle.rope_text.specs.TextInfo.{info_of, info_sum}
use Rattle.rope_text.specs.Cutting.{parts_crlf}
use Rattle.rope_text.proofs.Measures.{IsMeasure-byte_len}
use Rattle.rope_text.proofs.InfoLaws.{info_of-append_apart}
use Rattle.rope_text.proofs.CuttingLaws.{concat-append}
use Rattle.rope_leaf.specs.Leaves.{AreLeaves}
use Rattle.rope_leaf.specs.Tree.{Tree, text, joined, leaves_of, height_of, breaks_of, one_leaf, IsChild, AreChildren}
use Rattle.rope_leaf.specs.Totals.{HasTotals}
use Rattle.rope_leaf.specs.Search.{IsSmall}
use Rattle.rope_leaf.proofs.LeafLaws.{leaves_left, leaves_seam}
use Rattle.rope_leaf.proofs.TreeLaws.{height_of_is, breaks_of_is}
use Rattle.rope_leaf.proofs.Infos.{small_info}

pub leaves_of-append : (xs ys : List Tree) → leaves_of (xs ++ ys) ≡ leaves_of xs ++ leaves_of ys
leaves_of-append xs ys = flat_map-append (λ t. t.leaves) xs ys

pub joined-append : (xs ys : List Tree) → joined (xs ++ ys) ≡ joined xs ++ joined ys
joined-append xs ys = ap concat (leaves_of-append xs ys)
    ∙ concat-append (leaves_of xs) (leaves_of ys)

pub joined_one : (t : Tree) → joined (t ∷ []) ≡ text t
joined_one t = ap concat (append-nil t.leaves)

pub leaf_text : (leaf : List ℕ) → concat (one_leaf leaf) ≡ leaf
leaf_text [] = refl
leaf_text (c ∷ cs) = append-nil (c ∷ cs)

-- the properties of children, by those of the first one
pub children_of_first : (breaks : LineBreaks) (h : ℕ) (ts : List Tree) → AreChildren breaks h ts
    → AreChildren (breaks_of ts) (height_of ts) ts
children_of_first breaks h ts a =
    let some : 1 ≤ length ts = omega (arith, a.at_least_two) in
    rw (height_of_is breaks h ts some a.each, breaks_of_is breaks h ts some a.each) a

-- the text up to the end of one more tree
pub joined_more : (ts : List Tree) (k : ℕ) (d : Tree) → k < length ts
    → joined (take (k + 1) ts) ≡ joined (take k ts) ++ text (get_or ts k d)
joined_more ts k d l = ap joined (take_more ts k d l)
    ∙ joined-append (take k ts) (get_or ts k d ∷ [])
    ∙ ap (λ s. joined (take k ts) ++ s) (joined_one (get_or ts k d))

pub joined_parts : (ts : List Tree) (k : ℕ) → joined ts ≡ joined (take k ts) ++ joined (drop k ts)
joined_parts ts k = ap joined (sym (take-append-drop k ts)) ∙ joined-append (take k ts) (drop k ts)

pub byte_len-joined : (ts : List Tree) (k : ℕ)
    → byte_len (joined (take k ts)) ≤ byte_len (joined ts)
byte_len-joined ts k =
    omega (
      arith,
      ap byte_len (joined_parts ts k),
      IsMeasure-byte_len.joined (joined (take k ts)) (joined (drop k ts)),
    )

-- no CR LF is split at the end of the first trees
pub joined_apart : (ts : List Tree) (k : ℕ) (d : Tree) → k < length ts → AreLeaves (leaves_of ts)
    → parts_crlf (joined (take k ts)) (text (get_or ts k d)) ≡ false
joined_apart ts k d l a =
    let whole : AreLeaves (leaves_of (take (k + 1) ts) ++ leaves_of (drop (k + 1) ts)) =
    subst AreLeaves (ap leaves_of (sym (take-append-drop (k + 1) ts))
    ∙ leaves_of-append (take (k + 1) ts) (drop (k + 1) ts)) a in
    let front = leaves_left (leaves_of (take (k + 1) ts)) (leaves_of (drop (k + 1) ts)) whole in
    let e : leaves_of (take (k + 1) ts) ≡ leaves_of (take k ts) ++ (get_or ts k d).leaves =
    ap leaves_of (take_more ts k d l) ∙ leaves_of-append (take k ts) (get_or ts k d ∷ [])
    ∙ ap (λ xs. leaves_of (take k ts) ++ xs) (append-nil (get_or ts k d).leaves) in
    (leaves_seam (leaves_of (take k ts)) (get_or ts k d).leaves (subst AreLeaves e front)).apart

-- one more total
pub totals_more : (breaks : LineBreaks) (ts : List Tree) (i : ℕ) (totals : List TextInfo)
    (total : TextInfo) → i < length ts → HasTotals breaks totals (take i ts)
    → total ≡ info_of breaks (joined (take (i + 1) ts))
    → HasTotals breaks (totals ++ total ∷ []) (take (i + 1) ts)
totals_more breaks ts i totals total lt h e =
    let n : length (take i ts) ≡ i = length-take-le i ts (omega arith) in
    let m : length (take (i + 1) ts) ≡ i + 1 = length-take-le (i + 1) ts (omega arith) in
    record {
      as_many = omega (arith, h.as_many, length-append totals (total ∷ []));
      total_at = λ k d p. elim (cases_lt k i) [
        | inl l ↦
            let a : get_or (totals ++ total ∷ []) k d ≡ get_or totals k d =
            get_or_append_left totals (total ∷ []) d k (omega (arith, h.as_many)) in
            let b : take (k + 1) (take i ts) ≡ take (k + 1) ts =
            take-take (k + 1) i ts (omega arith) in
            let c : take (k + 1) (take (i + 1) ts) ≡ take (k + 1) ts =
            take-take (k + 1) (i + 1) ts (omega arith) in
            a ∙ h.total_at k d (omega arith) ∙ ap (λ us. info_of breaks (joined us)) (b ∙ sym c)
        | inr ge ↦
            let q : k ≡ i = omega arith in
            let a : get_or (totals ++ total ∷ []) k d ≡ total =
            get_or_push totals total d k (omega (arith, h.as_many)) in
            let b : take (k + 1) (take (i + 1) ts) ≡ take (i + 1) ts =
            take_all (k + 1) (take (i + 1) ts) (omega arith) in
            a ∙ e ∙ ap (λ us. info_of breaks (joined us)) (sym b)
      ];
    }

-- every total is within the bounds of a rope's text
pub small_totals : (breaks : LineBreaks) (totals : List TextInfo) (ts : List Tree)
    → HasTotals breaks totals ts → byte_len (joined ts) < 2 ^ 63
    → (k : ℕ) (d : TextInfo) → k < length totals → IsSmall (get_or totals k d)
small_totals breaks totals ts h fits k d l =
    rw (h.total_at k d (omega (arith, h.as_many)))
    (small_info breaks (joined (take (k + 1) ts)) (omega (arith, byte_len-joined ts (k + 1))))

-- an equal tree at an index
pub same_at : (ts : List Tree) (i : ℕ) (n m : Tree) → n ≡ get_or ts i n → m ≡ n → get_or ts i m ≡ m
same_at ts i n m at is = rw is (sym at)

-- the first node
pub first_height : (ts : List Tree) (d : Tree) → 1 ≤ length ts
    → (get_or ts 0 d).height ≡ height_of ts
first_height [] d some = absurd (omega arith)
first_height (t ∷ ts) d some = refl

pub first_breaks : (ts : List Tree) (d : Tree) → 1 ≤ length ts
    → (get_or ts 0 d).breaks ≡ breaks_of ts
first_breaks [] d some = absurd (omega arith)
first_breaks (t ∷ ts) d some = refl

-- the tree at an index among children, and the counts up to its end
pub child_at : (breaks : LineBreaks) (h : ℕ) (ts : List Tree) (k : ℕ) (child : Tree)
    → AreChildren breaks h ts → k < length ts → get_or ts k child ≡ child → IsChild breaks h child
child_at breaks h ts k child a l here =
    subst (IsChild breaks h) here (All-get_or (IsChild breaks h) ts k child l a.each)

pub more_at : (breaks : LineBreaks) (h : ℕ) (ts : List Tree) (k : ℕ) (child : Tree)
    → AreChildren breaks h ts → k < length ts → get_or ts k child ≡ child
    → info_of breaks (joined (take (k + 1) ts))
    ≡ info_sum (info_of breaks (joined (take k ts))) (info_of breaks (text child))
more_at breaks h ts k child a l here =
    let apart : parts_crlf (joined (take k ts)) (text child) ≡ false =
    subst (λ u. parts_crlf (joined (take k ts)) (text u) ≡ false) here
    (joined_apart ts k child l a.leaves) in
    let longer : joined (take (k + 1) ts) ≡ joined (take k ts) ++ text child =
    subst (λ u. joined (take (k + 1) ts) ≡ joined (take k ts) ++ text u) here
    (joined_more ts k child l) in
    ap (info_of breaks) longer ∙ info_of-append_apart breaks (joined (take k ts)) (text child) apart

-- the counts with one more node
pub record AddsNode (breaks : LineBreaks) (ts : List Tree) (i : ℕ) (total info : TextInfo) : Type 0
  where
    pub small_total : IsSmall total
    pub small_info : IsSmall info
    pub more : info_of breaks (joined (take (i + 1) ts)) ≡ info_sum total info
