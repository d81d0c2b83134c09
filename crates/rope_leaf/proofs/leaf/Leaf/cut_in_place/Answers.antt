use Rattle.std.proofs.Common.{◌≡◌, ◌+◌, ◌-◌, ◌<◌, ◌≤◌, Bool, true, false, List, ℕ, [], ◌∷◌, ◌++◌, length, take, refl, sym, ap, ap₂, subst, ◌∙◌, arith}
use Rattle.std.proofs.Math.Seq.{take-append_seam}
use Rattle.std.proofs.lemmas.List.{length-append}
use Rattle.std.specs.Str.{chars}
use Rattle.rope_text.specs.declared.line_breaks.LineBreaks.{LineBreaks}
use Rattle.rope_text.specs.Text.{byte_len}
use Rattle.rope_text.specs.Cutting.{parts_crlf}
use Rattle.rope_text.specs.Edit.{inserted}
use Rattle.rope_text.specs.TextInfo.{info_of}
use Rattle.rope_text.proofs.InfoLaws.{part_of_sum}
use Rattle.rope_leaf.specs.Tree.{Tree, text, leaf_tree, IsTree}
use Rattle.rope_leaf.specs.Insert.{IsInserted}
use Rattle.rope_leaf.proofs.HalfLaws.{front_bytes, back_bytes, half_some, front_tree, back_tree, half_counts, in_front, in_back, front_seam, back_seam}
use Rattle.rope_leaf.proofs.InsertLeaves.{two_inserted}
use Rattle.rope_leaf.proofs.InsertTrees.{byte_len-inserted, length-inserted}
use Rattle.rope_leaf.proofs.NodeLaws.{leaf_text}
use Rattle.rope_leaf.proofs.leaf.Leaf.cut_in_place.Goals.{After-from_str-front_info, Joined-at-chars-2, then-at-chars-2, else-at-chars-2}
use Rattle.rope_leaf.proofs.leaf.Leaf.cut_in_place.Goals as goal

module _ (c : After-from_str-front_info) where
  abbrev f : List ℕ
  f = chars c.in-Some.front.now

  abbrev b : List ℕ
  b = chars c.in-Some.back.now

  abbrev br : LineBreaks
  br = c.args.self.now.breaks

  -- the text to be split is the leaf's
  same : chars c.as_str-text.result.now ≡ text c.args.self.now
  same = c.as_str-text.ensures.chars
      ∙ sym (ap text c.known_text.ensures.is ∙ leaf_text c.known_text.result)

  whole : f ++ b ≡ text c.args.self.now
  whole = c.in-Some.ensures.joined ∙ same

  front_chars : c.from_str-front_info.result.chars ≡ length f
  front_chars = ap (λ i. i.chars) c.from_str-front_info.ensures

  front_info_is : c.from_str-front_info.result ≡ info_of br f
  front_info_is = c.from_str-front_info.ensures ∙ ap (λ x. info_of x f) c.line_breaks-breaks.ensures

  kept : take c.from_str-front_info.result.chars (text c.args.self.now) ≡ f
  kept = ap (λ n. take n (text c.args.self.now)) front_chars ∙ ap (take (length f)) (sym whole)
      ∙ take-append_seam f b

  -- two leaves that replace this one
  two : (x y : List ℕ) (s : List ℕ) → IsTree (leaf_tree br x) → IsTree (leaf_tree br y)
      → x ++ y ≡ inserted (text c.args.self.now) c.args.at s → parts_crlf x y ≡ false
      → 491 ≤ byte_len x → 491 ≤ byte_len y → 0 < length x → 0 < length y
      → IsInserted c.args.self.now (leaf_tree br x ∷ leaf_tree br y ∷ [])
      (inserted (text c.args.self.now) c.args.at s)
  two x y s x_tree y_tree is apart x_long y_long x_some y_some =
      subst (λ t. IsInserted t (leaf_tree br x ∷ leaf_tree br y ∷ [])
      (inserted (text c.args.self.now) c.args.at s)) (sym c.known_text.ensures.is)
      (two_inserted br c.known_text.result x y _ _ _ refl refl x_tree y_tree is
      (x_some, y_some, apart) (x_long, y_long))

pub minus-requires : goal.minus-requires
minus-requires c =
    let e = (goal.at.minus-requires c).After-from_str-front_info in
    part_of_sum _ _ _ (half_counts c.in-Some.ensures _ _ _ (c.info-info.ensures
    ∙ ap (info_of (br e)) (sym (same e))) (front_info_is e))

pub keep-requires-clause-len : goal.keep-requires-clause-len
keep-requires-clause-len c =
    let e = (goal.at.keep-requires-clause-len c).After-from_str-front_info in
    sym (ap byte_len (kept e) ∙ front_bytes c.in-Some.ensures)

pub keep-requires-clause-info : goal.keep-requires-clause-info
keep-requires-clause-info c =
    let e = (goal.at.keep-requires-clause-info c).After-from_str-front_info in
    rw (kept e) (front_info_is e)

pub keep-requires-else-at-chars-2-clause-len :
    goal.keep-requires-else-at-chars-2-clause-len
keep-requires-else-at-chars-2-clause-len c =
    let e = (goal.at.keep-requires-else-at-chars-2-clause-len c).After-from_str-front_info in
    sym (ap byte_len (kept e) ∙ front_bytes c.in-Some.ensures)

pub keep-requires-else-at-chars-2-clause-info :
    goal.keep-requires-else-at-chars-2-clause-info
keep-requires-else-at-chars-2-clause-info c =
    let e = (goal.at.keep-requires-else-at-chars-2-clause-info c).After-from_str-front_info in
    rw (kept e) (front_info_is e)

pub insert_in_place-requires-else-at-chars-2-clause-within :
    goal.insert_in_place-requires-else-at-chars-2-clause-within
insert_in_place-requires-else-at-chars-2-clause-within c =
    let e = (goal.at.insert_in_place-requires-else-at-chars-2-clause-within
    c).After-from_str-front_info in
    omega (
      arith,
      ap (λ t. length (text t)) c.keep-else-at-chars-2.ensures,
      ap length (leaf_text (take c.from_str-front_info.result.chars (text c.args.self.now))),
      ap length (kept e),
      front_chars e,
      c.if-at-chars-2.false,
    )

-- a leaf takes a text that fits
did : (r : Bool) (n : ℕ) → (r ≡ false → 984 < n) → n ≤ 984 → r ≡ true
did true n full fits = refl
did false n full fits = absurd (omega (arith, full refl))

takes : (br : LineBreaks) (x new : Tree) (t s : List ℕ) (k : ℕ) (r : Bool) → x ≡ leaf_tree br t
    → (r ≡ true → new ≡ leaf_tree x.breaks (inserted (text x) k s)) → (r ≡ true → IsTree new)
    → (r ≡ false → 984 < byte_len (text x) + byte_len s) → byte_len t + byte_len s ≤ 984
    → (new ≡ leaf_tree br (inserted t k s)) × IsTree (leaf_tree br (inserted t k s))
takes br x new t s k r x_is leaf tree full fits =
    let text_is : text x ≡ t = ap text x_is ∙ leaf_text t in
    let yes =
    did r (byte_len (text x) + byte_len s) full (omega (arith, ap byte_len text_is, fits)) in
    let is : new ≡ leaf_tree br (inserted t k s) = leaf yes
    ∙ ap₂ (λ y u. leaf_tree y.breaks (inserted u k s)) x_is text_is in
    (is, subst IsTree is (tree yes))

after_is : (c : Joined-at-chars-2) → c.in-Some-get_mut.following.now
    ≡ leaf_tree c.args.self.now.breaks (chars c.in-Some.back.now)
after_is c = c.in-Some-get_mut.ensures.value ∙ c.in_ok-leaf.ensures
    ∙ ap (λ x. leaf_tree x (chars c.in-Some.back.now)) c.line_breaks-breaks.ensures

pub returns-clause-cut : goal.returns-clause-cut
returns-clause-cut c =
    let e = (goal.at.returns-clause-cut c).After-from_str-front_info in
    let s = c.args.added.now in
    let br = c.args.self.now.breaks in
    let following = after_is c in
    elim c.if-at-chars-2.branch [
      | then-at-chars-2 w ↦
          let k = c.args.at - c.from_str-front_info.result.chars in
          let at_is : length (f e) + k ≡ c.args.at =
          omega (arith, front_chars e, w.if-at-chars-2.true) in
          let put =
          takes br _ w.insert_in_place.new.self (b e) s k w.insert_in_place.result following
          w.insert_in_place.ensures.leaf w.insert_in_place.ensures.tree
          w.insert_in_place.ensures.full
          (omega (
            arith,
            back_bytes c.in-Some.ensures,
            c.in-Some.ensures.back_room,
            c.len.ensures.value,
          )) in
          let within : k ≤ length (b e) =
          omega (arith, at_is, c.requires.within, ap length (whole e), length-append (f e) (b e)) in
          let apart =
          back_seam (f e) (b e) s k (omega (arith, w.if-at-chars-2.true)) within
          c.in-Some.ensures.apart in
          rw (w.self-is, w.leaf-is, w.keep.ensures, kept e, put.0)
          (two e (f e) (inserted (b e) k s) s (front_tree c.in-Some.ensures br) put.1
          (in_back (f e) (b e) s k ∙ ap₂ (λ t n. inserted t n s) (whole e) at_is) apart
          (omega (arith, front_bytes c.in-Some.ensures, c.in-Some.ensures.front_least))
          (omega (
            arith,
            byte_len-inserted (b e) k s,
            back_bytes c.in-Some.ensures,
            c.in-Some.ensures.back_least,
          ))
          (half_some c.in-Some.ensures).0
          (omega (arith, length-inserted (b e) k s, c.requires.some)))
      | else-at-chars-2 w ↦
          let inside : c.args.at < length (f e) =
          omega (arith, front_chars e, w.if-at-chars-2.false, c.if-at-chars.false) in
          let here = w.keep-else-at-chars-2.ensures ∙ ap (leaf_tree br) (kept e) in
          let did = w.insert_in_place-else-at-chars-2 in
          let put =
          takes br _ did.new.self (f e) s c.args.at did.result here did.ensures.leaf
          did.ensures.tree did.ensures.full
          (omega (
            arith,
            front_bytes c.in-Some.ensures,
            c.in-Some.ensures.front_room,
            c.len.ensures.value,
          )) in
          rw (w.self-is, w.leaf-is, following, put.0)
          (two e (inserted (f e) c.args.at s) (b e) s put.1 (back_tree c.in-Some.ensures br)
          (in_front (f e) (b e) s c.args.at (omega (arith, inside))
          ∙ ap (λ t. inserted t c.args.at s) (whole e))
          (front_seam (f e) (b e) s c.args.at inside c.in-Some.ensures.apart)
          (omega (
            arith,
            byte_len-inserted (f e) c.args.at s,
            front_bytes c.in-Some.ensures,
            c.in-Some.ensures.front_least,
          )) (omega (arith, back_bytes c.in-Some.ensures, c.in-Some.ensures.back_least))
          (omega (arith, length-inserted (f e) c.args.at s, c.requires.some))
          (half_some c.in-Some.ensures).1)
    ]

pub returns-clause-leaf : goal.returns-clause-leaf
returns-clause-leaf c =
    let e = (goal.at.returns-clause-leaf c).After-from_str-front_info in
    let s = c.args.added.now in
    let br = c.args.self.now.breaks in
    let following = after_is c in
    elim c.if-at-chars-2.branch [
      | then-at-chars-2 w ↦
          let k = c.args.at - c.from_str-front_info.result.chars in
          let put =
          takes br _ w.insert_in_place.new.self (b e) s k w.insert_in_place.result following
          w.insert_in_place.ensures.leaf w.insert_in_place.ensures.tree
          w.insert_in_place.ensures.full
          (omega (
            arith,
            back_bytes c.in-Some.ensures,
            c.in-Some.ensures.back_room,
            c.len.ensures.value,
          )) in
          rw (w.leaf-is, put.0) (record { flat = refl; tree = put.1 })
      | else-at-chars-2 w ↦ rw (w.leaf-is, following)
          (record { flat = refl; tree = back_tree c.in-Some.ensures br })
    ]
