-- Leaves without those of a removal, between others.
use Rattle.std.proofs.Common.{◌≡◌, ℕ, zero, suc, ◌+◌, ◌^◌, ◌<◌, ◌≤◌, List, [], ◌∷◌, ◌++◌, length, take, drop, sym, ap, subst, refl, ◌∙◌, arith}
use Rattle.std.specs.List.{All, concat}
use Rattle.std.proofs.lemmas.List.{append-nil, append_assoc, length-append, drop_all, length-take-le, take-append-le, drop-append-le, take-append-drop}
use Rattle.std.proofs.Math.Seq.{take-append-add, drop-append-add}
use Rattle.std.proofs.lemmas.List.Elements.{All-head}
use Rattle.rope_text.specs.Text.{byte_len}
use Rattle.rope_text.specs.Dense.{IsDenseAfter, AreDense, last_bytes}
use Rattle.rope_text.specs.Edit.{removed}
use Rattle.rope_text.proofs.DenseLaws.{last_bytes-append, last_bytes-some, dense-append, dense_right}
use Rattle.rope_text.proofs.CuttingLaws.{concat-append}
use Rattle.rope_text.proofs.Measures.{IsMeasure-byte_len}
use Rattle.rope_leaf.specs.Leaves.{AreLeaves, IsLeafText, IsSeam}
use Rattle.rope_leaf.specs.Siblings.{AreSiblings}
use Rattle.rope_leaf.proofs.BesideLaws.{one_text}
use Rattle.rope_leaf.proofs.SiblingLaws.{byte_len-append}
use Rattle.rope_tree.proofs.MoveLaws.{siblings-append}
use Rattle.rope_leaf.proofs.InsertLaws.{seam_begins}
use Rattle.rope_leaf.proofs.LeafLaws.{leaves-append, leaves_left, leaves_right, leaves_seam}
use Rattle.rope_leaf.proofs.RemovalLaws.{byte_len-removed}
use Rattle.rope_leaf.specs.Removal.{Spares}
use Rattle.rope_text.specs.declared.line_breaks.LineBreaks.{LineBreaks}
use Rattle.rope_leaf.specs.Tree.{Tree, text, joined, leaves_of, breaks_of, leaf_tree, IsChild}
use Rattle.rope_leaf.proofs.StandLaws.{one_leaf_is}
use Rattle.rope_leaf.proofs.NodeLaws.{leaves_of-append}
use Rattle.rope_tree.proofs.LeafSplits.{HasLeaf, IsStart, IsEnd, leaves_are, texts_are, leaves_some, level_before, level_after, leaf_front, leaf_back}
use Rattle.rope_tree.specs.Removed.{KeepsFront, KeepsBack, AreParted, AreWithout}

-- leaves that are not empty lists have a character
some_text : (xs : List (List ℕ)) → AreLeaves xs → 1 ≤ length xs → 1 ≤ length (concat xs)
some_text [] a some = absurd (omega arith)
some_text (x ∷ xs) a some =
    omega (arith, (All-head IsLeafText x xs a.each).some, length-append x (concat xs))

-- leaves between others, of which each half may stand
pub overlap : (xs ys zs : List (List ℕ)) → AreLeaves (xs ++ ys) → AreLeaves (ys ++ zs)
    → 1 ≤ length ys → AreLeaves (xs ++ (ys ++ zs))
overlap xs ys zs a b some =
    let text = some_text ys (leaves_left ys zs b) some in
    leaves-append xs (ys ++ zs) (leaves_left xs ys a) b
    (rw concat-append (seam_begins (concat xs) (concat ys) (concat zs) text (leaves_seam xs ys a)))
    (subst AreDense (append_assoc xs ys zs) (dense-append 492 (xs ++ ys) zs a.dense
    (rw (last_bytes-append 492 xs ys, last_bytes-some (last_bytes 492 xs) 492 ys some)
    (dense_right 492 ys zs b.dense))))

pub front_after : (pre old new : List (List ℕ)) (at : ℕ) → KeepsFront at old new
    → KeepsFront (length (concat pre) + at) (pre ++ old) (pre ++ new)
front_after pre old new at f = record {
  before = pre ++ f.before;
  gone = f.gone;
  kept = f.kept;
  old_is = ap (λ l. pre ++ l) f.old_is ∙ sym (append_assoc pre f.before f.gone);
  new_is = ap (λ l. pre ++ l) f.new_is ∙ sym (append_assoc pre f.before f.kept);
  some = omega (arith, f.some, length-append pre f.before);
  within = omega (
    arith,
    f.within,
    ap length (concat-append pre old),
    length-append (concat pre) (concat old),
  );
  text_is = concat-append pre new ∙ ap (λ l. concat pre ++ l) f.text_is
      ∙ sym (ap (take (length (concat pre) + at)) (concat-append pre old)
      ∙ take-append-add (concat pre) (concat old) at);
}

pub back_before : (old new post : List (List ℕ)) (at : ℕ) → KeepsBack at old new
    → KeepsBack at (old ++ post) (new ++ post)
back_before old new post at b = record {
  gone = b.gone;
  kept = b.kept;
  after = b.after ++ post;
  old_is = ap (λ l. l ++ post) b.old_is ∙ append_assoc b.gone b.after post;
  new_is = ap (λ l. l ++ post) b.new_is ∙ append_assoc b.kept b.after post;
  some = omega (arith, b.some, length-append b.after post);
  within = omega (
    arith,
    b.within,
    ap length (concat-append old post),
    length-append (concat old) (concat post),
  );
  text_is = concat-append new post ∙ ap (λ l. l ++ concat post) b.text_is
      ∙ sym (ap (drop at) (concat-append old post)
      ∙ drop-append-le at (concat old) (concat post) b.within);
}

-- the same between leaves that the old ones stand between
module _ (start end : ℕ) (left right new pre post : List (List ℕ))
    (p : AreParted start end left right new) (before : AreLeaves (pre ++ left))
    (after : AreLeaves (right ++ post)) where
  front_leaves : AreLeaves (pre ++ p.is_front.before)
  front_leaves =
      leaves_left (pre ++ p.is_front.before) p.is_front.gone
      (subst AreLeaves (ap (λ l. pre ++ l) p.is_front.old_is
      ∙ sym (append_assoc pre p.is_front.before p.is_front.gone)) before)

  back_leaves : AreLeaves (p.is_back.after ++ post)
  back_leaves =
      leaves_right p.is_back.gone (p.is_back.after ++ post)
      (subst AreLeaves (ap (λ l. l ++ post) p.is_back.old_is
      ∙ append_assoc p.is_back.gone p.is_back.after post) after)

  whole : AreLeaves (p.is_front.before ++ (p.is_front.kept ++ p.back))
  whole =
      subst AreLeaves (p.new_is ∙ ap (λ l. l ++ p.back) p.is_front.new_is
      ∙ append_assoc p.is_front.before p.is_front.kept p.back) p.leaves

  led : AreLeaves (pre ++ new)
  led =
      subst (λ l. AreLeaves (pre ++ l)) (sym (p.new_is ∙ ap (λ l. l ++ p.back) p.is_front.new_is
      ∙ append_assoc p.is_front.before p.is_front.kept p.back))
      (overlap pre p.is_front.before _ front_leaves whole p.is_front.some)

  ended : (pre ++ (p.front ++ p.is_back.kept)) ++ p.is_back.after ≡ pre ++ new
  ended = append_assoc pre (p.front ++ p.is_back.kept) p.is_back.after
      ∙ ap (λ l. pre ++ l) (append_assoc p.front p.is_back.kept p.is_back.after
      ∙ ap (λ l. p.front ++ l) (sym p.is_back.new_is) ∙ sym p.new_is)

  pub among : AreLeaves (pre ++ (new ++ post))
  among =
      subst AreLeaves (sym (append_assoc (pre ++ (p.front ++ p.is_back.kept)) p.is_back.after post)
      ∙ ap (λ l. l ++ post) ended ∙ append_assoc pre new post)
      (overlap (pre ++ (p.front ++ p.is_back.kept)) p.is_back.after post
      (subst AreLeaves (sym ended) led) back_leaves p.is_back.some)

  pub parted_among : AreParted (length (concat pre) + start) end (pre ++ left) (right ++ post)
      (pre ++ (new ++ post))
  parted_among = record {
    front = pre ++ p.front;
    back = p.back ++ post;
    is_front = front_after pre left p.front start p.is_front;
    is_back = back_before right p.back post end p.is_back;
    new_is = ap (λ l. pre ++ (l ++ post)) p.new_is
        ∙ ap (λ l. pre ++ l) (append_assoc p.front p.back post)
        ∙ sym (append_assoc pre p.front (p.back ++ post));
    leaves = among;
  }

-- leaves between which others were
pub without_of : (start end : ℕ) (left between right new : List (List ℕ))
    → AreParted start end left right new → AreWithout start
    (length (concat left) + (length (concat between) + end)) (left ++ (between ++ right)) new
without_of start end left between right new p = record {
  left = left;
  between = between;
  right = right;
  from = end;
  old_is = refl;
  end_is = refl;
  parted = p;
}

module _ (start end : ℕ) (old new : List (List ℕ)) (w : AreWithout start end old new) where
  pub without_leaves : AreLeaves new
  without_leaves = w.parted.leaves

  pub without_text : concat new ≡ removed (concat old) start end
  without_text =
      let f = w.parted.is_front in
      let b = w.parted.is_back in
      let t : concat old ≡ concat w.left ++ (concat w.between ++ concat w.right) =
      ap concat w.old_is ∙ concat-append w.left (w.between ++ w.right)
      ∙ ap (λ l. concat w.left ++ l) (concat-append w.between w.right) in
      let first : take start (concat old) ≡ concat w.parted.front =
      ap (take start) t ∙ take-append-le start (concat w.left) _ f.within ∙ sym f.text_is in
      let last : drop end (concat old) ≡ concat w.parted.back =
      ap (drop end) t
      ∙ ap (λ n. drop n (concat w.left ++ (concat w.between ++ concat w.right))) w.end_is
      ∙ drop-append-add (concat w.left) _ _ ∙ drop-append-add (concat w.between) _ _
      ∙ sym b.text_is in
      ap concat w.parted.new_is ∙ concat-append w.parted.front w.parted.back
      ∙ ap (λ l. l ++ concat w.parted.back) (sym first)
      ∙ ap (λ l. take start (concat old) ++ l) (sym last)

  ordered : start ≤ end
  ordered = omega (arith, w.parted.is_front.within, w.end_is)

  pub without_bytes : byte_len (concat new) ≤ byte_len (concat old)
  without_bytes =
      rw without_text (byte_len-removed (concat old) start end ordered)

  pub without_some : 1 ≤ length new
  without_some =
      omega (
        arith,
        w.parted.is_front.some,
        ap length w.parted.new_is,
        ap length w.parted.is_front.new_is,
        length-append w.parted.front w.parted.back,
        length-append w.parted.is_front.before w.parted.is_front.kept,
      )

  module _ (pre post : List (List ℕ)) (good : AreLeaves (pre ++ (old ++ post))) where
    old_parts : pre ++ (old ++ post) ≡ (pre ++ w.left) ++ (w.between ++ (w.right ++ post))
    old_parts = ap (λ l. pre ++ (l ++ post)) w.old_is
        ∙ ap (λ l. pre ++ l) (append_assoc w.left (w.between ++ w.right) post
        ∙ ap (λ l. w.left ++ l) (append_assoc w.between w.right post))
        ∙ sym (append_assoc pre w.left _)

    parts : AreLeaves ((pre ++ w.left) ++ (w.between ++ (w.right ++ post)))
    parts = subst AreLeaves old_parts good

    pub parted : AreParted (length (concat pre) + start) w.from (pre ++ w.left) (w.right ++ post)
        (pre ++ (new ++ post))
    parted =
        parted_among start w.from w.left w.right new pre post w.parted
        (leaves_left (pre ++ w.left) _ parts)
        (leaves_right w.between (w.right ++ post) (leaves_right (pre ++ w.left) _ parts))

    pub without_among : AreWithout (length (concat pre) + start) (length (concat pre) + end)
        (pre ++ (old ++ post)) (pre ++ (new ++ post))
    without_among = record {
      left = pre ++ w.left;
      between = w.between;
      right = w.right ++ post;
      from = w.from;
      old_is = old_parts;
      end_is = omega (
        arith,
        w.end_is,
        ap length (concat-append pre w.left),
        length-append (concat pre) (concat w.left),
      );
      parted = parted;
    }

-- a removal up to the end of a text, and one from its start
pub removed_end : (t : List ℕ) (a : ℕ) → removed t a (length t) ≡ take a t
removed_end t a = ap (λ l. take a t ++ l) (drop_all (length t) t (omega arith))
    ∙ append-nil (take a t)

pub removed_start : (t : List ℕ) (b : ℕ) → removed t 0 b ≡ drop b t
removed_start t b = refl

pub bytes_taken : (n : ℕ) (t : List ℕ) → byte_len (take n t) ≤ byte_len t
bytes_taken n t =
    omega (
      arith,
      IsMeasure-byte_len.joined (take n t) (drop n t),
      ap byte_len (take-append-drop n t),
    )

pub bytes_dropped : (n : ℕ) (t : List ℕ) → byte_len (drop n t) ≤ byte_len t
bytes_dropped n t =
    omega (
      arith,
      IsMeasure-byte_len.joined (take n t) (drop n t),
      ap byte_len (take-append-drop n t),
    )

pub spares_weaker : (m n a b : ℕ) (t : List ℕ) → m ≤ n → Spares n a b t → Spares m a b t
spares_weaker m n a b t less s = record {
  some = s.some;
  enough = omega (arith, less, s.enough);
  first = s.first;
  last = s.last;
}

pub some_taken : (a : ℕ) (t : List ℕ) → 1 ≤ byte_len (take a t) → 1 ≤ a
some_taken zero t some = absurd (omega (arith, some))
some_taken (suc a) t some = omega arith

pub text_of_leaf_tree : (b : LineBreaks) (t : List ℕ) → text (leaf_tree b t) ≡ t
text_of_leaf_tree b [] = refl
text_of_leaf_tree b (c ∷ cs) = append-nil (c ∷ cs)

-- a list of leaves up to a part of one, and from a part of one on
module _ (ts ps : List Tree) (leaf : Tree) (ys : List Tree) (o : HasLeaf ts ps leaf ys) (at : ℕ)
    (some : 1 ≤ at) (within : at < length (text leaf)) where
  up_to : length (joined ps) + at ≤ length (joined ts)
  up_to =
      omega (
        arith,
        within,
        ap length (texts_are ts ps leaf ys o),
        length-append (joined ps) (text leaf ++ joined ys),
        length-append (text leaf) (joined ys),
      )

  was : leaves_of ts ≡ leaves_of ps ++ (text leaf ∷ leaves_of ys)
  was = leaves_are ts ps leaf ys o

  pub keeps_front : (f : Tree) → IsStart ps leaf at f → 1 ≤ length ps
      → KeepsFront (length (joined ps) + at) (leaves_of ts) (leaves_of (ps ++ f ∷ []))
  keeps_front f s before = record {
    before = leaves_of ps;
    gone = text leaf ∷ leaves_of ys;
    kept = leaves_of (f ∷ []);
    old_is = was;
    new_is = leaves_of-append ps (f ∷ []);
    some = leaves_some (breaks_of ts) 0 ps (level_before ts ps leaf ys o).each before;
    within = up_to;
    text_is = (leaf_front ts ps leaf ys o at some within f s).text_is;
  }

  pub last_of_leaf : (f : Tree) → IsStart ps leaf at f
      → last_bytes 492 (leaves_of (ps ++ f ∷ [])) ≡ byte_len (take at (text leaf))
  last_of_leaf f s =
      let long : 1 ≤ length (take at (text leaf)) =
      omega (arith, some, length-take-le at (text leaf) (omega (arith, within))) in
      let one : leaves_of (f ∷ []) ≡ take at (text leaf) ∷ [] =
      append-nil f.leaves ∙ ap (λ u. u.leaves) s.is ∙ one_leaf_is (take at (text leaf)) long in
      ap (last_bytes 492) (leaves_of-append ps (f ∷ []))
      ∙ last_bytes-append 492 (leaves_of ps) (leaves_of (f ∷ []))
      ∙ ap (last_bytes (last_bytes 492 (leaves_of ps))) one

  pub keeps_back : (k : Tree) → IsEnd leaf ys at k → 1 ≤ length ys
      → KeepsBack (length (joined ps) + at) (leaves_of ts) (leaves_of (k ∷ ys))
  keeps_back k e after = record {
    gone = leaves_of ps ++ (text leaf ∷ []);
    kept = k.leaves;
    after = leaves_of ys;
    old_is = was ∙ sym (append_assoc (leaves_of ps) (text leaf ∷ []) (leaves_of ys));
    new_is = refl;
    some = leaves_some (breaks_of ts) 0 ys (level_after ts ps leaf ys o).each after;
    within = up_to;
    text_is = (leaf_back ts ps leaf ys o at some within k e).text_is;
  }

-- leaves up to a part of one and leaves from a part of one on, which stand beside each other
module _ (b : LineBreaks) (fs : List Tree) (k : Tree) (ys : List Tree) (s : AreSiblings b 0 fs)
    (t : AreSiblings b 0 (k ∷ ys)) (seam : IsSeam (joined fs) (text k))
    (near : 492 ≤ last_bytes 492 (leaves_of fs) + byte_len (text k))
    (fits : byte_len (joined fs) + byte_len (joined (k ∷ ys)) < 2 ^ 63) where
  own : IsChild b 0 k
  own = All-head (IsChild b 0) k ys t.each

  first_is : leaves_of (k ∷ ys) ≡ text k ∷ leaves_of ys
  first_is = ap (λ l. l ++ leaves_of ys) (one_text b k own)

  some_first : 1 ≤ length (text k)
  some_first =
      (All-head IsLeafText (text k) (leaves_of ys)
      (subst (All IsLeafText) first_is t.leaves.each)).some

  pub sides_meet : AreSiblings b 0 (fs ++ k ∷ ys)
  sides_meet =
      siblings-append b 0 fs (k ∷ ys) s t
      (subst (IsSeam (joined fs)) (sym (ap concat first_is))
      (seam_begins (joined fs) (text k) (joined ys) some_first seam))
      (subst (IsDenseAfter (last_bytes 492 (leaves_of fs))) (sym first_is)
      (near, (subst AreDense first_is t.leaves.dense).1))
      (omega (arith, fits, byte_len-append fs (k ∷ ys)))

-- the leaves from a part of the first one on
pub keeps_first : (b : LineBreaks) (leaf k : Tree) (ys : List Tree) (at : ℕ) → IsChild b 0 leaf
    → text k ≡ drop at (text leaf) → at ≤ length (text leaf) → 1 ≤ length (leaves_of ys)
    → KeepsBack at (leaves_of (leaf ∷ ys)) (leaves_of (k ∷ ys))
keeps_first b leaf k ys at own is within some = record {
  gone = leaf.leaves;
  kept = k.leaves;
  after = leaves_of ys;
  old_is = refl;
  new_is = refl;
  some = some;
  within = omega (
    arith,
    within,
    ap length (concat-append leaf.leaves (leaves_of ys)),
    length-append (text leaf) (joined ys),
  );
  text_is = concat-append k.leaves (leaves_of ys) ∙ ap (λ l. l ++ joined ys) is
      ∙ sym (ap (drop at) (concat-append leaf.leaves (leaves_of ys))
      ∙ drop-append-le at (text leaf) (joined ys) within);
}

-- the same after leaves that the old ones may follow
pub without_after : (start end : ℕ) (old new pre : List (List ℕ)) → AreWithout start end old new
    → AreLeaves (pre ++ old) → AreWithout (length (concat pre) + start) (length (concat pre) + end)
    (pre ++ old) (pre ++ new)
without_after start end old new pre w good =
    subst (λ l. AreWithout (length (concat pre) + start) (length (concat pre) + end) (pre ++ old)
    (pre ++ l)) (append-nil new)
    (subst (λ l. AreWithout (length (concat pre) + start) (length (concat pre) + end) (pre ++ l)
    (pre ++ (new ++ []))) (append-nil old)
    (without_among start end old new w pre []
    (subst (λ l. AreLeaves (pre ++ l)) (sym (append-nil old)) good)))

pub parted_after : (start end : ℕ) (left right new pre : List (List ℕ))
    → AreParted start end left right new → AreLeaves (pre ++ left) → AreLeaves right
    → AreParted (length (concat pre) + start) end (pre ++ left) right (pre ++ new)
parted_after start end left right new pre p before after =
    subst (λ l. AreParted (length (concat pre) + start) end (pre ++ left) right (pre ++ l))
    (append-nil new)
    (subst (λ l. AreParted (length (concat pre) + start) end (pre ++ left) l (pre ++ (new ++ [])))
    (append-nil right)
    (parted_among start end left right new pre [] p before
    (subst AreLeaves (sym (append-nil right)) after)))

pub parted_bytes : (start end : ℕ) (left right new : List (List ℕ))
    → AreParted start end left right new
    → byte_len (concat new) ≤ byte_len (concat left) + byte_len (concat right)
parted_bytes start end left right new p =
    omega (
      arith,
      ap (λ l. byte_len (concat l)) p.new_is,
      ap byte_len (concat-append p.front p.back),
      IsMeasure-byte_len.joined (concat p.front) (concat p.back),
      ap byte_len p.is_front.text_is,
      ap byte_len p.is_back.text_is,
      bytes_taken start (concat left),
      bytes_dropped end (concat right),
    )

pub without_before : (start end : ℕ) (old new post : List (List ℕ)) → AreWithout start end old new
    → AreLeaves (old ++ post) → AreWithout start end (old ++ post) (new ++ post)
without_before start end old new post w good =
    let first : length (concat []) + start ≡ start = omega arith in
    let last : length (concat []) + end ≡ end = omega arith in
    subst (λ n. AreWithout n end (old ++ post) (new ++ post)) first
    (subst (λ n. AreWithout (length (concat []) + start) n (old ++ post) (new ++ post)) last
    (without_among start end old new w [] post good))
