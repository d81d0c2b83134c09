-- A leaf that takes the first characters of the next one, or the last ones of the one before it.
use Rattle.std.proofs.Common.{◌≡◌, ℕ, ◌+◌, ◌^◌, ◌<◌, ◌≤◌, List, [], ◌∷◌, ◌++◌, length, take, drop, sym, ap, subst, ◌∙◌, arith}
use Rattle.std.specs.List.{concat}
use Rattle.std.proofs.lemmas.List.{append-nil, append_assoc, length-append, length-take-le, length-drop, take-append-drop, take-append-le, drop-append-le}
use Rattle.std.proofs.lemmas.List.Elements.{All-head}
use Rattle.std.proofs.Math.Seq.{take-append-add, drop-append-add}
use Rattle.rope_text.specs.Text.{byte_len}
use Rattle.rope_text.specs.Dense.{IsDenseAfter, last_bytes}
use Rattle.rope_text.proofs.DenseLaws.{last_bytes-append, last_bytes_more, dense-append, dense_left, dense_right, dense_more}
use Rattle.rope_text.proofs.Measures.{IsMeasure-byte_len}
use Rattle.rope_leaf.specs.Leaves.{AreLeaves, IsSeam}
use Rattle.rope_leaf.specs.Tree.{Tree, text, joined, leaves_of, breaks_of, leaf_tree, IsTree, IsChild}
use Rattle.rope_leaf.specs.Siblings.{AreSiblings}
use Rattle.rope_tree.specs.Split.{IsFrontOf, IsBackOf, MayFollow, EndsAs}
use Rattle.rope_leaf.proofs.BesideLaws.{one_text}
use Rattle.rope_leaf.proofs.InsertLeaves.{wide_leaf}
use Rattle.rope_leaf.proofs.LeafLaws.{leaves_right, leaves_seam, seam-take, seam-drop}
use Rattle.rope_tree.proofs.LeafSplits.{HasLeaf, lone_siblings, level_before, level_after, leaves_are, texts_are, bytes_are}
use Rattle.rope_tree.proofs.MoveLaws.{AreMovable, level_of, siblings-append}
use Rattle.rope_leaf.proofs.NodeLaws.{leaves_of-append, joined-append, joined_one}
use Rattle.rope_leaf.proofs.SiblingLaws.{byte_len-append, siblings_left, siblings_right}
use Rattle.rope_leaf.proofs.StandLaws.{one_leaf_is}

-- the new leaf
pub record HasTaken (w leaf : Tree) (at : ℕ) (f : Tree) : Type 0 where
  pub is : f ≡ leaf_tree w.breaks (text w ++ take at (text leaf))
  pub tree : IsTree f

module _ (ts ps : List Tree) (w leaf : Tree) (ys : List Tree)
    (o : HasLeaf ts (ps ++ w ∷ []) leaf ys) where
  before : AreSiblings (breaks_of ts) 0 (ps ++ w ∷ [])
  before = level_before ts (ps ++ w ∷ []) leaf ys o

  level_first : AreSiblings (breaks_of ts) 0 ps
  level_first = siblings_left (breaks_of ts) 0 ps (w ∷ []) before

  pub own_left : IsChild (breaks_of ts) 0 w
  own_left =
      All-head (IsChild (breaks_of ts) 0) w []
      (siblings_right (breaks_of ts) 0 ps (w ∷ []) before).each

  module _ (at : ℕ) (some : 1 ≤ at) (within : at < length (text leaf)) (f : Tree)
      (h : HasTaken w leaf at f) where
    abbrev grown : List ℕ
    grown = text w ++ take at (text leaf)

    some_grown : 1 ≤ length grown
    some_grown =
        omega (
          arith,
          some,
          length-append (text w) (take at (text leaf)),
          length-take-le at (text leaf) (omega (arith, within)),
        )

    own_grown : IsChild (breaks_of ts) 0 f
    own_grown =
        wide_leaf (breaks_of ts) 12 f grown
        (h.is ∙ ap (λ b. leaf_tree b grown) own_left.same_breaks) h.tree some_grown

    grown_leaves : leaves_of (f ∷ []) ≡ grown ∷ []
    grown_leaves = append-nil f.leaves ∙ ap (λ u. u.leaves) h.is ∙ one_leaf_is grown some_grown

    grown_text : joined (f ∷ []) ≡ grown
    grown_text = ap concat grown_leaves ∙ append-nil grown

    left_text : joined (ps ++ w ∷ []) ≡ joined ps ++ text w
    left_text = joined-append ps (w ∷ []) ∙ ap (λ t. joined ps ++ t) (joined_one w)

    -- the text from the leaf that grows on
    from_left : joined (w ∷ leaf ∷ ys) ≡ text w ++ (text leaf ++ joined ys)
    from_left = joined-append (w ∷ []) (leaf ∷ ys)
        ∙ ap (λ t. t ++ joined (leaf ∷ ys)) (joined_one w)
        ∙ ap (λ t. text w ++ t) (joined-append (leaf ∷ []) ys
        ∙ ap (λ t. t ++ joined ys) (joined_one leaf))

    first_of : take (length (text w) + at) (joined (w ∷ leaf ∷ ys)) ≡ grown
    first_of = ap (take (length (text w) + at)) from_left ∙ take-append-add (text w) _ at
        ∙ ap (λ t. text w ++ t)
        (take-append-le at (text leaf) (joined ys) (omega (arith, within)))

    seam_grown : IsSeam (joined ps) (joined (f ∷ []))
    seam_grown =
        let parts : ts ≡ ps ++ (w ∷ leaf ∷ ys) = o.is ∙ append_assoc ps (w ∷ []) (leaf ∷ ys) in
        let leaves : AreLeaves (leaves_of ps ++ leaves_of (w ∷ leaf ∷ ys)) =
        subst AreLeaves (ap leaves_of parts ∙ leaves_of-append ps (w ∷ leaf ∷ ys))
        o.family.leaves in
        subst (IsSeam (joined ps)) (first_of ∙ sym grown_text)
        (seam-take (length (text w) + at) (joined ps) _
        (leaves_seam (leaves_of ps) (leaves_of (w ∷ leaf ∷ ys)) leaves))

    -- the leaf that grows is long enough after those before it
    module _ (n : ℕ) (d : IsDenseAfter n (leaves_of (ps ++ w ∷ []))) where
      near_left : IsDenseAfter (last_bytes n (leaves_of ps)) (text w ∷ [])
      near_left =
          let lone : leaves_of (w ∷ []) ≡ text w ∷ [] = append-nil w.leaves
          ∙ one_text (breaks_of ts) w own_left in
          dense_right n (leaves_of ps) (text w ∷ [])
          (subst (IsDenseAfter n) (leaves_of-append ps (w ∷ [])
          ∙ ap (λ l. leaves_of ps ++ l) lone) d)

      near_grown : IsDenseAfter (last_bytes n (leaves_of ps)) (leaves_of (f ∷ []))
      near_grown =
          rw grown_leaves (
            omega (
              arith,
              near_left.0,
              IsMeasure-byte_len.joined (text w) (take at (text leaf)),
            ),
            tt,
          )

      dense_grown : IsDenseAfter n (leaves_of (ps ++ f ∷ []))
      dense_grown =
          rw (leaves_of-append ps (f ∷ []))
          (dense-append n (leaves_of ps) (leaves_of (f ∷ []))
          (dense_left n (leaves_of ps) (leaves_of (w ∷ []))
          (subst (IsDenseAfter n) (leaves_of-append ps (w ∷ [])) d)) near_grown)

    fewer : byte_len (joined (ps ++ f ∷ [])) ≤ byte_len (joined ts)
    fewer =
        omega (
          arith,
          byte_len-append ps (f ∷ []),
          ap byte_len grown_text,
          IsMeasure-byte_len.joined (text w) (take at (text leaf)),
          ap byte_len left_text,
          IsMeasure-byte_len.joined (joined ps) (text w),
          bytes_are ts (ps ++ w ∷ []) leaf ys o,
          ap byte_len (take-append-drop at (text leaf)),
          IsMeasure-byte_len.joined (take at (text leaf)) (drop at (text leaf)),
        )

    pub all_grown : AreSiblings (breaks_of ts) 0 (ps ++ f ∷ [])
    all_grown =
        siblings-append (breaks_of ts) 0 ps (f ∷ []) level_first
        (lone_siblings (breaks_of ts) f own_grown) seam_grown
        (near_grown 492 before.leaves.dense) (omega (arith, fewer, o.family.fits))

    pub move_grown : byte_len (joined ts) < 2 ^ 32 → AreMovable (ps ++ f ∷ [])
    move_grown few = record {
      level = level_of (breaks_of ts) 0 (ps ++ f ∷ []) all_grown;
      few = omega (arith, few, fewer);
    }

    pub grown_front : IsFrontOf (length (joined (ps ++ w ∷ [])) + at) ts (ps ++ f ∷ [])
    grown_front = record {
      text_is = joined-append ps (f ∷ []) ∙ ap (λ t. joined ps ++ t) grown_text
          ∙ sym (append_assoc (joined ps) (text w) (take at (text leaf)))
          ∙ ap (λ t. t ++ take at (text leaf)) (sym left_text)
          ∙ sym (ap (take (length (joined (ps ++ w ∷ [])) + at))
          (texts_are ts (ps ++ w ∷ []) leaf ys o)
          ∙ take-append-add (joined (ps ++ w ∷ [])) _ at
          ∙ ap (λ t. joined (ps ++ w ∷ []) ++ t)
          (take-append-le at (text leaf) (joined ys) (omega (arith, within))));
      level = rw o.flat all_grown;
      some = omega (arith, length-append ps (f ∷ []));
      few = omega (
        arith,
        ap length o.is,
        length-append (ps ++ w ∷ []) (leaf ∷ ys),
        length-append ps (w ∷ []),
        length-append ps (f ∷ []),
      );
    }

    pub grown_following : MayFollow ts (ps ++ f ∷ [])
    grown_following n d =
        dense_grown n (dense_left n (leaves_of (ps ++ w ∷ [])) (leaves_of (leaf ∷ ys))
        (subst (IsDenseAfter n) (ap leaves_of o.is
        ∙ leaves_of-append (ps ++ w ∷ []) (leaf ∷ ys)) d))

-- the leaf that takes the last characters of the one before it
pub record HasTakenEnd (leaf z : Tree) (at : ℕ) (k : Tree) : Type 0 where
  pub is : k ≡ leaf_tree z.breaks (drop at (text leaf) ++ text z)
  pub tree : IsTree k

module _ (ts ps : List Tree) (leaf z : Tree) (zs : List Tree)
    (o : HasLeaf ts ps leaf (z ∷ zs)) where
  after : AreSiblings (breaks_of ts) 0 (z ∷ zs)
  after = level_after ts ps leaf (z ∷ zs) o

  pub own_right : IsChild (breaks_of ts) 0 z
  own_right = All-head (IsChild (breaks_of ts) 0) z zs after.each

  right_leaves : leaves_of (z ∷ zs) ≡ text z ∷ leaves_of zs
  right_leaves = ap (λ l. l ++ leaves_of zs) (one_text (breaks_of ts) z own_right)

  module _ (at : ℕ) (within : at < length (text leaf)) (k : Tree) (h : HasTakenEnd leaf z at k)
    where
      abbrev led : List ℕ
      led = drop at (text leaf) ++ text z

      some_led : 1 ≤ length led
      some_led =
          omega (
            arith,
            within,
            length-append (drop at (text leaf)) (text z),
            length-drop at (text leaf),
          )

      own_led : IsChild (breaks_of ts) 0 k
      own_led =
          wide_leaf (breaks_of ts) 12 k led
          (h.is ∙ ap (λ b. leaf_tree b led) own_right.same_breaks) h.tree some_led

      led_leaves : k.leaves ≡ led ∷ []
      led_leaves = ap (λ u. u.leaves) h.is ∙ one_leaf_is led some_led

      led_text : joined (k ∷ []) ≡ led
      led_text = ap concat (append-nil k.leaves ∙ led_leaves) ∙ append-nil led

      right_text : joined (z ∷ zs) ≡ text z ++ joined zs
      right_text = joined-append (z ∷ []) zs ∙ ap (λ t. t ++ joined zs) (joined_one z)

      all_led_text : joined (k ∷ zs) ≡ drop at (text leaf) ++ joined (z ∷ zs)
      all_led_text = joined-append (k ∷ []) zs ∙ ap (λ t. t ++ joined zs) led_text
          ∙ append_assoc (drop at (text leaf)) (text z) (joined zs)
          ∙ ap (λ t. drop at (text leaf) ++ t) (sym right_text)

      more : byte_len (text z) ≤ byte_len led
      more = omega (arith, IsMeasure-byte_len.joined (drop at (text leaf)) (text z))

      seam_led : IsSeam (joined (k ∷ [])) (joined zs)
      seam_led =
          let all : AreLeaves ((text leaf ∷ text z ∷ []) ++ leaves_of zs) =
          subst (λ l. AreLeaves (text leaf ∷ l)) right_leaves
          (leaves_right (leaves_of ps) (text leaf ∷ leaves_of (z ∷ zs))
          (subst AreLeaves (leaves_are ts ps leaf (z ∷ zs) o) o.family.leaves)) in
          let whole : IsSeam (text leaf ++ text z) (joined zs) =
          subst (λ t. IsSeam (text leaf ++ t) (joined zs)) (append-nil (text z))
          (leaves_seam (text leaf ∷ text z ∷ []) (leaves_of zs) all) in
          subst (λ t. IsSeam t (joined zs))
          (drop-append-le at (text leaf) (text z) (omega (arith, within)) ∙ sym led_text)
          (seam-drop at (text leaf ++ text z) (joined zs) whole)

      near_led : IsDenseAfter (last_bytes 492 (leaves_of (k ∷ []))) (leaves_of zs)
      near_led =
          rw (append-nil k.leaves, led_leaves) (dense_more (byte_len (text z)) (byte_len led)
          (leaves_of zs) more (subst (IsDenseAfter 492) right_leaves after.leaves.dense).1)

      fewer_led : byte_len (joined (k ∷ zs)) ≤ byte_len (joined ts)
      fewer_led =
          omega (
            arith,
            ap byte_len all_led_text,
            IsMeasure-byte_len.joined (drop at (text leaf)) (joined (z ∷ zs)),
            bytes_are ts ps leaf (z ∷ zs) o,
            ap byte_len (take-append-drop at (text leaf)),
            IsMeasure-byte_len.joined (take at (text leaf)) (drop at (text leaf)),
          )

      pub all_led : AreSiblings (breaks_of ts) 0 (k ∷ zs)
      all_led =
          siblings-append (breaks_of ts) 0 (k ∷ []) zs (lone_siblings (breaks_of ts) k own_led)
          (siblings_right (breaks_of ts) 0 (z ∷ []) zs after) seam_led near_led
          (omega (arith, fewer_led, o.family.fits))

      pub move_led : byte_len (joined ts) < 2 ^ 32 → AreMovable (k ∷ zs)
      move_led few = record {
        level = level_of (breaks_of ts) 0 (k ∷ zs) all_led;
        few = omega (arith, few, fewer_led);
      }

      pub led_back : IsBackOf (length (joined ps) + at) ts (k ∷ zs)
      led_back = record {
        text_is = all_led_text
            ∙ sym (ap (drop (length (joined ps) + at)) (texts_are ts ps leaf (z ∷ zs) o)
            ∙ drop-append-add (joined ps) _ at
            ∙ drop-append-le at (text leaf) (joined (z ∷ zs)) (omega (arith, within)));
        level = rw o.flat all_led;
        some = omega arith;
        few = omega (arith, ap length o.is, length-append ps (leaf ∷ z ∷ zs));
      }

      pub led_ahead : EndsAs ts (k ∷ zs)
      led_ahead m n =
          let was : last_bytes m (leaves_of ts) ≡ last_bytes (byte_len (text z)) (leaves_of zs) =
          ap (last_bytes m) (leaves_are ts ps leaf (z ∷ zs) o)
          ∙ last_bytes-append m (leaves_of ps) (text leaf ∷ leaves_of (z ∷ zs))
          ∙ ap (last_bytes (byte_len (text leaf))) right_leaves in
          let now : last_bytes n (leaves_of (k ∷ zs)) ≡ last_bytes (byte_len led) (leaves_of zs) =
          ap (λ l. last_bytes n (l ++ leaves_of zs)) led_leaves in
          omega (
            arith,
            was,
            now,
            last_bytes_more (byte_len (text z)) (byte_len led) (leaves_of zs) more,
          )
