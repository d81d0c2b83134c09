-- Lists of leaves below one node, of which the last one loses leaves.
use Rattle.std.proofs.Common.{◌≡◌, ℕ, ◌+◌, ◌-◌, ◌^◌, ◌<◌, ◌≤◌, List, [], ◌∷◌, ◌++◌, length, get_or, take, sym, ap, ap₂, subst, refl, ◌∙◌, arith}
use Rattle.std.specs.List.{All, concat}
use Rattle.std.proofs.lemmas.List.{append_assoc, append-nil, length-append}
use Rattle.std.proofs.lemmas.List.Elements.{All-nil, All-cons, All-head, All-append}
use Rattle.std.proofs.Math.Seq.{take-append_seam, get_or-append_seam}
use Rattle.rope_text.specs.Text.{byte_len}
use Rattle.rope_text.specs.declared.line_breaks.LineBreaks.{LineBreaks}
use Rattle.rope_text.proofs.CuttingLaws.{concat-append}
use Rattle.rope_leaf.specs.Leaves.{AreLeaves}
use Rattle.rope_leaf.specs.Tree.{Tree, joined, leaves_of, breaks_of, height_of, tree_over, IsChild, AreFamily}
use Rattle.rope_leaf.specs.Siblings.{AreLevel}
use Rattle.rope_leaf.proofs.NodeLaws.{leaves_of-append}
use Rattle.rope_leaf.proofs.LeafLaws.{all_left, all_right, leaves_right}
use Rattle.rope_text.proofs.Measures.{IsMeasure-byte_len}
use Rattle.rope_leaf.proofs.TreeLaws.{is_wide_over}
use Rattle.rope_tree.specs.Removed.{AreWithout}
use Rattle.rope_tree.specs.Split.{AreSettled}
use Rattle.rope_tree.proofs.RemovedLaws.{without_after, without_leaves, without_bytes}
use Rattle.rope_tree.proofs.MoveLaws.{AreMovable}
use Rattle.rope_tree.proofs.SettledLaws.{settled_some, settled_few, settled_each, settled_leaves}
use Rattle.rope_tree.proofs.UnevenLaws.{with_leaves, with_leaves_movable}

-- nodes over lists of leaves, of which the last two are over these
pub record HasLastTwo (us pre a x : List Tree) : Type 0 where
  pub is : us ≡ pre ++ (tree_over a ∷ tree_over x ∷ [])
  pub level : AreLevel us
  pub flat : height_of us ≡ 1
  pub few : byte_len (joined us) < 2 ^ 32
  pub before : AreFamily a
  pub last : AreFamily x

module _ (us pre a x : List Tree) (o : HasLastTwo us pre a x) where
  abbrev br : LineBreaks
  br = breaks_of us

  each : All (IsChild br 1) (pre ++ (tree_over a ∷ tree_over x ∷ []))
  each = subst (All (IsChild br 1)) o.is (subst (λ h. All (IsChild br h) us) o.flat o.level.each)

  pub each_pre : All (IsChild br 1) pre
  each_pre = all_left (IsChild br 1) pre (tree_over a ∷ tree_over x ∷ []) each

  pub own_before : IsChild br 1 (tree_over a)
  own_before =
      All-head (IsChild br 1) (tree_over a) (tree_over x ∷ [])
      (all_right (IsChild br 1) pre (tree_over a ∷ tree_over x ∷ []) each)

  pub own_last : IsChild br 1 (tree_over x)
  own_last =
      All-head (IsChild br 1) (tree_over x) []
      (all_right (IsChild br 1) (tree_over a ∷ []) (tree_over x ∷ [])
      (all_right (IsChild br 1) pre (tree_over a ∷ tree_over x ∷ []) each))

  pub last_flat : height_of x ≡ 0
  last_flat = omega (arith, own_last.at_height)

  pub before_flat : height_of a ≡ 0
  before_flat = omega (arith, own_before.at_height)

  each_before : All (IsChild br 0) a
  each_before =
      subst (λ h. All (IsChild br h) a) before_flat
      (subst (λ b. All (IsChild b (height_of a)) a) own_before.same_breaks o.before.each)

  pub long : length us ≡ length pre + 2
  long = ap length o.is ∙ length-append pre (tree_over a ∷ tree_over x ∷ [])

  us_parts : us ≡ (pre ++ tree_over a ∷ []) ++ tree_over x ∷ []
  us_parts = o.is ∙ sym (append_assoc pre (tree_over a ∷ []) (tree_over x ∷ []))

  front_long : length us - 1 ≡ length (pre ++ tree_over a ∷ [])
  front_long = omega (arith, long, length-append pre (tree_over a ∷ []))

  pub front_is : take (length us - 1) us ≡ pre ++ tree_over a ∷ []
  front_is =
      ap (λ n. take n us) front_long
      ∙ ap (take (length (pre ++ tree_over a ∷ []))) us_parts
      ∙ take-append_seam (pre ++ tree_over a ∷ []) (tree_over x ∷ [])

  pub last_here : get_or us (length us - 1) (tree_over x) ≡ tree_over x
  last_here =
      ap (λ n. get_or us n (tree_over x)) front_long
      ∙ ap (λ l. get_or l (length (pre ++ tree_over a ∷ [])) (tree_over x)) us_parts
      ∙ get_or-append_seam (pre ++ tree_over a ∷ []) (tree_over x) [] (tree_over x)

  abbrev led : List (List ℕ)
  led = leaves_of pre ++ leaves_of a

  pub front_leaves : leaves_of (take (length us - 1) us) ≡ led
  front_leaves =
      ap leaves_of front_is ∙ leaves_of-append pre (tree_over a ∷ [])
      ∙ ap (λ l. leaves_of pre ++ l) (append-nil (leaves_of a))

  pub all_leaves : leaves_of us ≡ led ++ leaves_of x
  all_leaves = ap leaves_of us_parts
      ∙ leaves_of-append (pre ++ tree_over a ∷ []) (tree_over x ∷ [])
      ∙ ap₂ (λ l m. l ++ m) (leaves_of-append pre (tree_over a ∷ [])
      ∙ ap (λ l. leaves_of pre ++ l) (append-nil (leaves_of a))) (append-nil (leaves_of x))

  pub good_old : AreLeaves (led ++ leaves_of x)
  good_old = subst AreLeaves all_leaves o.level.leaves

  pub bytes_old : byte_len (concat led) + byte_len (joined x) ≡ byte_len (joined us)
  bytes_old = sym (IsMeasure-byte_len.joined (concat led) (joined x))
      ∙ ap byte_len (sym (concat-append led (leaves_of x)) ∙ ap concat (sym all_leaves))

  -- leaves in the place of the last list
  module _ (y : List Tree) (each_y : All (IsChild br 0) y) (good : AreLeaves (led ++ leaves_of y))
      (low : byte_len (joined y) + byte_len (concat led) < 2 ^ 32) where
    both_each : All (IsChild br 0) (a ++ y)
    both_each = All-append (IsChild br 0) a y each_before each_y

    parts : led ++ leaves_of y ≡ leaves_of pre ++ (leaves_of a ++ leaves_of y)
    parts = append_assoc (leaves_of pre) (leaves_of a) (leaves_of y)

    both_good : AreLeaves (leaves_of a ++ leaves_of y)
    both_good = leaves_right (leaves_of pre) _ (subst AreLeaves parts good)

    all_few : byte_len (concat (led ++ leaves_of y)) < 2 ^ 32
    all_few =
        omega (
          arith,
          low,
          ap byte_len (concat-append led (leaves_of y)),
          IsMeasure-byte_len.joined (concat led) (joined y),
        )

    both_few : byte_len (concat (leaves_of a ++ leaves_of y)) < 2 ^ 32
    both_few =
        omega (
          arith,
          all_few,
          ap (λ l. byte_len (concat l)) parts,
          ap byte_len (concat-append (leaves_of pre) (leaves_of a ++ leaves_of y)),
          IsMeasure-byte_len.joined (joined pre) (concat (leaves_of a ++ leaves_of y)),
        )

    pub pair : AreMovable (a ++ y)
    pair =
        with_leaves_movable br 0 (a ++ y) _ both_each (leaves_of-append a y) both_good both_few

    pub pair_enough : 12 ≤ length (a ++ y)
    pair_enough =
        omega (
          arith,
          length-append a y,
          own_before.wide (omega (arith, own_before.at_height)),
        )

    module _ (ns : List Tree) (s : AreSettled (a ++ y) ns) where
      nodes_own : All (IsChild br 1) ns
      nodes_own =
          settled_each (a ++ y) ns s br 0
          (with_leaves br 0 (a ++ y) _ both_each (leaves_of-append a y) both_good both_few)

      pub nodes_each : All (IsChild br 1) (pre ++ ns)
      nodes_each = All-append (IsChild br 1) pre ns each_pre nodes_own

      pub nodes_leaves : leaves_of (pre ++ ns) ≡ led ++ leaves_of y
      nodes_leaves = leaves_of-append pre ns
          ∙ ap (λ l. leaves_of pre ++ l) (settled_leaves (a ++ y) ns s ∙ leaves_of-append a y)
          ∙ sym parts

      pub nodes_moved : AreMovable (pre ++ ns)
      nodes_moved =
          with_leaves_movable br 1 (pre ++ ns) _ nodes_each nodes_leaves good all_few

      pub nodes_enough : length us ≤ length (pre ++ ns) + 1
      nodes_enough =
          omega (arith, long, length-append pre ns, settled_some (a ++ y) ns s)

      pub nodes_few : length (pre ++ ns) ≤ length us
      nodes_few = omega (arith, long, length-append pre ns, settled_few (a ++ y) ns s)

-- nodes of one height, of which the last one is over these
pub record HasLast (ts us x : List Tree) : Type 0 where
  pub is : ts ≡ us ++ tree_over x ∷ []
  pub level : AreLevel ts
  pub few : byte_len (joined ts) < 2 ^ 32
  pub last : AreFamily x

module _ (ts us x : List Tree) (o : HasLast ts us x) where
  abbrev set : LineBreaks
  set = breaks_of ts

  abbrev h : ℕ
  h = height_of ts

  each_of : All (IsChild set h) (us ++ tree_over x ∷ [])
  each_of = subst (All (IsChild set h)) o.is o.level.each

  pub own_list : IsChild set h (tree_over x)
  own_list =
      All-head (IsChild set h) (tree_over x) []
      (all_right (IsChild set h) us (tree_over x ∷ []) each_of)

  pub list_many : 12 ≤ length x
  list_many = own_list.wide (omega (arith, own_list.at_height))

  longer : length ts ≡ length us + 1
  longer = ap length o.is ∙ length-append us (tree_over x ∷ [])

  pub list_leaves : leaves_of ts ≡ leaves_of us ++ leaves_of x
  list_leaves = ap leaves_of o.is ∙ leaves_of-append us (tree_over x ∷ [])
      ∙ ap (λ l. leaves_of us ++ l) (append-nil (leaves_of x))

  list_bytes : byte_len (joined us) + byte_len (joined x) ≡ byte_len (joined ts)
  list_bytes = sym (IsMeasure-byte_len.joined (joined us) (joined x))
      ∙ ap byte_len (sym (concat-append (leaves_of us) (leaves_of x)) ∙ ap concat (sym list_leaves))

  pub list_few : byte_len (joined x) < 2 ^ 32
  list_few = omega (arith, list_bytes, o.few)

  pub list_before : take (length ts - 1) ts ≡ us
  list_before =
      let n : length ts - 1 ≡ length us = omega (arith, longer) in
      ap (λ n. take n ts) n ∙ ap (take (length us)) o.is ∙ take-append_seam us (tree_over x ∷ [])

  pub list_here : get_or ts (length ts - 1) (tree_over x) ≡ tree_over x
  list_here =
      let n : length ts - 1 ≡ length us = omega (arith, longer) in
      ap (λ n. get_or ts n (tree_over x)) n ∙ ap (λ l. get_or l (length us) (tree_over x)) o.is
      ∙ get_or-append_seam us (tree_over x) [] (tree_over x)

  -- a list in its place
  module _ (y : List Tree) (family : AreFamily y) (breaks : breaks_of y ≡ breaks_of x)
      (height : height_of y ≡ height_of x) (many : 12 ≤ length y) where
    child_now : IsChild set h (tree_over y)
    child_now =
        let up : height_of y + 1 ≡ h = omega (arith, height, own_list.at_height) in
        subst (λ n. IsChild set n (tree_over y)) up
        (subst (λ u. IsChild u (height_of y + 1) (tree_over y)) (breaks ∙ own_list.same_breaks)
        (is_wide_over (breaks_of y) 12 (height_of y) y family many))

    pub each_now : All (IsChild set h) (us ++ tree_over y ∷ [])
    each_now =
        All-append (IsChild set h) us (tree_over y ∷ [])
        (all_left (IsChild set h) us (tree_over x ∷ []) each_of)
        (All-cons (IsChild set h) (tree_over y) [] child_now (All-nil (IsChild set h)))

    pub now_leaves : leaves_of (us ++ tree_over y ∷ []) ≡ leaves_of us ++ leaves_of y
    now_leaves = leaves_of-append us (tree_over y ∷ [])
        ∙ ap (λ l. leaves_of us ++ l) (append-nil (leaves_of y))

    module _ (start end : ℕ) (w : AreWithout start end (leaves_of x) (leaves_of y)) where
      pub without_now : AreWithout (length (joined (take (length ts - 1) ts)) + start)
          (length (joined (take (length ts - 1) ts)) + end) (leaves_of ts)
          (leaves_of (us ++ tree_over y ∷ []))
      without_now =
          rw (list_before, list_leaves, now_leaves)
          (without_after start end (leaves_of x) (leaves_of y) (leaves_of us) w
          (subst AreLeaves list_leaves o.level.leaves))

      pub moved_now : AreMovable (us ++ tree_over y ∷ [])
      moved_now =
          with_leaves_movable set h (us ++ tree_over y ∷ []) _ each_now refl
          (without_leaves _ _ _ _ without_now)
          (omega (arith, without_bytes _ _ _ _ without_now, o.few))
