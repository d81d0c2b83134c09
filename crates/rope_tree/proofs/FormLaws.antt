-- Properties of a node, by its form.
use Rattle.std.proofs.Common.{◌≡◌, ℕ, Bool, true, false, min, Option, Some, None, Result, Ok, Err, List, [], ◌∷◌, ◌<◌, ◌≤◌, refl, sym, ap, subst, ◌∙◌, arith}
use Rattle.std.specs.Prelude.{IfOk, OnErr, IfSome, IfNone}
use Rattle.std.proofs.lemmas.List.{nil_from_length}
use Rattle.std.proofs.lemmas.List.Elements.{All-head}
use Rattle.std.proofs.lemmas.Str.{length-le-encodes}
use Rattle.std.specs.declared.alloc.Global.{Global}
use Rattle.std.specs.declared.rc.Rc.{Rc}
use Rattle.rope_text.specs.Text.{byte_len}
use Rattle.rope_text.specs.Edit.{inserted}
use Rattle.rope_tree.specs.declared.node.Node.TheInside.{Inside}
use Rattle.rope_tree.specs.declared.node.Form.{Form}
use Rattle.rope_tree.specs.declared.node.Children.{Children}
use Rattle.rope_leaf.specs.declared.leaf.Leaf.{Leaf}
use Rattle.rope_tree.specs.declared.node.Form.TheVariants.{Empty, Leaf as LeafForm, Inner}
use Rattle.rope_leaf.specs.Tree.{Tree, text, joined, height_of, breaks_of, tree_over, IsTree, IsWide, AreChildren}
use Rattle.rope_leaf.specs.LeafTree.{IsLeafNode}
use Rattle.rope_tree.specs.Shape.{form_tree, tree_of, IsForm, IsNode}
use Rattle.rope_leaf.specs.Insert.{IsInserted, AreGrown}
use Rattle.rope_leaf.specs.Removal.{IsRemoved, AreRemoved}
use Rattle.rope_tree.specs.Tries.{IsTried}
use Rattle.rope_leaf.proofs.TreeLaws.{is_leaf_tree, is_tree_over, low_tree}
use Rattle.rope_leaf.proofs.NodeLaws.{children_of_first}
use Rattle.rope_leaf.proofs.RemovalLaws.{over_removed, tree_removed}
use Rattle.rope_leaf.proofs.GrownLaws.{children_after, over_grown}

-- the node over these children
pub record IsInner (t : Tree) (ts : List Tree) : Type 0 where
  pub is : t ≡ tree_over ts
  pub children : AreChildren (breaks_of ts) (height_of ts) ts

pub inner_of : (a : Inside) (t : Tree) (rc : Rc Children Global) → IsNode a → a.form ≡ Inner rc
    → tree_of a ≡ t → IsInner t rc.value
inner_of a t rc i e view = record {
  is = sym view ∙ ap form_tree e;
  children = subst IsForm e i.form;
}

-- the invariant of every node
form_is_tree : (f : Form) → IsForm f → IsTree (form_tree f)
form_is_tree (Empty b) i = is_leaf_tree b [] (omega arith) refl (omega arith)
form_is_tree (LeafForm rc) i = i.tree
form_is_tree (Inner rc) i = is_tree_over (breaks_of rc.value) (height_of rc.value) rc.value i

pub node_tree : (a : Inside) (t : Tree) → IsNode a → tree_of a ≡ t → IsTree t
node_tree a t i view = subst IsTree view (form_is_tree a.form i.form)

pub node_low : (a : Inside) (t : Tree) → IsNode a → tree_of a ≡ t → t.height ≤ 18
node_low a t i view = low_tree t (node_tree a t i view)

-- a text of no bytes
pub no_text : (l : List ℕ) → byte_len l ≡ 0 → l ≡ []
no_text l none = nil_from_length l (omega (arith, length-le-encodes l))

-- a leaf, by its pointer
pub leaf_seen : (a : Inside) (t : Tree) (rc : Rc Leaf Global) (x : Tree) → a.form ≡ LeafForm rc
    → tree_of a ≡ t → x ≡ rc.value → t ≡ x
leaf_seen a t rc x e view is = sym view ∙ ap form_tree e ∙ sym is

-- the children, by their pointer
pub inner_seen : (a : Inside) (t : Tree) (rc : Rc Children Global) (ts : List Tree) → IsNode a
    → a.form ≡ Inner rc → tree_of a ≡ t → ts ≡ rc.value → IsInner t ts
inner_seen a t rc ts i e view is = subst (IsInner t) (sym is) (inner_of a t rc i e view)

-- a leaf after an insert
pub grown_leaf : (old t : Tree) (ts : List Tree) (new : List ℕ) → IsLeafNode old
    → IsInserted old (t ∷ ts) new → IsLeafNode t
grown_leaf old t ts new own i =
    let w = All-head (IsWide old.breaks (min 12 old.width) old.height) t ts i.parts.each in
    record { flat = w.at_height ∙ own.flat; tree = w.tree }

-- a leaf that was split, or wasn't
pub cut_leaf : {A E : Type 0} (r : Result (Option A) E) (tree : A → Tree) (old new : Tree)
    (s : List ℕ) → IsLeafNode old
    → IfOk r (λ found. IfSome found (λ back. IsInserted old (new ∷ tree back ∷ []) s))
    → IfOk r (λ found. IfNone found (new ≡ old)) → OnErr r (new ≡ old)
    → IsLeafNode new
cut_leaf (Ok (Some back)) tree old new s own cut kept err =
    grown_leaf old new (tree back ∷ []) s own cut
cut_leaf (Ok None) tree old new s own cut kept err = rw kept own
cut_leaf (Err e) tree old new s own cut kept err = rw err own

-- a leaf after a removal
pub fallen_leaf : (first last : ℕ) (old t : Tree) (start end : ℕ) → start < end → IsLeafNode old
    → IsRemoved first last old t start end → IsLeafNode t
fallen_leaf first last old t start end order own r = record {
  flat = r.same_height ∙ own.flat;
  tree = tree_removed first last old t start end (omega (arith, order)) own.tree r;
}

-- both outcomes of a boolean result
pub by_answer : {P : Type 0} (b : Bool) → (b ≡ true → P) → (b ≡ false → P) → P
by_answer true f g = f refl
by_answer false f g = g refl

pub by_outcome : {E A Q P : Type 0} (r : Result Bool E) (old new : A) → IsTried r old new Q
    → (Q → P) → (new ≡ old → P) → P
by_outcome (Ok did) old new i f g = by_answer did (λ y. f (i.done y)) (λ n. g (i.kept n))
by_outcome (Err e) old new i f g = g i.err

-- an edit that was not tried
pub not_tried : {E A P : Type 0} (old new : A) → new ≡ old → IsTried {E = E} (Ok false) old new P
not_tried old new same = record { done = λ yes. cc; kept = λ no. same; err = tt }

-- a try, by the values around the edited one, with a consequence of its property
pub tried_in : {E A B P Q : Type 0} (r : Result Bool E) (f : A → B) (old new : A) (t u : B)
    → t ≡ f old → u ≡ f new → (P → Q) → IsTried r old new P → IsTried r t u Q
tried_in (Ok did) f old new t u e g q i =
    record { done = λ yes. q (i.done yes); kept = λ no. g ∙ ap f (i.kept no) ∙ sym e; err = tt }
tried_in (Err x) f old new t u e g q i =
    record { done = tt; kept = tt; err = g ∙ ap f i.err ∙ sym e }

pub tried_weaker : {E A P Q : Type 0} (r : Result Bool E) (old new : A) → (P → Q)
    → IsTried r old new P → IsTried r old new Q
tried_weaker r old new q i = tried_in r (λ x. x) old new old new refl refl q i

pub still_children : (t : Tree) (ts us : List Tree) → IsInner t ts → us ≡ ts
    → AreChildren (breaks_of us) (height_of us) us
still_children t ts us i same = rw same i.children

pub grown_children : (t : Tree) (ts us : List Tree) (at : ℕ) (s : List ℕ) → IsInner t ts
    → AreGrown ts us (inserted (joined ts) at s) → AreChildren (breaks_of us) (height_of us) us
grown_children t ts us at s i g = children_after ts us at s i.children g

pub grown_node : (t : Tree) (ts us : List Tree) (at : ℕ) (s : List ℕ) → IsInner t ts
    → AreGrown ts us (inserted (joined ts) at s)
    → IsInserted t (tree_over us ∷ []) (inserted (text t) at s)
grown_node t ts us at s i g = rw i.is (over_grown ts us at s i.children g)

-- a node after a removal from its children
pub removed_children : (first last : ℕ) (t : Tree) (ts us : List Tree) (start end : ℕ)
    → IsInner t ts → AreRemoved first last ts us start end
    → AreChildren (breaks_of us) (height_of us) us
removed_children first last t ts us start end i r =
    children_of_first (breaks_of ts) (height_of ts) us r.children

pub removed_node : (first last : ℕ) (t : Tree) (ts us : List Tree) (start end : ℕ) → IsInner t ts
    → AreRemoved first last ts us start end → IsRemoved first last t (tree_over us) start end
removed_node first last t ts us start end i r =
    over_removed first last t (tree_over us) ts us start end i.is refl r
