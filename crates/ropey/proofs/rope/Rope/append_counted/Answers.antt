-- An empty side leaves the other; a new tree is a rope.
use Rattle.std.proofs.Common.{rules, ◌≡◌, ℕ, ◌<◌, List, ◌++◌, length, sym, ap, ap₂, subst, ◌∙◌, arith}
use Rattle.std.proofs.lemmas.List.{append-nil, nil_from_length}
use Rattle.rope_text.specs.Text.{byte_len}
use Rattle.rope_leaf.specs.Tree.{text, IsTree}
use Rattle.ropey.specs.View.{RopeView}
use Rattle.rope_tree.proofs.FormLaws.{no_text}
use Rattle.ropey.proofs.Ropes.{rope_of}
use Rattle.ropey.proofs.Refusals.{append_error-none}
use Rattle.ropey.proofs.rope.Rope.append_counted.Goals as goal

-- a text of some bytes isn't empty, and one of none is
no_bytes : {A : Type 0} (t : List ℕ) (n : ℕ) → n ≡ byte_len t → (n ≡ 0 → ⊥) → length t ≡ 0 → A
no_bytes t n is some none = absurd (some (is ∙ ap byte_len (nil_from_length t none)))

some_bytes : {A : Type 0} (t : List ℕ) (n : ℕ) → n ≡ byte_len t → n ≡ 0 → 0 < length t → A
some_bytes t n is none some =
    absurd (omega (arith, ap length (no_text t (sym is ∙ none)), some))

pub returns-then-len_bytes-eq0-clause-ok : goal.returns-then-len_bytes-eq0-clause-ok
returns-then-len_bytes-eq0-clause-ok c =
    let none =
    no_text c.args.other.text (sym c.len_bytes.ensures.value ∙ c.if-len_bytes-eq0.true) in (
      append_error-none _ _ _ _ c.in_ok-may_append.ensures.same c.in_ok-may_append.ensures.fits,
      sym (ap (λ t. c.args.self.now.text ++ t) none ∙ append-nil c.args.self.now.text),
    )

pub returns-then-len_bytes-eq0-clause-empty_self : goal.returns-then-len_bytes-eq0-clause-empty_self
returns-then-len_bytes-eq0-clause-empty_self c =
    λ _ _ some. some_bytes c.args.other.text _ c.len_bytes.ensures.value c.if-len_bytes-eq0.true
    some

pub returns-then-len_bytes-eq0-clause-steps_inside :
    goal.returns-then-len_bytes-eq0-clause-steps_inside
returns-then-len_bytes-eq0-clause-steps_inside c =
    λ _ _ some. some_bytes c.args.other.text _ c.len_bytes.ensures.value c.if-len_bytes-eq0.true
    some

pub returns-then-bytes-eq0-clause-empty_other : goal.returns-then-bytes-eq0-clause-empty_other
returns-then-bytes-eq0-clause-empty_other c =
    λ _ none. no_bytes c.args.other.text _ c.len_bytes.ensures.value c.if-len_bytes-eq0.false none

pub returns-then-bytes-eq0-clause-steps_inside : goal.returns-then-bytes-eq0-clause-steps_inside
returns-then-bytes-eq0-clause-steps_inside c =
    λ _ some _. some_bytes c.args.self.now.text _ c.len_bytes-bytes.ensures.value
    c.if-bytes-eq0.true some

pub returns-then-bytes-eq0-clause-ok : goal.returns-then-bytes-eq0-clause-ok
returns-then-bytes-eq0-clause-ok c =
    let none =
    no_text c.args.self.now.text (sym c.len_bytes-bytes.ensures.value ∙ c.if-bytes-eq0.true) in (
      append_error-none _ _ _ _ c.in_ok-may_append.ensures.same c.in_ok-may_append.ensures.fits,
      ap text c.swap.ensures.x_after ∙ ap (λ r. r.text) c.other.view_is
          ∙ sym (ap (λ t. t ++ c.args.other.text) none),
    )

-- each tree is a rope
pub returns-in_err-appended-clause-kept : goal.returns-in_err-appended-clause-kept
returns-in_err-appended-clause-kept c = (
  search rules,
  search rules,
  rope_of c.append_to-appended.new.root
      c.append_to-appended.ensures.tree,
)

pub returns-clause-kept : goal.returns-clause-kept
returns-clause-kept c = (
  search rules,
  search rules,
  rope_of c.append_to-appended.new.root
      c.append_to-appended.ensures.tree,
)

pub returns-in_err-appended-clause-empty_other : goal.returns-in_err-appended-clause-empty_other
returns-in_err-appended-clause-empty_other c =
    λ _ none. no_bytes c.args.other.text _ c.len_bytes.ensures.value c.if-len_bytes-eq0.false none

pub returns-in_err-appended-clause-empty_self : goal.returns-in_err-appended-clause-empty_self
returns-in_err-appended-clause-empty_self c =
    λ _ none _. no_bytes c.args.self.now.text _ c.len_bytes-bytes.ensures.value c.if-bytes-eq0.false
    none

pub returns-in_err-appended-clause-steps_empty_other :
    goal.returns-in_err-appended-clause-steps_empty_other
returns-in_err-appended-clause-steps_empty_other c =
    λ none. no_bytes c.args.other.text _ c.len_bytes.ensures.value c.if-len_bytes-eq0.false none

pub returns-in_err-appended-clause-steps_empty_self :
    goal.returns-in_err-appended-clause-steps_empty_self
returns-in_err-appended-clause-steps_empty_self c =
    λ none. no_bytes c.args.self.now.text _ c.len_bytes-bytes.ensures.value c.if-bytes-eq0.false
    none

pub returns-clause-empty_other : goal.returns-clause-empty_other
returns-clause-empty_other c =
    λ _ none. no_bytes c.args.other.text _ c.len_bytes.ensures.value c.if-len_bytes-eq0.false none

pub returns-clause-empty_self : goal.returns-clause-empty_self
returns-clause-empty_self c =
    λ _ none _. no_bytes c.args.self.now.text _ c.len_bytes-bytes.ensures.value c.if-bytes-eq0.false
    none

pub returns-clause-steps_empty_other : goal.returns-clause-steps_empty_other
returns-clause-steps_empty_other c =
    λ none. no_bytes c.args.other.text _ c.len_bytes.ensures.value c.if-len_bytes-eq0.false none

pub returns-clause-steps_empty_self : goal.returns-clause-steps_empty_self
returns-clause-steps_empty_self c =
    λ none. no_bytes c.args.self.now.text _ c.len_bytes-bytes.ensures.value c.if-bytes-eq0.false
    none

pub returns-clause-ok : goal.returns-clause-ok
returns-clause-ok c = (
  append_error-none _ _ _ _ c.in_ok-may_append.ensures.same c.in_ok-may_append.ensures.fits,
  c.in_ok-appended.ensures.text
      ∙ ap₂ (λ (r s : RopeView). r.text ++ s.text) c.self.view_is c.other.view_is,
)

-- the two trees are swapped
pub invariant_of-other : goal.invariant_of-other
invariant_of-other c = subst IsTree (sym c.swap.ensures.y_after) c.self.invariant

pub invariant_of-self : goal.invariant_of-self
invariant_of-self c = subst IsTree (sym c.swap.ensures.x_after) c.other.invariant
