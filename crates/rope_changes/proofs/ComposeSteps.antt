-- One step of a composition that is made run by run.
use Rattle.std.proofs.Common.{◌≡◌, ℕ, zero, suc, ◌+◌, ◌<◌, ◌≤◌, inl, inr, List, [], ◌∷◌, ◌++◌, length, refl, ap, sym, ◌∙◌, arith, append-nil}
use Rattle.rope_changes.specs.Ops.{Op, keep, delete, insert, len_before, len_after}
use Rattle.rope_changes.specs.Combined.{compose}
use Rattle.rope_changes.specs.Normal.{normal_form}
use Rattle.rope_changes.specs.Change.{keeping, deleting, inserting, ops_of}
use Rattle.rope_changes.specs.Left.{Left, left, IsLoaded}
use Rattle.rope_changes.specs.Composing.{Composes}
use Rattle.rope_changes.proofs.Prefixes.{keeping_before, keeping_after, deleting_before, deleting_after, inserting_before, inserting_after}
use Rattle.rope_changes.proofs.Steps.{step_before, step_after}
use Rattle.rope_changes.proofs.NormalLaws.{normal_before, normal_after, normal_twice, keeping_append, deleting_append, inserting_append, keeping_length, deleting_length, inserting_length}
use Rattle.rope_changes.proofs.Added.{grown}
use Rattle.rope_changes.proofs.ComposeRuns.{compose_before, compose_after, compose_deleting, compose_inserting_kept, compose_inserting_inserted, compose_kept_kept, compose_kept_deleted, compose_inserted_kept, compose_inserted_deleted}

-- a replacement before other operations
edit_append : (t : List ℕ) (d : ℕ) (a : List Op)
    → inserting t (deleting d a) ≡ inserting t (deleting d []) ++ a
edit_append t d a =
    sym (inserting_append t (deleting d []) a ∙ ap (inserting t) (deleting_append d [] a))

module _ (made new first first' second second' : List Op)
    (meet : len_after first ≡ len_before second) where
  -- one run is added to what is made
  step : (run : List Op) → new ≡ normal_form (made ++ run)
      → compose first second ≡ run ++ compose first' second'
      → len_after first' ≡ len_before second'
      → length first' + length second' < length first + length second
      → Composes made first second new first' second'
  step run is splits meets shorter = record {
    composed = grown new made run (compose first' second') is
        ∙ ap (λ u. normal_form (made ++ u)) (sym splits);
    meet = meets;
    normal = λ _. ap normal_form is ∙ normal_twice (made ++ run) ∙ sym is;
    shorter = shorter;
  }

  module _ (n : ℕ) (some : 1 ≤ n) where
    pub both_keep : first ≡ keeping n first' → second ≡ keeping n second'
        → new ≡ normal_form (made ++ keeping n []) → Composes made first second new first' second'
    both_keep p q is =
        step (keeping n []) is
        (ap (λ u. compose u second) p ∙ ap (compose (keeping n first')) q
        ∙ compose_kept_kept n first' second' ∙ sym (keeping_append n [] (compose first' second')))
        (omega (
          arith,
          ap len_after p,
          keeping_after n first',
          ap len_before q,
          keeping_before n second',
        ))
        (omega (arith, ap length p, keeping_length n first', ap length q, keeping_length n second'))

    pub second_deletes : first ≡ keeping n first' → second ≡ deleting n second'
        → new ≡ normal_form (made ++ deleting n []) → Composes made first second new first' second'
    second_deletes p q is =
        step (deleting n []) is
        (ap (λ u. compose u second) p ∙ ap (compose (keeping n first')) q
        ∙ compose_kept_deleted n first' second'
        ∙ sym (deleting_append n [] (compose first' second')))
        (omega (
          arith,
          ap len_after p,
          keeping_after n first',
          ap len_before q,
          deleting_before n second',
        ))
        (omega (
          arith,
          ap length p,
          keeping_length n first',
          ap length q,
          deleting_length n second',
        ))

    pub first_deletes : first ≡ deleting n first' → second ≡ second'
        → new ≡ normal_form (made ++ deleting n []) → Composes made first second new first' second'
    first_deletes p q is =
        step (deleting n []) is
        (ap (λ u. compose u second) p ∙ ap (compose (deleting n first')) q
        ∙ compose_deleting n first' second' ∙ sym (deleting_append n [] (compose first' second')))
        (omega (arith, ap len_after p, deleting_after n first', ap len_before q))
        (omega (arith, ap length p, deleting_length n first', ap length q))

    pub inserted_stays : (t : List ℕ) → length t ≡ n → first ≡ inserting t first'
        → second ≡ keeping n second' → new ≡ normal_form (made ++ inserting t [])
        → Composes made first second new first' second'
    inserted_stays t len p q is =
        step (inserting t []) is
        (ap (λ u. compose u second) p
        ∙ ap (compose (inserting t first')) (q ∙ ap (λ m. keeping m second') (sym len))
        ∙ compose_inserted_kept t first' second'
        ∙ sym (inserting_append t [] (compose first' second')))
        (omega (
          arith,
          ap len_after p,
          inserting_after t first',
          ap len_before q,
          keeping_before n second',
        ))
        (omega (
          arith,
          ap length p,
          inserting_length t first',
          ap length q,
          keeping_length n second',
        ))

    pub inserted_replaces : (t : List ℕ) (d : ℕ) → length t ≡ n
        → first ≡ inserting t (deleting d first') → second ≡ keeping n second'
        → new ≡ normal_form (made ++ inserting t (deleting d []))
        → Composes made first second new first' second'
    inserted_replaces t d len p q is =
        step (inserting t (deleting d [])) is
        (ap (λ u. compose u second) p
        ∙ ap (compose (inserting t (deleting d first'))) (q ∙ ap (λ m. keeping m second') (sym len))
        ∙ compose_inserted_kept t (deleting d first') second'
        ∙ ap (inserting t) (compose_deleting d first' second')
        ∙ edit_append t d (compose first' second'))
        (omega (
          arith,
          ap len_after p,
          inserting_after t (deleting d first'),
          deleting_after d first',
          ap len_before q,
          keeping_before n second',
        ))
        (omega (
          arith,
          ap length p,
          inserting_length t (deleting d first'),
          deleting_length d first',
          ap length q,
          keeping_length n second',
        ))

    pub inserted_goes : (t : List ℕ) → length t ≡ n → first ≡ inserting t first'
        → second ≡ deleting n second' → new ≡ made → Composes made first second new first' second'
    inserted_goes t len p q is =
        let splits : compose first second ≡ compose first' second' =
        ap (λ u. compose u second) p
        ∙ ap (compose (inserting t first')) (q ∙ ap (λ m. deleting m second') (sym len))
        ∙ compose_inserted_deleted t first' second' in
        record {
          composed = ap (λ u. normal_form (u ++ compose first' second')) is
              ∙ ap (λ u. normal_form (made ++ u)) (sym splits);
          meet = omega (
            arith,
            ap len_after p,
            inserting_after t first',
            ap len_before q,
            deleting_before n second',
          );
          normal = λ same. ap normal_form is ∙ same ∙ sym is;
          shorter = omega (
            arith,
            ap length p,
            inserting_length t first',
            ap length q,
            deleting_length n second',
          );
        }

-- a text that the second change inserts, unless the first one deletes there
text_leads : (k : ℕ) (s : List ℕ) (d : ℕ) (a : List Op) (t : List ℕ) (b : List Op)
    → 1 ≤ k + length s + d → (k ≡ 0 → length s ≡ 0 → d ≡ 0)
    → compose (keeping k (inserting s (deleting d a))) (inserting t b)
    ≡ inserting t (compose (keeping k (inserting s (deleting d a))) b)
text_leads (suc k) s d a t b some none =
    compose_inserting_kept (suc k) t (inserting s (deleting d a)) b (omega arith)
text_leads zero (c ∷ s) d a t b some none =
    compose_inserting_inserted (c ∷ s) t (deleting d a) b (omega arith)
text_leads zero [] d a t b some none = absurd (omega arith)

text_first : (a : Left) (t : List ℕ) (b : List Op) → IsLoaded a
    → (a.kept ≡ 0 → length a.text ≡ 0 → a.deleted ≡ 0)
    → compose (left a) (inserting t b) ≡ inserting t (compose (left a) b)
text_first a t b (inl some) none =
    text_leads a.kept a.text a.deleted (ops_of a.edits a.rest) t b some none
text_first a t b (inr nil) none =
    ap (λ u. compose u (inserting t b)) nil ∙ ap (λ u. inserting t (compose u b)) (sym nil)

pub second_replaces : (made new : List Op) (first : Left) (first' second second' : List Op)
    (t : List ℕ) (n : ℕ) → len_after (left first) ≡ len_before second → 1 ≤ length t
    → IsLoaded first → (first.kept ≡ 0 → length first.text ≡ 0 → first.deleted ≡ 0)
    → left first ≡ keeping n first' → second ≡ inserting t (deleting n second')
    → new ≡ normal_form (made ++ inserting t (deleting n []))
    → Composes made (left first) second new first' second'
second_replaces made new first first' second second' t n meet some loaded none p q is =
    step made new (left first) first' second second' meet (inserting t (deleting n [])) is
    (ap (compose (left first)) q ∙ text_first first t (deleting n second') loaded none
    ∙ ap (inserting t)
    (ap (λ u. compose u (deleting n second')) p ∙ compose_kept_deleted n first' second')
    ∙ edit_append t n (compose first' second'))
    (omega (
      arith,
      ap len_after p,
      keeping_after n first',
      ap len_before q,
      inserting_before t (deleting n second'),
      deleting_before n second',
    ))
    (omega (
      arith,
      ap length p,
      keeping_length n first',
      ap length q,
      inserting_length t (deleting n second'),
      deleting_length n second',
    ))

left_length : (l : Left)
    → length (left l) ≡ l.kept + length l.text + l.deleted + length (ops_of l.edits l.rest)
left_length l =
    let after = ops_of l.edits l.rest in
    omega (
      arith,
      keeping_length l.kept (inserting l.text (deleting l.deleted after)),
      inserting_length l.text (deleting l.deleted after),
      deleting_length l.deleted after,
    )

pub left_some : (l : Left) → 1 ≤ l.kept + length l.text + l.deleted → 1 ≤ length (left l)
left_some l some = omega (arith, left_length l)

pub left_none : (l : Left) → (1 ≤ l.kept + length l.text + l.deleted → ⊥) → IsLoaded l
    → length (left l) ≡ 0
left_none l none (inl some) = absurd (none some)
left_none l none (inr nil) = ap length nil

pub loaded_some : (l : Left) → IsLoaded l → 1 ≤ length (left l)
    → 1 ≤ l.kept + length l.text + l.deleted
loaded_some l (inl some) more = some
loaded_some l (inr nil) more = absurd (omega (arith, ap length nil))

pub left_kept : (l : Left) → l.kept + l.deleted ≤ len_before (left l)
left_kept l = omega (arith, step_before l.kept l.text l.deleted (ops_of l.edits l.rest))

pub left_passed : (l : Left) → l.kept + length l.text ≤ len_after (left l)
left_passed l = omega (arith, step_after l.kept l.text l.deleted (ops_of l.edits l.rest))

passes_some : (k s d : ℕ) → 1 ≤ k + s + d → (k ≡ 0 → s ≡ 0 → d ≡ 0) → 1 ≤ k + s
passes_some zero zero d some none = absurd (omega (arith, none refl refl))
passes_some zero (suc s) d some none = omega arith
passes_some (suc k) s d some none = omega arith

pub takes_some : (k s d : ℕ) → 1 ≤ k + s + d → (k ≡ 0 → s ≡ 0) → 1 ≤ k + d
takes_some zero s d some none = omega (arith, none refl)
takes_some (suc k) s d some none = omega arith

-- where the first change doesn't delete and the second one doesn't insert, characters go from the
-- one to the other
pub runs_meet : (a b : Left) → IsLoaded a → IsLoaded b → 1 ≤ length (left a) + length (left b)
    → len_after (left a) ≡ len_before (left b)
    → (a.kept ≡ 0 → length a.text ≡ 0 → a.deleted ≡ 0) → (b.kept ≡ 0 → length b.text ≡ 0)
    → (1 ≤ a.kept + length a.text) × (1 ≤ b.kept + b.deleted)
runs_meet a b (inl x) (inl y) some meet none inserts = (
  passes_some a.kept (length a.text) a.deleted x none,
  takes_some b.kept (length b.text) b.deleted y inserts,
)
runs_meet a b (inl x) (inr nil) some meet none inserts =
    absurd (omega
    (arith, left_passed a, ap len_before nil, passes_some a.kept (length a.text) a.deleted x none))
runs_meet a b (inr nil) (inl y) some meet none inserts =
    absurd (omega
    (arith, left_kept b, ap len_after nil, takes_some b.kept (length b.text) b.deleted y inserts))
runs_meet a b (inr nil) (inr none_left) some meet none inserts =
    absurd (omega (arith, ap length nil, ap length none_left))

pub before_append : (a b : List Op) → len_before (a ++ b) ≡ len_before a + len_before b
before_append [] b = omega arith
before_append (keep ∷ a) b = omega (arith, before_append a b)
before_append (delete ∷ a) b = omega (arith, before_append a b)
before_append (insert c ∷ a) b = before_append a b

pub after_append : (a b : List Op) → len_after (a ++ b) ≡ len_after a + len_after b
after_append [] b = omega arith
after_append (keep ∷ a) b = omega (arith, after_append a b)
after_append (delete ∷ a) b = after_append a b
after_append (insert c ∷ a) b = omega (arith, after_append a b)

-- the lengths of what is made and of a change that is still to be added
pub made_before : (made more whole : List Op) → normal_form (made ++ more) ≡ normal_form whole
    → len_before made + len_before more ≡ len_before whole
made_before made more whole is =
    omega (
      arith,
      ap len_before is,
      normal_before (made ++ more),
      before_append made more,
      normal_before whole,
    )

pub made_after : (made more whole : List Op) → normal_form (made ++ more) ≡ normal_form whole
    → len_after made + len_after more ≡ len_after whole
made_after made more whole is =
    omega (
      arith,
      ap len_after is,
      normal_after (made ++ more),
      after_append made more,
      normal_after whole,
    )

pub none_left : (n m : ℕ) → (1 ≤ n → ⊥) → n ≡ m → m ≡ 0
none_left zero m none same = sym same
none_left (suc n) m none same = absurd (none (omega arith))

-- nothing is left of either change
pub all_made : (made first second : List Op) → normal_form made ≡ made
    → length first + length second ≡ 0 → normal_form (made ++ compose first second) ≡ made
all_made made [] [] normal none = ap normal_form (append-nil made) ∙ normal
all_made made [] (op ∷ second) normal none = absurd (omega arith)
all_made made (op ∷ first) second normal none = absurd (omega arith)

pub composition_made : (made first second first' second' whole later : List Op)
    → normal_form made ≡ made → normal_form (made ++ compose first second)
    ≡ normal_form (compose whole later)
    → first' ≡ first → second' ≡ second → (1 ≤ length first' + length second' → ⊥)
    → made ≡ normal_form (compose whole later)
composition_made made first second first' second' whole later normal is p q none =
    sym (all_made made first second normal
    (none_left (length first' + length second') (length first + length second) none
    (omega (arith, ap length p, ap length q)))) ∙ is

-- the lengths of both sides while a composition is made
module _ (made first second whole later : List Op)
    (is : normal_form (made ++ compose first second) ≡ normal_form (compose whole later))
    (meet : len_after first ≡ len_before second)
    (given : len_after whole ≡ len_before later) where
  pub before_kept : len_before made + len_before first ≡ len_before whole
  before_kept =
      omega (
        arith,
        made_before made (compose first second) (compose whole later) is,
        compose_before first second meet,
        compose_before whole later given,
      )

  pub after_kept : len_after made + len_after second ≡ len_after later
  after_kept =
      omega (
        arith,
        made_after made (compose first second) (compose whole later) is,
        compose_after first second meet,
        compose_after whole later given,
      )
