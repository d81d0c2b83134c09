-- One step of a change that is rebased run by run.
use Rattle.std.proofs.Common.{◌≡◌, ℕ, zero, suc, ◌+◌, ◌≤◌, ◌⊎◌, inl, inr, List, [], ◌∷◌, ◌++◌, length, refl, ap, sym, ◌∙◌, arith, append-nil}
use Rattle.rope_changes.specs.Ops.{Op, len_before, len_after}
use Rattle.rope_changes.specs.Combined.{rebase_first, rebase_second}
use Rattle.rope_changes.specs.Normal.{normal_form, carried}
use Rattle.rope_changes.specs.Change.{keeping, deleting, inserting, ops_of}
use Rattle.rope_changes.specs.Left.{Left, left, IsLoaded, Inserts}
use Rattle.rope_changes.specs.Runs.{run_ops, IsRun}
use Rattle.rope_changes.specs.Rebasing.{Rebases}
use Rattle.rope_changes.specs.declared.run.Run.{Run}
use Rattle.rope_changes.specs.declared.run.Run.TheVariants.{Keep, Delete, Nothing}
use Rattle.rope_changes.specs.declared.side.Side.{Side}
use Rattle.rope_changes.specs.declared.side.Side.TheVariants.{Before, After}
use Rattle.rope_changes.proofs.Prefixes.{keeping_before, deleting_before, inserting_before}
use Rattle.rope_changes.proofs.NormalLaws.{keeping_append, deleting_append, inserting_append, keeping_length, deleting_length, inserting_length}
use Rattle.rope_changes.proofs.Added.{grown}
use Rattle.rope_changes.proofs.ComposeSteps.{left_kept, takes_some, before_append, after_append, made_before, made_after, none_left}
use Rattle.rope_changes.proofs.RebaseRuns.{first_inserts, over_first, own_second, over_second, over_at_end, both_kept, own_deleted, over_deleted_kept, both_deleted}

module _ (side : Side) (own own' over over' : List Op) (meet : len_before own ≡ len_before over)
    (n : ℕ) (some : 1 ≤ n) where
  pub both_keep : own ≡ keeping n own' → over ≡ keeping n over'
      → Rebases side own over (Keep n) own' over'
  both_keep p q = record {
    splits = ap (λ u. carried side u over) p ∙ ap (carried side (keeping n own')) q
        ∙ both_kept side n own' over' ∙ sym (keeping_append n [] (carried side own' over'));
    meet = omega
        (arith, ap len_before p, keeping_before n own', ap len_before q, keeping_before n over');
    some = some;
    shorter = omega
        (arith, ap length p, keeping_length n own', ap length q, keeping_length n over');
  }

  pub own_deletes : own ≡ deleting n own' → over ≡ keeping n over'
      → Rebases side own over (Delete n) own' over'
  own_deletes p q = record {
    splits = ap (λ u. carried side u over) p ∙ ap (carried side (deleting n own')) q
        ∙ own_deleted side n own' over' ∙ sym (deleting_append n [] (carried side own' over'));
    meet = omega
        (arith, ap len_before p, deleting_before n own', ap len_before q, keeping_before n over');
    some = some;
    shorter = omega
        (arith, ap length p, deleting_length n own', ap length q, keeping_length n over');
  }

  pub over_deletes : own ≡ keeping n own' → over ≡ deleting n over'
      → Rebases side own over Nothing own' over'
  over_deletes p q = record {
    splits = ap (λ u. carried side u over) p ∙ ap (carried side (keeping n own')) q
        ∙ over_deleted_kept side n own' over';
    meet = omega
        (arith, ap len_before p, keeping_before n own', ap len_before q, deleting_before n over');
    some = tt;
    shorter = omega
        (arith, ap length p, keeping_length n own', ap length q, deleting_length n over');
  }

  pub both_delete : own ≡ deleting n own' → over ≡ deleting n over'
      → Rebases side own over Nothing own' over'
  both_delete p q = record {
    splits = ap (λ u. carried side u over) p ∙ ap (carried side (deleting n own')) q
        ∙ both_deleted side n own' over';
    meet = omega
        (arith, ap len_before p, deleting_before n own', ap len_before q, deleting_before n over');
    some = tt;
    shorter = omega
        (arith, ap length p, deleting_length n own', ap length q, deleting_length n over');
  }

-- what is left begins with a character that is kept or deleted, or ends
no_text : (t : List ℕ) (a : List Op) → length t ≡ 0 → inserting t a ≡ a
no_text [] a none = refl
no_text (c ∷ t) a none = absurd (omega arith)

quiet : (k d : ℕ) (s : List ℕ) → (k ≡ 0 → 1 ≤ length s → ⊥) → (k ≡ 0 → length s ≡ 0)
quiet k d [] none = λ zero. refl
quiet k d (c ∷ s) none = λ zero. absurd (none zero (omega arith))

own_second_run : (k : ℕ) (s : List ℕ) (d : ℕ) (b : List Op) (t : List ℕ) (a : List Op)
    → 1 ≤ k + length s + d → (k ≡ 0 → length s ≡ 0)
    → rebase_second (keeping k (inserting s (deleting d b))) (inserting t a)
    ≡ inserting t (rebase_second (keeping k (inserting s (deleting d b))) a)
own_second_run zero s d b t a some none =
    let same = no_text s (deleting d b) (none refl) in
    ap (λ u. rebase_second u (inserting t a)) same
    ∙ own_second 0 d t a b (omega (arith, none refl))
    ∙ ap (λ u. inserting t (rebase_second u a)) (sym same)
own_second_run (suc k) s d b t a some none =
    own_second (suc k) 0 t a (inserting s (deleting d b)) (omega arith)

over_second_run : (k : ℕ) (s : List ℕ) (d : ℕ) (a : List Op) (t : List ℕ) (b : List Op)
    → 1 ≤ k + length s + d → (k ≡ 0 → length s ≡ 0)
    → rebase_first (keeping k (inserting s (deleting d a))) (inserting t b)
    ≡ keeping (length t) (rebase_first (keeping k (inserting s (deleting d a))) b)
over_second_run zero s d a t b some none =
    let same = no_text s (deleting d a) (none refl) in
    ap (λ u. rebase_first u (inserting t b)) same
    ∙ over_second 0 d t a b (omega (arith, none refl))
    ∙ ap (λ u. keeping (length t) (rebase_first u b)) (sym same)
over_second_run (suc k) s d a t b some none =
    over_second (suc k) 0 t (inserting s (deleting d a)) b (omega arith)

own_text : (side : Side) (t : List ℕ) (own : List Op) (over : Left) → IsLoaded over
    → (side ≡ Before) ⊎ (over.kept ≡ 0 → length over.text ≡ 0)
    → carried side (inserting t own) (left over) ≡ inserting t (carried side own (left over))
own_text Before t own over loaded first = first_inserts t own (left over)
own_text After t own over loaded (inl wrong) = absurd (cc)
own_text After t own over (inl some) (inr none) =
    own_second_run over.kept over.text over.deleted (ops_of over.edits over.rest) t own some none
own_text After t own over (inr nil) (inr none) =
    ap (λ u. rebase_second u (inserting t own)) nil
    ∙ ap (λ u. inserting t (rebase_second u own)) (sym nil)

over_text : (side : Side) (t : List ℕ) (own : Left) (over : List Op) → IsLoaded own
    → (side ≡ After) ⊎ (own.kept ≡ 0 → length own.text ≡ 0)
    → carried side (left own) (inserting t over) ≡ keeping (length t) (carried side (left own) over)
over_text After t own over loaded first = over_first t (left own) over
over_text Before t own over loaded (inl wrong) = absurd (cc)
over_text Before t own over (inl some) (inr none) =
    over_second_run own.kept own.text own.deleted (ops_of own.edits own.rest) t over some none
over_text Before t own over (inr nil) (inr none) =
    ap (λ u. rebase_first u (inserting t over)) nil ∙ over_at_end t over
    ∙ ap (λ u. keeping (length t) (rebase_first u over)) (sym nil)

-- the text that the change inserts comes first
pub own_inserts : (side : Side) (own own' : List Op) (over : Left) (t : List ℕ) (run : Run)
    → len_before own ≡ len_before (left over) → IsLoaded over
    → (side ≡ Before) ⊎ (over.kept ≡ 0 → length over.text ≡ 0) → own ≡ inserting t own'
    → 1 ≤ length t → IsRun run → run_ops run ≡ inserting t []
    → Rebases side own (left over) run own' (left over)
own_inserts side own own' over t run meet loaded first p some counted is = record {
  splits =
      ap (λ u. carried side u (left over)) p ∙ own_text side t own' over loaded first
      ∙ sym (inserting_append t [] (carried side own' (left over)))
      ∙ ap (λ u. u ++ carried side own' (left over)) (sym is);
  meet = omega (arith, ap len_before p, inserting_before t own');
  some = counted;
  shorter = omega (arith, ap length p, inserting_length t own');
}

-- the text that the other change inserts is kept
pub over_inserts : (side : Side) (own : Left) (over over' : List Op) (t : List ℕ) (n : ℕ)
    → len_before (left own) ≡ len_before over → IsLoaded own
    → (side ≡ After) ⊎ (own.kept ≡ 0 → length own.text ≡ 0) → over ≡ inserting t over' → 1 ≤ n
    → n ≡ length t → Rebases side (left own) over (Keep n) (left own) over'
over_inserts side own over over' t n meet loaded first q some counted = record {
  splits =
      ap (carried side (left own)) q ∙ over_text side t own over' loaded first
      ∙ ap (λ m. keeping m (carried side (left own) over')) (sym counted)
      ∙ sym (keeping_append n [] (carried side (left own) over'));
  meet = omega (arith, ap len_before q, inserting_before t over');
  some = some;
  shorter = omega (arith, ap length q, inserting_length t over');
}

-- a change that inserts nothing next
pub inserts_none : (l : Left) → (Inserts l → ⊥) → l.kept ≡ 0 → length l.text ≡ 0
inserts_none l none kept = quiet l.kept l.deleted l.text (λ zero some. none (zero, some)) kept

-- characters are kept or deleted next by both, where neither inserts
pub both_pass : (a b : Left) → IsLoaded a → IsLoaded b → 1 ≤ length (left a) + length (left b)
    → len_before (left a) ≡ len_before (left b)
    → (a.kept ≡ 0 → length a.text ≡ 0) → (b.kept ≡ 0 → length b.text ≡ 0)
    → (1 ≤ a.kept + a.deleted) × (1 ≤ b.kept + b.deleted)
both_pass a b (inl x) (inl y) some meet none none' = (
  takes_some a.kept (length a.text) a.deleted x none,
  takes_some b.kept (length b.text) b.deleted y none',
)
both_pass a b (inl x) (inr nil) some meet none none' =
    absurd (omega
    (arith, left_kept a, ap len_before nil, takes_some a.kept (length a.text) a.deleted x none))
both_pass a b (inr nil) (inl y) some meet none none' =
    absurd (omega
    (arith, left_kept b, ap len_before nil, takes_some b.kept (length b.text) b.deleted y none'))
both_pass a b (inr nil) (inr nil') some meet none none' =
    absurd (omega (arith, ap length nil, ap length nil'))

-- a change that is made run by run: `made`, then `run`, then what is left
module _ (side : Side) (made first second first' second' whole over more : List Op) (run : Run)
    (is : normal_form (made ++ carried side first second) ≡ normal_form (carried side whole over))
    (p : first' ≡ first) (q : second' ≡ second)
    (splits : carried side first' second' ≡ run_ops run ++ more) where
  next_run : normal_form (made ++ (run_ops run ++ more)) ≡ normal_form (carried side whole over)
  next_run =
      ap (λ u. normal_form (made ++ u)) (sym splits ∙ ap (λ u. carried side u second') p
      ∙ ap (carried side first) q) ∙ is

  pub run_before : len_before made + len_before (run_ops run) ≤ len_before (carried side whole over)
  run_before =
      omega (
        arith,
        made_before made (run_ops run ++ more) (carried side whole over) next_run,
        before_append (run_ops run) more,
      )

  pub run_after : len_after made + len_after (run_ops run) ≤ len_after (carried side whole over)
  run_after =
      omega (
        arith,
        made_after made (run_ops run ++ more) (carried side whole over) next_run,
        after_append (run_ops run) more,
      )

  pub run_added : (new : List Op) → new ≡ normal_form (made ++ run_ops run)
      → normal_form (new ++ more) ≡ normal_form (carried side whole over)
  run_added new added = grown new made (run_ops run) more added ∙ next_run

pub run_left : (side : Side) (first second first' second' more : List Op) (run : Run)
    → first' ≡ first → second' ≡ second → carried side first' second' ≡ run_ops run ++ more
    → len_after (carried side first second) ≡ len_after (run_ops run) + len_after more
run_left side first second first' second' more run p q splits =
    omega (
      arith,
      ap len_after (sym splits ∙ ap (λ u. carried side u second') p ∙ ap (carried side first) q),
      after_append (run_ops run) more,
    )

none_carried : (side : Side) (first second : List Op) → length first + length second ≡ 0
    → carried side first second ≡ []
none_carried Before [] [] none = refl
none_carried After [] [] none = refl
none_carried side [] (op ∷ second) none = absurd (omega arith)
none_carried side (op ∷ first) second none = absurd (omega arith)

pub all_carried : (side : Side) (first second first' second' : List Op) → first' ≡ first
    → second' ≡ second → (1 ≤ length first' + length second' → ⊥) → carried side first second ≡ []
all_carried side first second first' second' p q none =
    none_carried side first second
    (none_left (length first' + length second') (length first + length second) none
    (omega (arith, ap length p, ap length q)))

pub rebase_made : (side : Side) (made first second whole over : List Op) → normal_form made ≡ made
    → normal_form (made ++ carried side first second) ≡ normal_form (carried side whole over)
    → carried side first second ≡ [] → made ≡ normal_form (carried side whole over)
rebase_made side made first second whole over normal is none =
    sym (ap (λ u. normal_form (made ++ u)) none ∙ ap normal_form (append-nil made) ∙ normal) ∙ is
