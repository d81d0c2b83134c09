-- A text in which replacements are made from the first to the last.
use Rattle.std.proofs.Common.{◌≡◌, ℕ, ◌+◌, ◌≤◌, List, ◌++◌, length, take, drop, ap, sym, ◌∙◌, arith, length-append, append_assoc}
use Rattle.std.specs.List.{replace_range}
use Rattle.std.proofs.Math.Seq.{take-add, take-append_seam, drop-append_seam}
use Rattle.std.proofs.lemmas.List.{drop-drop, length-take, length-drop}
use Rattle.rope_text.specs.Edit.{inserted, removed}
use Rattle.rope_changes.specs.Ops.{Op, run}
use Rattle.rope_changes.specs.Change.{keeping, deleting, inserting}
use Rattle.rope_changes.proofs.Runs.{run_keeping, run_deleting, run_inserting}

module _ (kept : ℕ) (text : List ℕ) (deleted : ℕ) (ops : List Op) where
  abbrev pub step : List Op
  step = keeping kept (inserting text (deleting deleted ops))

  pub step_runs : (t : List ℕ) → run step t ≡ take kept t
      ++ (text ++ run ops (drop (kept + deleted) t))
  step_runs t =
      run_keeping kept (inserting text (deleting deleted ops)) t
      ∙ ap (λ u. take kept t ++ u) (run_inserting text (deleting deleted ops) (drop kept t)
      ∙ ap (λ u. text ++ u) (run_deleting deleted ops (drop kept t)
      ∙ ap (run ops) (drop-drop deleted kept t)))

  module _ (t : List ℕ) (at : ℕ) (within : at + kept + deleted ≤ length t) where
    abbrev pub spliced : List ℕ
    spliced = replace_range t (at + kept) (at + kept + deleted) text

    front_len : length (take (at + kept) t ++ text) ≡ at + kept + length text
    front_len = omega (arith, length-append (take (at + kept) t) text, length-take (at + kept) t)

    pub front_is : take (at + kept + length text) spliced ≡ take (at + kept) t ++ text
    front_is = ap (λ n. take n spliced) (sym front_len)
        ∙ take-append_seam (take (at + kept) t ++ text) (drop (at + kept + deleted) t)

    pub back_is : drop (at + kept + length text) spliced ≡ drop (at + kept + deleted) t
    back_is = ap (λ n. drop n spliced) (sym front_len)
        ∙ drop-append_seam (take (at + kept) t ++ text) (drop (at + kept + deleted) t)

    pub spliced_len : length spliced + deleted ≡ length t + length text
    spliced_len =
        omega (
          arith,
          length-append (take (at + kept) t ++ text) (drop (at + kept + deleted) t),
          front_len,
          length-drop (at + kept + deleted) t,
        )

    pub spliced_runs : take at t ++ run step (drop at t) ≡ take (at + kept + length text) spliced
        ++ run ops (drop (at + kept + length text) spliced)
    spliced_runs =
        let past : drop (kept + deleted) (drop at t) ≡ drop (at + kept + length text) spliced =
        drop-drop (kept + deleted) at t
        ∙ ap (λ n. drop n t) (let sum : at + (kept + deleted) ≡ at + kept + deleted = omega arith in
        sum) ∙ sym back_is in
        ap (λ u. take at t ++ u) (step_runs (drop at t))
        ∙ sym (append_assoc (take at t) (take kept (drop at t))
        (text ++ run ops (drop (kept + deleted) (drop at t))))
        ∙ ap (λ u. u ++ (text ++ run ops (drop (kept + deleted) (drop at t))))
        (sym (take-add at kept t))
        ∙ sym (append_assoc (take (at + kept) t) text (run ops (drop (kept + deleted) (drop at t))))
        ∙ ap (λ u. u ++ run ops (drop (kept + deleted) (drop at t))) (sym front_is)
        ∙ ap (λ u. take (at + kept + length text) spliced ++ run ops u) past

-- removed and then inserted
pub spliced_is : (t : List ℕ) (start end : ℕ) (text : List ℕ) → start ≤ end → end ≤ length t
    → inserted (removed t start end) start text ≡ replace_range t start end text
spliced_is t start end text ordered within =
    let is : length (take start t) ≡ start = omega (arith, length-take start t) in
    let front : take start (take start t ++ drop end t) ≡ take start t =
    ap (λ n. take n (take start t ++ drop end t)) (sym is)
    ∙ take-append_seam (take start t) (drop end t) in
    let back : drop start (take start t ++ drop end t) ≡ drop end t =
    ap (λ n. drop n (take start t ++ drop end t)) (sym is)
    ∙ drop-append_seam (take start t) (drop end t) in
    ap (λ u. (u ++ text) ++ drop start (take start t ++ drop end t)) front
    ∙ ap (λ u. (take start t ++ text) ++ u) back
