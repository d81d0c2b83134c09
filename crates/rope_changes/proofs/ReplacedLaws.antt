-- A range that is replaced after the last replacement.
use Rattle.std.proofs.Common.{◌≡◌, ℕ, zero, suc, ◌+◌, ◌-◌, List, [], ◌∷◌, ◌++◌, length, take, drop, refl, ap, sym, ◌∙◌, arith, length-append, append_assoc, append-nil}
use Rattle.std.specs.List.{replace_range}
use Rattle.std.proofs.Math.Seq.{take-append-add, drop-append-add}
use Rattle.std.proofs.lemmas.List.{drop-drop, take-append-drop, length-drop}
use Rattle.rope_changes.specs.Ops.{run, len_before}
use Rattle.rope_changes.specs.Change.{Edit, Change, ops_of, ops, before, after, last_end, appended, if_some, replaced, IsInOrder}
use Rattle.rope_changes.proofs.ChangeLaws.{lengths}
use Rattle.rope_changes.proofs.Prefixes.{keeping_before}
use Rattle.rope_changes.proofs.Steps.{step_before}
use Rattle.rope_changes.proofs.Runs.{run_kept}
use Rattle.rope_changes.proofs.Spliced.{step_runs}
use Rattle.rope_changes.proofs.Appended.{rest_before}

-- the text up to the end of the last replacement, changed, and the text after it
abbrev front : List Edit → List ℕ → List ℕ
front [] t = []
front (e ∷ edits) t = take e.kept t ++ (e.text ++ front edits (drop (e.kept + e.deleted) t))

abbrev back : List Edit → List ℕ → List ℕ
back [] t = t
back (e ∷ edits) t = back edits (drop (e.kept + e.deleted) t)

runs : (edits : List Edit) (rest : ℕ) (t : List ℕ)
    → run (ops_of edits rest) t ≡ front edits t ++ back edits t
runs [] rest t = run_kept rest t
runs (e ∷ edits) rest t =
    let next = drop (e.kept + e.deleted) t in
    step_runs e.kept e.text e.deleted (ops_of edits rest) t
    ∙ ap (λ u. take e.kept t ++ (e.text ++ u)) (runs edits rest next)
    ∙ ap (λ u. take e.kept t ++ u) (sym (append_assoc e.text (front edits next) (back edits next)))
    ∙ sym (append_assoc (take e.kept t) (e.text ++ front edits next) (back edits next))

back_len : (edits : List Edit) (rest : ℕ) (t : List ℕ) → len_before (ops_of edits rest) ≡ length t
    → length (back edits t) ≡ rest
back_len [] rest t fits = omega (arith, keeping_before rest [])
back_len (e ∷ edits) rest t fits =
    back_len edits rest (drop (e.kept + e.deleted) t)
    (omega (
      arith,
      step_before e.kept e.text e.deleted (ops_of edits rest),
      length-drop (e.kept + e.deleted) t,
    ))

appended_front : (edits : List Edit) (kept : ℕ) (text : List ℕ) (deleted : ℕ) (t : List ℕ)
    → front (appended edits kept text deleted) t ≡ front edits t
    ++ (take kept (back edits t) ++ text)
appended_front [] kept text deleted t = ap (λ u. take kept t ++ u) (append-nil text)
appended_front (e ∷ []) zero text deleted t = simp (append_assoc, append-nil {A = ℕ})
appended_front (e ∷ []) (suc kept) text deleted t = simp (append_assoc, append-nil {A = ℕ})
appended_front (e ∷ f ∷ edits) kept text deleted t =
    let next = drop (e.kept + e.deleted) t in
    let more = take kept (back (f ∷ edits) next) ++ text in
    ap (λ u. take e.kept t ++ (e.text ++ u)) (appended_front (f ∷ edits) kept text deleted next)
    ∙ ap (λ u. take e.kept t ++ u) (sym (append_assoc e.text (front (f ∷ edits) next) more))
    ∙ sym (append_assoc (take e.kept t) (e.text ++ front (f ∷ edits) next) more)

appended_back : (edits : List Edit) (kept : ℕ) (text : List ℕ) (deleted : ℕ) (t : List ℕ)
    → back (appended edits kept text deleted) t ≡ drop (kept + deleted) (back edits t)
appended_back [] kept text deleted t = refl
appended_back (e ∷ []) zero text deleted t =
    let sum : e.kept + (e.deleted + deleted) ≡ e.kept + e.deleted + (0 + deleted) = omega arith in
    ap (λ n. drop n t) sum ∙ sym (drop-drop (0 + deleted) (e.kept + e.deleted) t)
appended_back (e ∷ []) (suc kept) text deleted t = refl
appended_back (e ∷ f ∷ edits) kept text deleted t =
    appended_back (f ∷ edits) kept text deleted (drop (e.kept + e.deleted) t)

appended_runs : (edits : List Edit) (kept : ℕ) (text : List ℕ) (deleted rest more : ℕ) (t : List ℕ)
    → run (ops_of (appended edits kept text deleted) rest) t
    ≡ replace_range (run (ops_of edits more) t) (length (front edits t) + kept)
    (length (front edits t) + (kept + deleted)) text
appended_runs edits kept text deleted rest more t =
    let h = front edits t in
    let a = back edits t in
    runs (appended edits kept text deleted) rest t
    ∙ ap (λ u. u ++ back (appended edits kept text deleted) t)
    (appended_front edits kept text deleted t ∙ sym (append_assoc h (take kept a) text))
    ∙ ap (λ u. ((h ++ take kept a) ++ text) ++ u) (appended_back edits kept text deleted t)
    ∙ ap (λ u. (u ++ text) ++ drop (kept + deleted) a) (sym (take-append-add h a kept))
    ∙ ap (λ u. (take (length h + kept) (h ++ a) ++ text) ++ u)
    (sym (drop-append-add h a (kept + deleted)))
    ∙ ap (λ u. replace_range u (length h + kept) (length h + (kept + deleted)) text)
    (sym (runs edits more t))

nothing : (u : List ℕ) (i j : ℕ) → i ≡ j → u ≡ replace_range u i j []
nothing u i j same =
    sym (ap (λ k. (take i u ++ []) ++ drop k u) (sym same)
    ∙ ap (λ v. v ++ drop i u) (append-nil (take i u)) ∙ take-append-drop i u)

module _ (c : Change) (start end : ℕ) (t : List ℕ) (order : IsInOrder c start end)
    (fits : before c ≡ length t) where
  some_replaced : (text : List ℕ)
      → run (ops_of (appended c.edits (start - last_end c) text (end - start)) (before c - end)) t
      ≡ replace_range (run (ops c) t) (after c - (before c - start)) (after c - (before c - end))
      text
  some_replaced text =
      let h = length (front c.edits t) in
      let kept = start - last_end c in
      let whole : h + c.rest ≡ after c =
      omega (
        arith,
        back_len c.edits c.rest t fits,
        length-append (front c.edits t) (back c.edits t),
        ap length (runs c.edits c.rest t),
        lengths (ops c) t fits,
      ) in
      let i : h + kept ≡ after c - (before c - start) =
      omega (arith, order, whole, rest_before c.edits c.rest) in
      let j : h + (kept + (end - start)) ≡ after c - (before c - end) =
      omega (arith, order, whole, rest_before c.edits c.rest) in
      appended_runs c.edits kept text (end - start) (before c - end) c.rest t
      ∙ ap (λ k. replace_range (run (ops c) t) k (h + (kept + (end - start))) text) i
      ∙ ap (λ k. replace_range (run (ops c) t) (after c - (before c - start)) k text) j

  by_size : (text : List ℕ) (size : ℕ) → size ≡ length text + (end - start)
      → run (ops (if_some size c
      (record {
        edits = appended c.edits (start - last_end c) text (end - start);
        rest = before c - end;
      }))) t
      ≡ replace_range (run (ops c) t) (after c - (before c - start)) (after c - (before c - end))
      text
  by_size text (suc size) is = some_replaced text
  by_size [] zero is =
      let same : start ≡ end = omega (arith, order) in
      nothing (run (ops c) t) _ _ (ap (λ n. after c - (before c - n)) same)
  by_size (x ∷ text) zero is = absurd (omega arith)

pub replaced_runs : (c : Change) (start end : ℕ) (text t : List ℕ) → IsInOrder c start end
    → before c ≡ length t
    → run (ops (replaced c start end text)) t
    ≡ replace_range (run (ops c) t) (after c - (before c - start)) (after c - (before c - end)) text
replaced_runs c start end text t order fits =
    by_size c start end t order fits text (length text + (end - start)) refl
