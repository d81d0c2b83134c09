-- The change that leads back.
use Rattle.std.proofs.Common.{◌≡◌, ℕ, ◌+◌, ◌≤◌, List, [], ◌∷◌, ◌++◌, length, take, drop, ap, sym, ◌∙◌, arith}
use Rattle.std.proofs.Math.Seq.{take-append_seam, drop-append_seam, drop-append-add}
use Rattle.std.proofs.lemmas.List.{drop-drop, take-append-drop, length-take, length-drop}
use Rattle.rope_changes.specs.Ops.{run, len_before, len_after}
use Rattle.rope_changes.specs.Change.{Edit, ops_of, AreApart, AreNormal}
use Rattle.rope_changes.specs.Inverted.{inverted_edits}
use Rattle.rope_changes.proofs.Steps.{step_before, step_after}
use Rattle.rope_changes.proofs.Prefixes.{keeping_before, keeping_after}
use Rattle.rope_changes.proofs.Runs.{run_kept}
use Rattle.rope_changes.proofs.Spliced.{step_runs}

-- the part of the text that a replacement deletes is as long as it says
pub deleted_len : (kept deleted : ℕ) (t : List ℕ) → kept + deleted ≤ length t
    → length (take deleted (drop kept t)) ≡ deleted
deleted_len kept deleted t fits =
    omega (arith, length-take deleted (drop kept t), length-drop kept t)

pub inverted_before : (edits : List Edit) (rest : ℕ) (t : List ℕ)
    → len_before (ops_of (inverted_edits edits t) rest) ≡ len_after (ops_of edits rest)
inverted_before [] rest t = omega (arith, keeping_before rest [], keeping_after rest [])
inverted_before (e ∷ edits) rest t =
    let next = drop (e.kept + e.deleted) t in
    omega (
      arith,
      step_before e.kept (take e.deleted (drop e.kept t)) (length e.text)
          (ops_of (inverted_edits edits next) rest),
      step_after e.kept e.text e.deleted (ops_of edits rest),
      inverted_before edits rest next,
    )

pub inverted_after : (edits : List Edit) (rest : ℕ) (t : List ℕ)
    → len_before (ops_of edits rest) ≡ length t
    → len_after (ops_of (inverted_edits edits t) rest) ≡ len_before (ops_of edits rest)
inverted_after [] rest t fits = omega (arith, keeping_before rest [], keeping_after rest [])
inverted_after (e ∷ edits) rest t fits =
    let next = drop (e.kept + e.deleted) t in
    let whole = step_before e.kept e.text e.deleted (ops_of edits rest) in
    omega (
      arith,
      step_after e.kept (take e.deleted (drop e.kept t)) (length e.text)
          (ops_of (inverted_edits edits next) rest),
      whole,
      deleted_len e.kept e.deleted t (omega (arith, whole)),
      inverted_after edits rest next (omega (arith, whole, length-drop (e.kept + e.deleted) t)),
    )

inverted_apart : (edits : List Edit) (rest : ℕ) (t : List ℕ)
    → len_before (ops_of edits rest) ≡ length t → AreApart edits → AreApart (inverted_edits edits t)
inverted_apart [] rest t fits apart = tt
inverted_apart (e ∷ edits) rest t fits apart =
    let whole = step_before e.kept e.text e.deleted (ops_of edits rest) in (
      apart.0,
      omega (arith, apart.1, whole, deleted_len e.kept e.deleted t (omega (arith, whole))),
      inverted_apart edits rest (drop (e.kept + e.deleted) t)
          (omega (arith, whole, length-drop (e.kept + e.deleted) t)) apart.2,
    )

pub inverted_normal : (edits : List Edit) (rest : ℕ) (t : List ℕ)
    → len_before (ops_of edits rest) ≡ length t → AreNormal edits
    → AreNormal (inverted_edits edits t)
inverted_normal [] rest t fits normal = tt
inverted_normal (e ∷ edits) rest t fits normal =
    let whole = step_before e.kept e.text e.deleted (ops_of edits rest) in (
      omega (arith, normal.0, whole, deleted_len e.kept e.deleted t (omega (arith, whole))),
      inverted_apart edits rest (drop (e.kept + e.deleted) t)
          (omega (arith, whole, length-drop (e.kept + e.deleted) t)) normal.1,
    )

pub leads_back : (edits : List Edit) (rest : ℕ) (t : List ℕ)
    → len_before (ops_of edits rest) ≡ length t
    → run (ops_of (inverted_edits edits t) rest) (run (ops_of edits rest) t) ≡ t
leads_back [] rest t fits = run_kept rest (run (ops_of [] rest) t) ∙ run_kept rest t
leads_back (e ∷ edits) rest t fits =
    let whole = step_before e.kept e.text e.deleted (ops_of edits rest) in
    let next = drop (e.kept + e.deleted) t in
    let gone = take e.deleted (drop e.kept t) in
    let later = run (ops_of edits rest) next in
    let back = ops_of (inverted_edits edits next) rest in
    let front = take e.kept t in
    let made = front ++ (e.text ++ later) in
    let len : length front ≡ e.kept = omega (arith, whole, length-take e.kept t) in
    let head : take e.kept made ≡ front = ap (λ n. take n made) (sym len)
    ∙ take-append_seam front (e.text ++ later) in
    let tail : drop (e.kept + length e.text) made ≡ later =
    ap (λ n. drop n made) (ap (λ k. k + length e.text) (sym len))
    ∙ drop-append-add front (e.text ++ later) (length e.text) ∙ drop-append_seam e.text later in
    ap (run (ops_of (inverted_edits (e ∷ edits) t) rest))
    (step_runs e.kept e.text e.deleted (ops_of edits rest) t)
    ∙ step_runs e.kept gone (length e.text) back made
    ∙ ap (λ u. u ++ (gone ++ run back (drop (e.kept + length e.text) made))) head
    ∙ ap (λ u. front ++ (gone ++ run back u)) tail
    ∙ ap (λ u. front ++ (gone ++ u))
    (leads_back edits rest next (omega (arith, whole, length-drop (e.kept + e.deleted) t)))
    ∙ ap (λ u. front ++ (gone ++ u)) (sym (drop-drop e.deleted e.kept t))
    ∙ ap (λ u. front ++ u) (take-append-drop e.deleted (drop e.kept t))
    ∙ take-append-drop e.kept t
