-- Nothing is replaced by nothing.
use Rattle.std.proofs.Common.{◌≡◌, ◌∙◌, ℕ, ◌+◌, ◌-◌, List, length, ap, arith}
use Rattle.std.specs.Prelude.{Result, Ok, Err, IsOk, OnOk}
use Rattle.std.proofs.lemmas.List.{nil_from_length}
use Rattle.std.specs.Str.{chars}
use Rattle.rope_changes.specs.Change.{Change, replaced, if_some, appended, last_end, before}
use Rattle.ropey_c.proofs.changes.replace.Goals as goal

on_ok : {A E P : Type 0} (result : Result A E) → IsOk result → OnOk result P → P
on_ok (Ok x) ok holds = holds
on_ok (Err e) ok holds = absurd (cc)

nothing_replaced : (c : Change) (start end : ℕ) (text : List ℕ) → length text ≡ 0 → start ≡ end →
    replaced c start end text ≡ c
nothing_replaced c start end text none same =
    let zero_changed : length text + (end - start) ≡ 0 = omega (arith, none, same) in
    ap (λ n. if_some n c (record {
      edits = appended c.edits (start - last_end c) text (end - start);
      rest = before c - end;
    })) zero_changed

pub returns-clause-empty : goal.returns-clause-empty
unfolding chars
returns-clause-empty c = λ none same order.
    let is_empty = c.in-Some.ensures.0 ∙ nil_from_length c.args.text.now none in
    let no_chars = ap (λ bytes. length (chars bytes)) is_empty in
    let done = c.replace.ensures.empty order same no_chars in (
      c.change_status.ensures.ok done,
      on_ok c.replace.result done c.replace.ensures.ok ∙
          nothing_replaced c.args.changes.now c.args.start c.args.end _ no_chars same,
    )
