use Rattle.std.proofs.Common.{◌≡◌, ℕ, Bool, cond, arith, sym, ◌∙◌, ap}
use Rattle.rope_text.specs.Marks.{mark_at}
use Rattle.rope_text.proofs.Blocks.{marks-drop}
use Rattle.rope_text.proofs.lanes.marks_byte_by_byte.Goals.{then-is_mark, else-is_mark}
use Rattle.rope_text.proofs.lanes.marks_byte_by_byte.Goals as goal

pub loop-i-preserved : goal.loop-i-preserved
loop-i-preserved c =
    let m = c.args.mark in
    let s = c.args.bytes.now in
    let i = c.loop-i.i in
    let step = marks-drop m s i (omega arith) in
    let test : c.is_mark.result ≡ mark_at m s i = c.is_mark.ensures in
    elim c.if-is_mark.branch [
      | then-is_mark w ↦ let yes : cond {A = ℕ} (mark_at m s i) 1 0 ≡ 1 =
          ap (λ (t : Bool). cond {A = ℕ} t 1 0) (sym test ∙ w.if-is_mark.true) in
          (omega arith, omega arith)
      | else-is_mark w ↦ let no : cond {A = ℕ} (mark_at m s i) 1 0 ≡ 0 =
          ap (λ (t : Bool). cond {A = ℕ} t 1 0) (sym test ∙ w.if-is_mark.false) in
          (omega arith, omega arith)
    ]
