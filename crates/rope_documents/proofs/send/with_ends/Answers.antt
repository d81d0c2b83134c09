use Rattle.std.proofs.Common.{◌≡◌, ℕ, List, [], ◌∷◌, ◌++◌, cond, ap, sym, ◌∙◌, append-nil}
use Rattle.std.specs.String.{string_bytes}
use Rattle.rope_documents.proofs.Ended.{ended_chars}
use Rattle.rope_documents.proofs.send.with_ends.Goals.{then-has_cr+in_ok-push_str, else-has_cr, then-has_lf+in_ok-push_str-3, else-has_lf}
use Rattle.rope_documents.proofs.send.with_ends.Goals as goal

pub returns-clause-text : goal.returns-clause-text
returns-clause-text c =
    let cr : List ℕ = cond c.args.has_cr (13 ∷ []) [] in
    let lf : List ℕ = cond c.args.has_lf (10 ∷ []) [] in
    let front : string_bytes c.if-has_cr.whole ≡ cr = elim c.if-has_cr.branch [
      | then-has_cr+in_ok-push_str w ↦
          ap string_bytes w.whole-is ∙ w.in_ok-push_str.ensures.bytes
          ∙ ap (λ b. b ++ 13 ∷ []) c.in_ok-whole.ensures.bytes
          ∙ sym (ap (λ b. cond {A = List ℕ} b (13 ∷ []) []) w.if-has_cr.true)
      | else-has_cr w ↦
          ap string_bytes w.whole-is ∙ c.in_ok-whole.ensures.bytes
          ∙ sym (ap (λ b. cond {A = List ℕ} b (13 ∷ []) []) w.if-has_cr.false)
    ] in
    let back : string_bytes c.if-has_lf.whole ≡ string_bytes c.push_str-2.new.self ++ lf =
    elim c.if-has_lf.branch [
      | then-has_lf+in_ok-push_str-3 w ↦
          ap string_bytes w.whole-is ∙ w.in_ok-push_str-3.ensures.bytes
          ∙ ap (λ b. string_bytes c.push_str-2.new.self ++ b)
          (sym (ap (λ b. cond {A = List ℕ} b (10 ∷ []) []) w.if-has_lf.true))
      | else-has_lf w ↦
          ap string_bytes w.whole-is ∙ sym (append-nil (string_bytes c.push_str-2.new.self))
          ∙ ap (λ b. string_bytes c.push_str-2.new.self ++ b)
          (sym (ap (λ b. cond {A = List ℕ} b (10 ∷ []) []) w.if-has_lf.false))
    ] in
    let bytes : string_bytes c.if-has_lf.whole ≡ (cr ++ c.args.text.now) ++ lf =
    back ∙ ap (λ b. b ++ lf)
    (c.in_ok-push_str-2.ensures.bytes ∙ ap (λ b. b ++ c.args.text.now) front)
    in
    ended_chars c.args.has_cr c.args.has_lf c.args.text.now (string_bytes c.if-has_lf.whole)
    c.utf8.text bytes
