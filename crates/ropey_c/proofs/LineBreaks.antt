-- The line break at the end of a text is a part of it.
use Rattle.std.proofs.Common.{◌≡◌, ℕ, ◌-◌, ◌≤◌, Bool, true, false, ◌&&◌, if◌then◌else◌, List, [], ◌∷◌, length, refl, arith}
use Rattle.std.specs.List.{slice_range}
use Rattle.std.proofs.lemmas.List.{length-take, length-drop}
use Rattle.rope_text.specs.declared.line_breaks.LineBreaks.{LineBreaks}
use Rattle.rope_text.specs.Breaks.{is_break_char}
use Rattle.rope_text.specs.LastBreak.{ends_in_break, ends_in_crlf, last_break_len}
use Rattle.rope_slice.proofs.LineEnds.{too_short}

at_most : (ends pair crlf : Bool) (n : ℕ) → (ends ≡ true → 1 ≤ n) → (crlf ≡ true → 2 ≤ n)
    → (if ends then (if pair && crlf then 2 else 1) else 0) ≤ n
at_most false pair crlf n one two = omega arith
at_most true false crlf n one two = one refl
at_most true true false n one two = one refl
at_most true true true n one two = two refl

pub break_within : (breaks : LineBreaks) (text : List ℕ) → last_break_len breaks text ≤ length text
break_within breaks [] = at_most (ends_in_break breaks []) (is_break_char breaks 13)
    (ends_in_crlf []) 0 (λ ends. absurd (cc)) (λ crlf. absurd (cc))
break_within breaks (c ∷ []) =
    at_most (ends_in_break breaks (c ∷ [])) (is_break_char breaks 13) (ends_in_crlf (c ∷ [])) 1
    (λ _. omega arith) (λ crlf. let none = too_short (c ∷ []) (omega arith) in absurd (cc))
break_within breaks (c ∷ d ∷ text) =
    at_most (ends_in_break breaks (c ∷ d ∷ text)) (is_break_char breaks 13)
    (ends_in_crlf (c ∷ d ∷ text)) (length (c ∷ d ∷ text)) (λ _. omega arith) (λ _. omega arith)

pub last_part : (breaks : LineBreaks) (text : List ℕ) → length
    (slice_range text (length text - last_break_len breaks text) (length text)) ≡ last_break_len
    breaks text
last_part breaks text = simp (length-take, length-drop) (omega (arith, break_within breaks text))
