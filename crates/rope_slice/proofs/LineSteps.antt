-- Steps of a cursor over lines.
use Rattle.std.proofs.Common.{◌≡◌, ℕ, ◌+◌, ◌-◌, ◌<◌, ◌≤◌, Bool, true, false, if◌then◌else◌, [], ◌∷◌, ◌++◌, length, take, drop, sym, ◌∙◌, ap, arith, length-take, length-drop}
use Rattle.std.proofs.lemmas.List.{drop_all, length-reverse}
use Rattle.std.specs.Bool.{MatchBool}
use Rattle.rope_text.specs.declared.text_info.TextInfo.{TextInfo}
use Rattle.rope_text.specs.Lines.{line_count}
use Rattle.rope_text.specs.Content.{Content}
use Rattle.rope_text.specs.LineParts.{line_of, lines_of}
use Rattle.rope_text.specs.Sides.{ahead}
use Rattle.rope_text.proofs.LinePartLaws.{length-lines_of, take-lines_of, drop-lines_of}
use Rattle.rope_slice.specs.Lines.{at_line, IsLineStart}
use Rattle.rope_slice.specs.Caret.{Halves}

-- the line that a cursor passes
pub right_of_line : (c : Content) (l : ℕ) (back : Bool) → l < line_count c.breaks c.text
    → ((at_line c l back).right ≡ line_of c l ∷ (at_line c (l + 1) back).right)
    × ((at_line c (l + 1) back).left ≡ (at_line c l back).left ++ line_of c l ∷ [])
right_of_line c l back within = (drop-lines_of c l within, take-lines_of c l within)

pub left_of_line : (c : Content) (l : ℕ) (back : Bool) → 0 < l → l ≤ line_count c.breaks c.text
    → ((at_line c l back).left ≡ (at_line c (l - 1) back).left ++ line_of c (l - 1) ∷ [])
    × ((at_line c (l - 1) back).right ≡ line_of c (l - 1) ∷ (at_line c l back).right)
left_of_line c l back some within =
    let step = right_of_line c (l - 1) back (omega (arith, some, within)) in
    let e : (l - 1) + 1 ≡ l = omega (arith, some) in (
      ap (λ k. take k (lines_of c)) (sym e) ∙ step.1,
      step.0
          ∙ ap (λ k. line_of c (l - 1) ∷ drop k (lines_of c)) e,
    )

pub no_line : (is_left : Bool) (c : Content) (h : Halves) (before : TextInfo) (l total : ℕ)
    (back : Bool) → IsLineStart c h before l total → l ≡ (if is_left then 0 else total)
    → MatchBool is_left ((at_line c l back).left ≡ []) ((at_line c l back).right ≡ [])
no_line true c h before l total back s e = ap (λ k. take k (lines_of c)) e
no_line false c h before l total back s e =
    drop_all l (lines_of c) (omega (arith, length-lines_of c, s.total_is, e))

-- the number of lines ahead
pub ahead_forward : (c : Content) (h : Halves) (before : TextInfo) (l total : ℕ)
    → IsLineStart c h before l total → length (ahead (at_line c l false)) ≡ total - l
ahead_forward c h before l total s =
    omega (arith, length-drop l (lines_of c), length-lines_of c, s.total_is)

pub ahead_backward : (c : Content) (h : Halves) (before : TextInfo) (l total : ℕ)
    → IsLineStart c h before l total → length (ahead (at_line c l true)) ≡ l
ahead_backward c h before l total s = length-reverse (take l (lines_of c))
    ∙ omega (arith, length-take l (lines_of c), length-lines_of c, s.total_is, s.within)
