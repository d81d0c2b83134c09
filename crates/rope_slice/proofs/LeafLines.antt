-- The counts of a line, and those up to its end.
use Rattle.std.proofs.Common.{◌≡◌, ℕ, ◌+◌, ◌-◌, ◌<◌, List, take, drop, sym, ap, ◌∙◌, arith}
use Rattle.std.specs.List.{slice_range}
use Rattle.rope_text.specs.declared.line_breaks.LineBreaks.{LineBreaks}
use Rattle.rope_text.specs.declared.text_info.TextInfo.{TextInfo}
use Rattle.rope_text.specs.TextInfo.{info_of, info_sum}
use Rattle.rope_text.specs.Breaks.{break_count}
use Rattle.rope_text.specs.Lines.{line_start, line_count}
use Rattle.rope_text.specs.LineParts.{first_line}
use Rattle.rope_text.proofs.InfoLaws.{info_of-append_apart}
use Rattle.rope_text.proofs.LineLaws.{line_start_mono}
use Rattle.rope_text.proofs.LineSeams.{parts_crlf-take, line_start_apart, first_line-drop, first_line-left}
use Rattle.rope_text.proofs.InfoLaws.{break_count-le-length}
use Rattle.rope_text.proofs.LinesJoin.{take-slice_range}
use Rattle.rope_leaf.specs.Tree.{Tree, text}
use Rattle.rope_slice.specs.Edge.{IsLeafFrom}

-- the counts up to the next line's start
pub next_counts : (breaks : LineBreaks) (text : List ℕ) (l : ℕ) → l < line_count breaks text
    → info_of breaks (take (line_start breaks text (l + 1)) text)
    ≡ info_sum (info_of breaks (take (line_start breaks text l) text))
    (info_of breaks (slice_range text (line_start breaks text l) (line_start breaks text (l + 1))))
next_counts breaks text l within =
    let s : ℕ = line_start breaks text l in
    let e : ℕ = line_start breaks text (l + 1) in
    ap (info_of breaks) (sym
    (take-slice_range text s e (line_start_mono breaks text l (l + 1) (omega arith))))
    ∙ info_of-append_apart breaks (take s text) (slice_range text s e)
    (parts_crlf-take (take s text) (drop s text) (e - s) (line_start_apart breaks text l))

-- a line that ends in the rest of its leaf is the first line there
pub line_in_leaf : (t : Tree) (l : ℕ) (rest : List ℕ) (before line : TextInfo) (breaks : LineBreaks)
    → breaks ≡ t.breaks → l < line_count t.breaks (text t)
    → IsLeafFrom t (line_start t.breaks (text t) l) rest → 0 < break_count breaks rest
    → before ≡ info_of t.breaks (take (line_start t.breaks (text t) l) (text t))
    → line ≡ info_of breaks (first_line breaks rest)
    → info_sum before line ≡ info_of t.breaks (take (line_start t.breaks (text t) (l + 1)) (text t))
line_in_leaf t l rest before line own same within from more b n =
    let breaks = t.breaks in
    let some : 0 < break_count breaks rest = omega (arith, ap (λ b. break_count b rest) same) in
    let whole : first_line breaks rest ≡ slice_range (text t) (line_start breaks (text t) l)
    (line_start breaks (text t) (l + 1)) =
    sym (first_line-left breaks rest from.more
    (from.apart (omega (arith, break_count-le-length breaks rest))) some)
    ∙ ap (first_line breaks) (sym from.text_is) ∙ first_line-drop breaks (text t) l within in
    ap (λ x. info_sum x line) b
    ∙ ap (info_sum (info_of breaks (take (line_start breaks (text t) l) (text t)))) (n
    ∙ ap (λ b. info_of b (first_line b rest)) same ∙ ap (info_of breaks) whole)
    ∙ sym (next_counts breaks (text t) l within)
