-- The lines of a content, one by one.
use Rattle.std.proofs.Common.{◌≡◌, ℕ, ◌+◌, ◌<◌, [], ◌∷◌, ◌++◌, length, take, drop, get_or, ap, ◌∙◌, arith}
use Rattle.std.proofs.lemmas.List.{take_more, drop_more}
use Rattle.std.proofs.lemmas.List.FromFn.{get_or-map-range_with_len, length-map-range_with_len}
use Rattle.rope_text.specs.Lines.{line_count}
use Rattle.rope_text.specs.Content.{Content}
use Rattle.rope_text.specs.LineParts.{line_of, lines_of}

pub length-lines_of : (c : Content) → length (lines_of c) ≡ line_count c.breaks c.text
unfolding lines_of
length-lines_of c = length-map-range_with_len (line_of c) 0 (line_count c.breaks c.text)

get_or-lines_of : (c : Content) (l : ℕ) (d : Content) → l < line_count c.breaks c.text
    → get_or (lines_of c) l d ≡ line_of c l
unfolding lines_of
get_or-lines_of c l d within =
    get_or-map-range_with_len (line_of c) 0 (line_count c.breaks c.text) l l d within (omega arith)

-- the lines up to one, and those from it on
pub take-lines_of : (c : Content) (l : ℕ) → l < line_count c.breaks c.text
    → take (l + 1) (lines_of c) ≡ take l (lines_of c) ++ line_of c l ∷ []
take-lines_of c l within =
    take_more (lines_of c) l c (rw (length-lines_of c) within)
    ∙ ap (λ x. take l (lines_of c) ++ x ∷ []) (get_or-lines_of c l c within)

pub drop-lines_of : (c : Content) (l : ℕ) → l < line_count c.breaks c.text
    → drop l (lines_of c) ≡ line_of c l ∷ drop (l + 1) (lines_of c)
drop-lines_of c l within =
    drop_more (lines_of c) l c (rw (length-lines_of c) within)
    ∙ ap (λ x. x ∷ drop (l + 1) (lines_of c)) (get_or-lines_of c l c within)
