-- Lines where a text is split at a line's start, or is joined of two.
use Rattle.std.proofs.Common.{◌≡◌, ℕ, zero, suc, ◌+◌, ◌-◌, ◌<◌, ◌≤◌, min, Bool, true, false, not, ◌&&◌, cond, eqb, List, [], ◌∷◌, ◌++◌, length, take, drop, get_or, refl, sym, ap, ◌∙◌, arith, add-one, inl, inr}
use Rattle.std.specs.List.{slice_range}
use Rattle.std.proofs.lemmas.Bool.{cases_lt, cases_Bool}
use Rattle.std.proofs.lemmas.List.{take_more, drop_all, take_all, take-append-le}
use Rattle.std.proofs.Math.Seq.{take-append-add}
use Rattle.rope_text.specs.declared.line_breaks.LineBreaks.{LineBreaks}
use Rattle.rope_text.specs.Breaks.{is_break_char, begins_with_lf, ends_in_cr, is_break_end, break_count}
use Rattle.rope_text.specs.Lines.{line_start, line_count}
use Rattle.rope_text.specs.Conversions.{char_to_line}
use Rattle.rope_text.specs.Cutting.{parts_crlf}
use Rattle.rope_text.specs.LineParts.{first_line, last_start}
use Rattle.rope_text.proofs.LineLaws.{line_start-le-length, line_start_first, line_start_mono, char_to_line_late}
use Rattle.rope_text.proofs.LinesJoin.{line_start_end}
use Rattle.rope_text.proofs.ConversionLaws.{char_to_line_more, char_to_line_end, char_to_line-line_start}
use Rattle.rope_text.proofs.CuttingLaws.{ends_in_cr-append}
use Rattle.rope_text.proofs.BreakLaws.{break_count-append, joins_break}
use Rattle.rope_text.proofs.SliceLaws.{char_to_line_early, line_start-drop, line_start-take, break_count-take}
use Rattle.rope_text.proofs.JoinLaws.{line_start-append_left, line_start-append_right}

pub never : (x : Bool) → (x && false) ≡ false
never true = refl
never false = refl

-- a text that is cut short begins as it did
pub parts_crlf-take : (s t : List ℕ) (n : ℕ) → parts_crlf s t ≡ false
    → parts_crlf s (take n t) ≡ false
parts_crlf-take s t zero apart = never (ends_in_cr s)
parts_crlf-take s [] (suc n) apart = never (ends_in_cr s)
parts_crlf-take s (c ∷ t) (suc n) apart = apart

-- no CR meets LF where a break ends
not_crlf : (x y z : Bool) → (x && not (y && z)) ≡ true → (y && z) ≡ false
not_crlf true true true e = sym e
not_crlf true true false e = refl
not_crlf true false z e = refl
not_crlf false true true e = sym e
not_crlf false true false e = refl
not_crlf false false z e = refl

break_end_apart : (breaks : LineBreaks) (text : List ℕ) (k : ℕ) → suc k ≤ length text
    → is_break_end breaks text (suc k) ≡ true
    → parts_crlf (take (suc k) text) (drop (suc k) text) ≡ false
break_end_apart breaks text k within ends =
    let last : take (suc k) text ≡ take k text ++ get_or text k 0 ∷ [] =
    ap (λ n. take n text) (sym (add-one k)) ∙ take_more text k 0 (omega arith) in
    let cr : ends_in_cr (take (suc k) text) ≡ eqb (get_or text k 0) 13 = ap ends_in_cr last
    ∙ ends_in_cr-append (take k text) (get_or text k 0) [] in
    ap (λ b. b && begins_with_lf (drop (suc k) text)) cr
    ∙ not_crlf (is_break_char breaks (get_or text k 0)) (eqb (get_or text k 0) 13)
    (begins_with_lf (drop (suc k) text)) ends

-- no CR LF is split where a line starts
pub line_start_apart : (breaks : LineBreaks) (text : List ℕ) (l : ℕ)
    → parts_crlf (take (line_start breaks text l) text) (drop (line_start breaks text l) text)
    ≡ false
line_start_apart breaks text l = go (line_start breaks text l) refl
  where
    go : (p : ℕ) → line_start breaks text l ≡ p → parts_crlf (take p text) (drop p text) ≡ false
    go zero e = refl
    go (suc k) e = elim (cases_lt (suc k) (length text)) [
      | inr past ↦ ap (parts_crlf (take (suc k) text)) (drop_all (suc k) text past)
          ∙ never (ends_in_cr (take (suc k) text))
      | inl less ↦
          let early = char_to_line_early breaks text l k (omega arith) in
          let late = rw e at (char_to_line_late breaks text l (omega arith)) in
          let more = char_to_line_more breaks text k (omega arith) in
          break_end_apart breaks text k (omega arith)
          (elim (cases_Bool (is_break_end breaks text (suc k))) [
            | inl on ↦ on
            | inr off ↦ absurd (let none = rw off at more in omega arith)
          ])
    ]

-- the breaks before a line's start
pub break_count-front : (breaks : LineBreaks) (text : List ℕ) (l : ℕ) → l ≤ line_count breaks text
    → break_count breaks (take (line_start breaks text l) text) ≡ min l (break_count breaks text)
break_count-front breaks text l within =
    let s : ℕ = line_start breaks text l in
    let none : cond {A = ℕ} (joins_break breaks (take s text) (drop s text)) 1 0 ≡ 0 =
    ap (λ (x : Bool). cond {A = ℕ} (x && is_break_char breaks 13) 1 0)
    (line_start_apart breaks text l) in
    let front = break_count-take breaks text s (line_start-le-length breaks text l) in
    elim (cases_lt l (line_count breaks text)) [
      | inl less ↦ omega (arith, char_to_line-line_start breaks text l less)
      | inr past ↦
          let all : l ≡ line_count breaks text = omega arith in
          let end : s ≡ length text = ap (line_start breaks text) all
          ∙ line_start_end breaks text in
          omega (arith, ap (char_to_line breaks text) end, char_to_line_end breaks text)
    ]

-- a line is the first line of the text from its start on
pub first_line-drop : (breaks : LineBreaks) (text : List ℕ) (l : ℕ) → l < line_count breaks text
    → first_line breaks (drop (line_start breaks text l) text)
    ≡ slice_range text (line_start breaks text l) (line_start breaks text (l + 1))
first_line-drop breaks text l within =
    let s : ℕ = line_start breaks text l in
    let next = line_start-drop breaks text s 1 (line_start-le-length breaks text l) (omega arith) in
    let same : line_start breaks text (char_to_line breaks text s + 1)
    ≡ line_start breaks text (l + 1) =
    ap (λ k. line_start breaks text (k + 1)) (char_to_line-line_start breaks text l within) in
    let long : line_start breaks (drop s text) 1 ≡ line_start breaks text (l + 1) - s =
    omega arith in
    ap (λ n. take n (drop s text)) long

-- the line before a line's start
pub last_start-take : (breaks : LineBreaks) (text : List ℕ) (l k : ℕ) → 0 < l
    → l ≤ line_count breaks text → k + l ≡ min l (break_count breaks text) + 1
    → last_start breaks (take (line_start breaks text l) text) k ≡ line_start breaks text (l - 1)
last_start-take breaks text l k some within skip =
    let s : ℕ = line_start breaks text l in
    let index : break_count breaks (take s text) - k ≡ l - 1 =
    omega (arith, break_count-front breaks text l within) in
    ap (line_start breaks (take s text)) index
    ∙ line_start-take breaks text s (l - 1) (line_start-le-length breaks text l)
    ∙ (let before = line_start_mono breaks text (l - 1) l (omega arith) in omega arith)

-- the first line of two texts joined: it ends in the first, or it has all of that
pub first_line-left : (breaks : LineBreaks) (s t : List ℕ) → parts_crlf s t ≡ false
    → 0 < break_count breaks s → first_line breaks (s ++ t) ≡ first_line breaks s
first_line-left breaks s t apart some =
    ap (λ n. take n (s ++ t)) (line_start-append_left breaks s t 1 apart (omega arith))
    ∙ take-append-le (line_start breaks s 1) s t (line_start-le-length breaks s 1)

pub first_line-right : (breaks : LineBreaks) (s t : List ℕ) → parts_crlf s t ≡ false
    → break_count breaks s ≡ 0 → first_line breaks (s ++ t) ≡ s ++ first_line breaks t
first_line-right breaks s t apart none =
    let index : 1 - break_count breaks s ≡ 1 = omega arith in
    ap (λ n. take n (s ++ t)) (line_start-append_right breaks s t 1 apart (omega arith)
    ∙ ap (λ k. length s + line_start breaks t k) index)
    ∙ take-append-add s t (line_start breaks t 1)

-- a first line without a break is all of the text
pub no_break_at_all : (breaks : LineBreaks) (text : List ℕ)
    → break_count breaks (first_line breaks text) ≡ 0 → break_count breaks text ≡ 0
no_break_at_all breaks text none = elim (cases_lt 0 (break_count breaks text)) [
  | inr few ↦ omega arith
  | inl some ↦
      let front = break_count-front breaks text 1 (omega arith) in
      absurd (omega arith)
]

pub first_line-all : (breaks : LineBreaks) (text : List ℕ) → break_count breaks text ≡ 0
    → first_line breaks text ≡ text
first_line-all breaks text none =
    let end : line_start breaks text 1 ≡ length text =
    ap (line_start breaks text) (let e : 1 ≡ line_count breaks text = omega arith in e)
    ∙ line_start_end breaks text in
    ap (λ n. take n text) end ∙ take_all (length text) text (omega arith)

-- the breaks of two texts joined
pub break_count-apart : (breaks : LineBreaks) (s t : List ℕ) → parts_crlf s t ≡ false
    → break_count breaks (s ++ t) ≡ break_count breaks s + break_count breaks t
break_count-apart breaks s t apart =
    let none : cond {A = ℕ} (joins_break breaks s t) 1 0 ≡ 0 =
    ap (λ (x : Bool). cond {A = ℕ} (x && is_break_char breaks 13) 1 0) apart in
    omega (arith, break_count-append breaks s t)

-- where the last lines of two texts joined start
pub last_start-right : (breaks : LineBreaks) (s t : List ℕ) (k : ℕ) → parts_crlf s t ≡ false
    → k < break_count breaks t → last_start breaks (s ++ t) k ≡ length s + last_start breaks t k
last_start-right breaks s t k apart less =
    let count = break_count-apart breaks s t apart in
    let index : (break_count breaks (s ++ t) - k) - break_count breaks s
    ≡ break_count breaks t - k = omega arith in
    line_start-append_right breaks s t (break_count breaks (s ++ t) - k) apart (omega arith)
    ∙ ap (λ n. length s + line_start breaks t n) index

pub last_start-left : (breaks : LineBreaks) (s t : List ℕ) (k : ℕ) → parts_crlf s t ≡ false
    → break_count breaks t ≤ k → last_start breaks (s ++ t) k
    ≡ last_start breaks s (k - break_count breaks t)
last_start-left breaks s t k apart past =
    let count = break_count-apart breaks s t apart in
    let index : break_count breaks (s ++ t) - k
    ≡ break_count breaks s - (k - break_count breaks t) = omega arith in
    line_start-append_left breaks s t (break_count breaks (s ++ t) - k) apart (omega arith)
    ∙ ap (line_start breaks s) index

-- with no more breaks than are left out, the last line starts the text
pub last_start_none : (breaks : LineBreaks) (text : List ℕ) (k : ℕ) → break_count breaks text ≤ k
    → last_start breaks text k ≡ 0
last_start_none breaks text k few =
    ap (line_start breaks text) (let e : break_count breaks text - k ≡ 0 = omega arith in e)
    ∙ line_start_first breaks text
