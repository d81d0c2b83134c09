-- The position and the counts of a cursor over lines, from line to line.
use Rattle.std.proofs.Common.{◌≡◌, ℕ, ◌+◌, ◌-◌, ◌<◌, ◌≤◌, false, List, ◌++◌, length, take, drop, sym, ap, ◌∙◌, arith, inl, inr}
use Rattle.std.specs.List.{slice_range}
use Rattle.std.proofs.lemmas.List.{take-append-drop, take-take, drop-drop}
use Rattle.std.proofs.Math.Seq.{drop-append_seam}
use Rattle.rope_text.specs.declared.line_breaks.LineBreaks.{LineBreaks}
use Rattle.rope_text.specs.declared.text_info.TextInfo.{TextInfo}
use Rattle.rope_text.specs.Content.{Content}
use Rattle.rope_text.specs.TextInfo.{info_of, info_sum, HasSum}
use Rattle.rope_text.specs.Lines.{line_start, line_count}
use Rattle.rope_text.specs.Cutting.{parts_crlf}
use Rattle.rope_text.specs.LineParts.{first_line, last_start, part_between, line_of}
use Rattle.rope_text.proofs.LineLaws.{line_start-le-length, line_start_mono}
use Rattle.rope_text.proofs.LineSeams.{line_start_apart, break_count-front, first_line-drop, last_start-take}
use Rattle.rope_slice.proofs.LeafLines.{next_counts}
use Rattle.rope_text.proofs.InfoLaws.{same_info}
use Rattle.rope_text.proofs.LinesJoin.{take-slice_range}
use Rattle.rope_slice.proofs.Excerpts.{part_of_front, length_part}
use Rattle.std.proofs.lemmas.Bool.{cases_lt}
use Rattle.rope_slice.specs.InChunk.{IsInChunk}
use Rattle.rope_slice.proofs.InChunks.{in_chunk_end}
use Rattle.rope_slice.specs.Caret.{Halves, HoldsAhead}
use Rattle.rope_slice.specs.Lines.{IsLineStart}
use Rattle.rope_leaf.proofs.Infos.{sum_of_small}
use Rattle.rope_slice.proofs.Carets.{small_of, size_front}
use Rattle.rope_slice.proofs.PartsBetween.{line_from, line_to, line_ordered, line_within, line_apart, line_is}

-- a step forward
module _ (c : Content) (h : Halves) (before : TextInfo) (l total : ℕ) (breaks : LineBreaks)
    (s : IsLineStart c h before l total) (less : l < total) (same : breaks ≡ c.breaks) where
  abbrev pub passed_on : TextInfo
  passed_on = info_of breaks (first_line breaks h.back)

  pub inside : l < line_count c.breaks c.text
  inside = omega (arith, s.total_is)

  passed_is : first_line breaks h.back ≡ slice_range c.text (line_start c.breaks c.text l)
      (line_start c.breaks c.text (l + 1))
  passed_is = ap (λ b. first_line b h.back) same ∙ ap (first_line c.breaks) s.back_is
      ∙ first_line-drop c.breaks c.text l inside

  counts_are : passed_on ≡ info_of c.breaks
      (slice_range c.text (line_start c.breaks c.text l) (line_start c.breaks c.text (l + 1)))
  counts_are = ap (λ b. info_of b (first_line breaks h.back)) same ∙ ap (info_of c.breaks) passed_is

  pub after_is : (after : TextInfo) → after ≡ info_sum before passed_on
      → after ≡ info_of c.breaks (take (line_start c.breaks c.text (l + 1)) c.text)
  after_is after sum =
      sum ∙ ap (λ x. info_sum x passed_on) s.before_is
      ∙ ap (λ x. info_sum (info_of c.breaks (take (line_start c.breaks c.text l) c.text)) x)
      counts_are
      ∙ sym (next_counts c.breaks c.text l inside)

  pub next_start : (new : Halves) → new.front ≡ h.front ++ first_line breaks h.back
      → h.back ≡ first_line breaks h.back ++ new.back → new.chunks ≡ h.chunks
      → (after : TextInfo) → after ≡ info_sum before passed_on
      → IsLineStart c new after (l + 1) total
  next_start new front back chunks after sum =
      let a : ℕ = line_start c.breaks c.text l in
      let b : ℕ = line_start c.breaks c.text (l + 1) in
      let order = line_start_mono c.breaks c.text l (l + 1) (omega arith) in
      let long : length (first_line breaks h.back) ≡ b - a = ap length passed_is
      ∙ length_part c.text a b (line_start-le-length c.breaks c.text (l + 1)) in
      let rest : a + (b - a) ≡ b = omega arith in
      record {
        within = omega arith;
        total_is = s.total_is;
        front_is = front ∙ ap (λ t. t ++ first_line breaks h.back) s.front_is
            ∙ ap (λ t. take a c.text ++ t) passed_is ∙ take-slice_range c.text a b order;
        back_is = sym (drop-append_seam (first_line breaks h.back) new.back)
            ∙ ap (drop (length (first_line breaks h.back))) (sym back)
            ∙ ap (λ n. drop n h.back) long
            ∙ ap (drop (b - a)) s.back_is ∙ drop-drop (b - a) a c.text
            ∙ ap (λ n. drop n c.text) rest;
        chunks_are = λ some. chunks ∙ s.chunks_are some;
        before_is = after_is after sum;
        fits = s.fits;
      }

  pub next_sum : HasSum before passed_on
  next_sum =
      let sum = next_counts c.breaks c.text l inside in
      let size = ap (λ x. x.bytes) sum in
      let most = size_front (line_start c.breaks c.text (l + 1)) c.text in
      sum_of_small before passed_on
      (small_of c.breaks (take (line_start c.breaks c.text l) c.text) before s.before_is
      (omega (arith, s.fits)))
      (small_of c.breaks (slice_range c.text (line_start c.breaks c.text l)
      (line_start c.breaks c.text (l + 1))) passed_on counts_are (omega (arith, s.fits)))

-- a line starts in no CR LF
pub start_apart : (c : Content) (h : Halves) (before : TextInfo) (l total : ℕ)
    → IsLineStart c h before l total → parts_crlf h.front h.back ≡ false
start_apart c h before l total s = ap (λ t. parts_crlf t h.back) s.front_is
    ∙ ap (parts_crlf (take (line_start c.breaks c.text l) c.text)) s.back_is
    ∙ line_start_apart c.breaks c.text l

-- the number of breaks to pass backward
pub breaks_enough : (c : Content) (h : Halves) (before : TextInfo) (l total : ℕ)
    → IsLineStart c h before l total → l - 1 ≤ before.break_count
breaks_enough c h before l total s =
    omega (
      arith,
      s.within,
      s.total_is,
      ap (λ x. x.break_count) s.before_is,
      break_count-front c.breaks c.text l (omega (arith, s.within, s.total_is)),
    )

-- a step backward
module _ (c : Content) (h : Halves) (before : TextInfo) (l total skip : ℕ) (breaks : LineBreaks)
    (s : IsLineStart c h before l total) (some : 0 < l) (same : breaks ≡ c.breaks)
    (skip_is : skip ≡ before.break_count - (l - 1)) where
  abbrev pub passed_over : TextInfo
  passed_over = info_of breaks (drop (last_start breaks h.front skip) h.front)

  pub inside_back : l - 1 < line_count c.breaks c.text
  inside_back = omega (arith, s.total_is, s.within)

  up : (l - 1) + 1 ≡ l
  up = omega (arith, some)

  order : line_start c.breaks c.text (l - 1) ≤ line_start c.breaks c.text l
  order = line_start_mono c.breaks c.text (l - 1) l (omega arith)

  last_is : last_start breaks h.front skip ≡ line_start c.breaks c.text (l - 1)
  last_is =
      let known : l ≤ line_count c.breaks c.text = omega (arith, s.total_is, s.within) in
      let count = ap (λ x. x.break_count) s.before_is ∙ break_count-front c.breaks c.text l known in
      ap (λ b. last_start b h.front skip) same ∙ ap (λ t. last_start c.breaks t skip) s.front_is
      ∙ last_start-take c.breaks c.text l skip some known (omega arith)

  line_back : drop (last_start breaks h.front skip) h.front
      ≡ slice_range c.text (line_start c.breaks c.text (l - 1)) (line_start c.breaks c.text l)
  line_back =
      ap (λ n. drop n h.front) last_is ∙ ap (drop (line_start c.breaks c.text (l - 1))) s.front_is
      ∙ sym (part_of_front c.text (line_start c.breaks c.text (l - 1))
      (line_start c.breaks c.text l) order)

  counts_back : passed_over ≡ info_of c.breaks
      (slice_range c.text (line_start c.breaks c.text (l - 1)) (line_start c.breaks c.text l))
  counts_back = ap (λ b. info_of b (drop (last_start breaks h.front skip) h.front)) same
      ∙ ap (info_of c.breaks) line_back

  pub before_sum : before ≡ info_sum
      (info_of c.breaks (take (line_start c.breaks c.text (l - 1)) c.text)) passed_over
  before_sum =
      let first : TextInfo = info_of c.breaks (take (line_start c.breaks c.text (l - 1)) c.text) in
      s.before_is ∙ ap (λ k. info_of c.breaks (take (line_start c.breaks c.text k) c.text)) (sym up)
      ∙ next_counts c.breaks c.text (l - 1) inside_back
      ∙ ap (λ k. info_sum first
      (info_of c.breaks (slice_range c.text (line_start c.breaks c.text (l - 1))
      (line_start c.breaks c.text k)))) up ∙ ap (info_sum first) (sym counts_back)

  pub before_up : before ≡ info_of c.breaks (take (line_start c.breaks c.text ((l - 1) + 1)) c.text)
  before_up =
      s.before_is ∙ ap (λ k. info_of c.breaks (take (line_start c.breaks c.text k) c.text)) (sym up)

  pub start_is : (start : TextInfo) → info_sum passed_over start ≡ before
      → start ≡ info_of c.breaks (take (line_start c.breaks c.text (l - 1)) c.text)
  start_is start sum =
      let first : TextInfo = info_of c.breaks (take (line_start c.breaks c.text (l - 1)) c.text) in
      let both = sum ∙ before_sum in
      same_info start first (omega (arith, ap (λ x. x.bytes) both))
      (omega (arith, ap (λ x. x.chars) both)) (omega (arith, ap (λ x. x.utf16_surrogates) both))
      (omega (arith, ap (λ x. x.break_count) both))

  pub prev_start : (new : Halves) → new.front ≡ take (last_start breaks h.front skip) h.front
      → new.back ≡ drop (last_start breaks h.front skip) h.front ++ h.back → new.chunks ≡ h.chunks
      → (start : TextInfo) → info_sum passed_over start ≡ before
      → IsLineStart c new start (l - 1) total
  prev_start new front back chunks start sum =
      let a : ℕ = line_start c.breaks c.text (l - 1) in
      let b : ℕ = line_start c.breaks c.text l in
      let rest : a + (b - a) ≡ b = (let o = order in omega arith) in
      record {
        within = omega (arith, s.within);
        total_is = s.total_is;
        front_is = front ∙ ap (λ n. take n h.front) last_is ∙ ap (take a) s.front_is
            ∙ take-take a b c.text order;
        back_is = back ∙ ap (λ t. t ++ h.back) line_back
            ∙ ap (λ t. slice_range c.text a b ++ t) (s.back_is ∙ ap (λ n. drop n c.text) (sym rest)
            ∙ sym (drop-drop (b - a) a c.text))
            ∙ take-append-drop (b - a) (drop a c.text);
        chunks_are = λ some. chunks ∙ s.chunks_are some;
        before_is = start_is start sum;
        fits = s.fits;
      }

-- the rest of a chunk from a line's start on is inside a chunk of the slice
pub line_held : (c : Content) (h : Halves) (before : TextInfo) (l total : ℕ) (held : List ℕ)
    → IsLineStart c h before l total → HoldsAhead h held
    → IsInChunk c.text c.chunks before.chars held
line_held c h before l total held s it =
    let n : ℕ = line_start c.breaks c.text l in
    let whole : h.front ++ h.back ≡ c.text = ap (λ t. t ++ h.back) s.front_is
    ∙ ap (λ t. take n c.text ++ t) s.back_is ∙ take-append-drop n c.text in
    let place : length h.front ≡ before.chars = ap length s.front_is
    ∙ sym (ap (λ x. x.chars) s.before_is) in
    let here = rw (whole, place) at it in
    elim (cases_lt 0 (length c.text)) [
      | inl some ↦ rw (s.chunks_are some) at here
      | inr none ↦ in_chunk_end c.text c.chunks before.chars held (omega arith)
    ]

-- the number of lines is the line count, by either name
pub at_count : (c : Content) (h : Halves) (before : TextInfo) (l m total : ℕ) → l ≡ m
    → IsLineStart c h before l total → IsLineStart c h before m (line_count c.breaks c.text)
at_count c h before l m total e s = rw (e, s.total_is) at s

pub of_count : (c : Content) (h : Halves) (before : TextInfo) (l total : ℕ)
    → total ≡ line_count c.breaks c.text
    → IsLineStart c h before l (line_count c.breaks c.text) → IsLineStart c h before l total
of_count c h before l total e s = rw (← e) at s

-- from the start of a line, with the counts `from` before it, to that of the next line
pub record IsLinePart (c : Content) (from to : TextInfo) (l : ℕ) : Type 0 where
  pub from_is : from ≡ info_of c.breaks (take from.chars c.text)
  pub to_is : to ≡ info_of c.breaks (take to.chars c.text)
  pub ordered : from.chars ≤ to.chars
  pub within : to.chars ≤ length c.text
  pub apart : parts_crlf (take from.chars c.text) (drop from.chars c.text) ≡ false
  pub part_is : part_between c from.chars to.chars ≡ line_of c l

pub line_part : (c : Content) (old new : Halves) (from to : TextInfo) (l : ℕ)
    → IsLineStart c old from l (line_count c.breaks c.text)
    → IsLineStart c new to (l + 1) (line_count c.breaks c.text) → IsLinePart c from to l
line_part c old new from to l a b =
    let below : l < line_count c.breaks c.text = omega (arith, b.within) in
    record {
      from_is = line_from c l below from to a.before_is b.before_is;
      to_is = line_to c l below from to a.before_is b.before_is;
      ordered = line_ordered c l below from to a.before_is b.before_is;
      within = line_within c l below from to a.before_is b.before_is;
      apart = line_apart c l below from to a.before_is b.before_is;
      part_is = line_is c l below from to a.before_is b.before_is;
    }
