-- The counts of a text up to the two ends of a slice.
use Rattle.std.specs.Prelude.{◌≡◌, ℕ, ◌≤◌, ◌<◌, List, [], ◌∷◌, ◌++◌, length, take, drop, false}
use Rattle.std.proofs.Props.{props}
use Rattle.rope_text.specs.declared.line_breaks.LineBreaks.{LineBreaks}
use Rattle.rope_text.specs.declared.text_info.TextInfo.{TextInfo}
use Rattle.rope_text.specs.Text.{byte_len, surrogate_count}
use Rattle.rope_text.specs.TextInfo.{info_of}
use Rattle.rope_text.specs.Lines.{line_start}
use Rattle.rope_text.specs.Conversions.{char_to_line}
use Rattle.rope_text.specs.Cutting.{parts_crlf, KeepsCrlf}
use Rattle.rope_text.specs.Dense.{IsDenseAfter}
use Rattle.rope_text.specs.declared.TheConstants.{MAX_HEIGHT}
use Rattle.rope_leaf.specs.Tree.{Tree, IsTree, text}

-- the counts of the text before a slice's start. Its breaks are those that end there or before: the
-- CR of a CR LF that the start cuts is not one of them, since the LF is a break of the slice
abbrev pub start_info : LineBreaks → List ℕ → ℕ → TextInfo
start_info breaks text i = record {
  bytes = byte_len (take i text);
  chars = i;
  utf16_surrogates = surrogate_count (take i text);
  break_count = char_to_line breaks text i;
}

-- the counts of the text before a slice's end. Its breaks are those of that text alone: the CR of a
-- CR LF that the end cuts is one of them, since it is a break of the slice
abbrev pub end_info : LineBreaks → List ℕ → ℕ → TextInfo
end_info breaks text i = info_of breaks (take i text)

-- the counts of the text before a line
abbrev pub line_info : LineBreaks → List ℕ → ℕ → TextInfo
line_info breaks text l = info_of breaks (take (line_start breaks text l) text)

-- characters of a text, at least one, with the counts up to their start and up to their end
pub record IsExcerpt (breaks : LineBreaks) (text : List ℕ) (start end : TextInfo) : Type 0 where
  pub some : start.chars < end.chars
  pub within : end.chars ≤ length text
  pub start_is : start ≡ start_info breaks text start.chars
  pub end_is : end ≡ end_info breaks text end.chars

-- there is at most one proof of it
pub IsExcerpt-prop : {breaks : LineBreaks} {text : List ℕ} {start end : TextInfo}
    → IsProp (IsExcerpt breaks text start end)
IsExcerpt-prop = hlevel props

-- an invariant of every tree
pub record IsLowTree (t : Tree) : Type 0 where
  pub low : t.height ≤ MAX_HEIGHT
  pub tree : IsTree t

AreDense-prop : (before : ℕ) (chunks : List (List ℕ)) → IsProp (IsDenseAfter before chunks)
AreDense-prop before [] = hlevel props
AreDense-prop before (chunk ∷ chunks) = let rest = AreDense-prop (byte_len chunk) chunks in
    hlevel (rest, props)

KeepsCrlf-prop : (chunks : List (List ℕ)) → IsProp (KeepsCrlf chunks)
KeepsCrlf-prop [] = hlevel props
KeepsCrlf-prop (chunk ∷ chunks) = let rest = KeepsCrlf-prop chunks in hlevel (rest, props)

pub IsLowTree-prop : {t : Tree} → IsProp (IsLowTree t)
IsLowTree-prop = hlevel (AreDense-prop, KeepsCrlf-prop, props)

pub IsInfo-prop : (breaks : LineBreaks) (text : List ℕ) (info : TextInfo)
    → IsProp (info ≡ info_of breaks text)
IsInfo-prop breaks text info = hlevel props

-- the end of a leaf, from a character of the text on: the text after it continues it, and no CR LF
-- is split there
pub record IsLeafFrom (t : Tree) (i : ℕ) (rest : List ℕ) : Type 0 where
  pub more : List ℕ
  pub text_is : drop i (text t) ≡ rest ++ more
  pub apart : 0 < length rest → parts_crlf rest more ≡ false
