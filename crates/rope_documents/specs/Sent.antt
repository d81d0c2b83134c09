-- The changes that a peer is sent for a change of characters.
use Rattle.std.specs.Prelude.{ℕ, ◌+◌, ◌-◌, Bool, true, false, ◌||◌, List, [], ◌∷◌, ◌++◌, take, drop, Some, if◌then◌else◌}
use Rattle.std.specs.declared.borrow.CowStr.{CowStr}
use Rattle.std.specs.declared.borrow.CowStr.TheVariants.{Borrowed, Owned}
use Rattle.rope_text.specs.declared.line_breaks.LineBreaks.{LineBreaks}
use Rattle.rope_text.specs.Cutting.{parts_crlf}
use Rattle.rope_text.specs.Text.{byte_len}
use Rattle.rope_position.specs.declared.encoding.Encoding.{Encoding}
use Rattle.rope_position.specs.Encodings.{position_in}
use Rattle.rope_changes.specs.Change.{Edit}
use Rattle.rope_documents.specs.declared.content_change.ContentChange.{ContentChange}
use Rattle.rope_documents.specs.Received.{TextChange}

-- whether CR stands before the character i and LF at it
abbrev pub is_inside_crlf : List ℕ → ℕ → Bool
is_inside_crlf text i = parts_crlf (take i text) (drop i text)

-- the last index up to i that isn't between CR and LF, and the characters from there to i
abbrev pub start_outside : List ℕ → ℕ → ℕ
start_outside text i = if is_inside_crlf text i then i - 1 else i

abbrev pub cr_before : List ℕ → ℕ → List ℕ
cr_before text i = if is_inside_crlf text i then 13 ∷ [] else []

-- the first index from i on that isn't between CR and LF, and the characters from i to there
abbrev pub end_outside : List ℕ → ℕ → ℕ
end_outside text i = if is_inside_crlf text i then i + 1 else i

abbrev pub lf_after : List ℕ → ℕ → List ℕ
lf_after text i = if is_inside_crlf text i then 10 ∷ [] else []

-- what a peer is sent for the replacement of the characters from `start` up to `end`
abbrev pub sent_change : Encoding → LineBreaks → List ℕ → ℕ → ℕ → List ℕ → TextChange
sent_change encoding breaks text start end new =
    record {
      range = Some (record {
        start = position_in encoding breaks text (start_outside text start);
        end = position_in encoding breaks text (end_outside text end);
      });
      text = cr_before text start ++ (new ++ lf_after text end);
    }

-- what `make` returns for the start, the end and the text of each replacement, from the last one to
-- the first; the replacement before them ends at the character `at`
abbrev pub from_last : {A : Type 0} → (ℕ → ℕ → List ℕ → A) → ℕ → List Edit → List A
from_last make at [] = []
from_last make at (e ∷ edits) =
    from_last make (at + e.kept + e.deleted) edits
    ++ make (at + e.kept) (at + e.kept + e.deleted) e.text ∷ []

-- what a peer is sent for replacements
abbrev pub sent : Encoding → LineBreaks → List ℕ → ℕ → List Edit → List TextChange
sent encoding breaks text at edits = from_last (sent_change encoding breaks text) at edits

-- whether a replacement starts or ends between CR and LF, so that its text is sent with them
abbrev pub is_widened : List ℕ → ℕ → ℕ → List ℕ → Bool
is_widened text start end new = is_inside_crlf text start || is_inside_crlf text end

-- whether the text of a change is a copy
abbrev pub is_owned : {A : Type 0} → CowStr A → Bool
is_owned (Borrowed text) = false
is_owned (Owned text) = true

abbrev pub is_copy : ContentChange → Bool
is_copy c = is_owned c.text

-- the number of bytes of their texts
abbrev pub text_bytes : List TextChange → ℕ
text_bytes [] = 0
text_bytes (c ∷ changes) = byte_len c.text + text_bytes changes
