-- When an insert is refused, but for memory.
use Rattle.std.proofs.Common.{◌≡◌, ℕ, ◌+◌, ◌^◌, ◌<◌, ◌≤◌, List, [], ◌++◌, length, take, drop, ap, ◌∙◌, sym, Some, None, true, refl, take-append-drop}
use Rattle.std.proofs.lemmas.Bool.{cond-true, cond-false, le-leb, le-ltb}
use Rattle.std.proofs.lemmas.List.{append-nil}
use Rattle.std.proofs.lemmas.Option.{none-some}
use Rattle.rope_text.specs.declared.line_breaks.LineBreaks.{LineBreaks}
use Rattle.rope_text.specs.declared.line_breaks.LineBreaks.TheVariants.{Lf, CrLf, Unicode}
use Rattle.rope_text.specs.declared.error.Error.TheVariants.{TooLong, LineBreaksDiffer}
use Rattle.rope_text.specs.Text.{byte_len}
use Rattle.rope_text.specs.Edit.{inserted, insert_error, append_error, same_breaks, or_else, size_error}
use Rattle.rope_text.proofs.EditLaws.{size_error-none, size_error-fits}

in_range : (text : List ℕ) (i : ℕ) (new : List ℕ) → i ≤ length text
    → insert_error text i new ≡ size_error (byte_len text + byte_len new)
in_range text i new within =
    ap (λ o. or_else o (size_error (byte_len text + byte_len new)))
    (cond-true _ _ _ (le-leb i (length text) within))

pub insert_error-none : (text : List ℕ) (i : ℕ) (new : List ℕ) → i ≤ length text
    → byte_len text + byte_len new < 2 ^ 63 → insert_error text i new ≡ None
insert_error-none text i new within fits = in_range text i new within
    ∙ size_error-none (byte_len text + byte_len new) fits

pub insert_error-long : (text : List ℕ) (i : ℕ) (new : List ℕ) → i ≤ length text
    → 2 ^ 63 ≤ byte_len text + byte_len new → insert_error text i new ≡ Some TooLong
insert_error-long text i new within over = in_range text i new within
    ∙ cond-false _ _ _ (le-ltb (byte_len text + byte_len new) (2 ^ 63) over)

-- the empty text changes nothing
pub inserted_none : (text : List ℕ) (i : ℕ) (new : List ℕ) → new ≡ [] → text ≡ inserted text i new
inserted_none text i new none =
    sym (take-append-drop i text) ∙ ap (λ t. t ++ drop i text) (sym (append-nil (take i text)))
    ∙ ap (λ n. (take i text ++ n) ++ drop i text) (sym none)

-- an append that nothing refuses but memory
pub append_error-none : (breaks other : LineBreaks) (text new : List ℕ) → other ≡ breaks
    → byte_len text + byte_len new < 2 ^ 63 → append_error breaks other text new ≡ None
append_error-none breaks other text new same fits =
    let one : same_breaks breaks other ≡ true = ap (same_breaks breaks) same ∙ reflexive breaks in
    ap (λ o. or_else o (size_error (byte_len text + byte_len new))) (cond-true _ _ _ one)
    ∙ size_error-none (byte_len text + byte_len new) fits
  where
    reflexive : (br : LineBreaks) → same_breaks br br ≡ true
    reflexive Lf = refl
    reflexive CrLf = refl
    reflexive Unicode = refl

-- an append that memory alone may refuse
pub append_error-fits : (breaks other : LineBreaks) (text new : List ℕ)
    → append_error breaks other text new ≡ None
    → (other ≡ breaks) × (byte_len text + byte_len new < 2 ^ 63)
append_error-fits Lf Lf text new none = (refl, size_error-fits _ none)
append_error-fits CrLf CrLf text new none = (refl, size_error-fits _ none)
append_error-fits Unicode Unicode text new none = (refl, size_error-fits _ none)
append_error-fits breaks other text new none = absurd (none-some LineBreaksDiffer (sym none))
