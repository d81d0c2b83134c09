-- A text that is being written.
use Rattle.std.proofs.Common.{◌≡◌, ℕ, List, [], ◌++◌, sym, ap, ◌∙◌, append_assoc}
use Rattle.std.proofs.Output.{has_written_append, has_written_of_eq, has_written_styled_append, has_written_styled_of_eq}
use Rattle.std.proofs.lemmas.List.{append-nil}
use Rattle.std.specs.declared.fmt.Formatter.{Formatter}
use Rattle.std.specs.Fmt.{IsPlainFormatter, IsFlush, HasWritten, HasWrittenStyled}

module _ {W : Type 0} (took : W → List ℕ → W → Type 0) where
  -- some front of it has been written, and the rest is ahead
  pub record IsShowing (start now : Formatter W) (all rest : List ℕ) : Type 0 where
    pub front : List ℕ
    pub whole : front ++ rest ≡ all
    pub plain : IsPlainFormatter start → HasWritten took start front now
    pub styled : IsFlush start → HasWrittenStyled took start front now

  pub show_more : (start now next : Formatter W) (all ahead bytes rest : List ℕ)
      → IsShowing start now all ahead → ahead ≡ bytes ++ rest
      → (IsPlainFormatter now → HasWritten took now bytes next)
      → (IsFlush now → HasWrittenStyled took now bytes next) → IsShowing start next all rest
  show_more start now next all ahead bytes rest s e p q = record {
    front = s.front ++ bytes;
    whole = append_assoc s.front bytes rest ∙ ap (λ x. s.front ++ x) (sym e) ∙ s.whole;
    plain = λ h. has_written_append took _ _ _ _ _ (s.plain h) (p (s.plain h).plain);
    styled = λ h. has_written_styled_append took _ _ _ _ _ (s.styled h) (q (s.styled h).flush);
  }

  module _ (start now : Formatter W) (all rest : List ℕ) (s : IsShowing start now all rest)
      (e : rest ≡ []) where
    all_of : s.front ≡ all
    all_of = sym (append-nil s.front) ∙ ap (λ x. s.front ++ x) (sym e) ∙ s.whole

    pub shown : IsPlainFormatter start → HasWritten took start all now
    shown h = has_written_of_eq took _ _ _ _ all_of (s.plain h)

    pub shown_styled : IsFlush start → HasWrittenStyled took start all now
    shown_styled h = has_written_styled_of_eq took _ _ _ _ all_of (s.styled h)
