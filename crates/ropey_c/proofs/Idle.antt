-- Edits that have nothing to do.
use Rattle.std.proofs.Common.{◌≡◌, ℕ, ◌≤◌, List, [], ◌++◌, take, drop, None, ap, sym, ◌∙◌, subst, append-nil}
use Rattle.std.proofs.lemmas.Bool.{cond-true, le-leb}
use Rattle.std.proofs.lemmas.List.{take-append-drop}
use Rattle.rope_text.specs.Edit.{inserted, removed, char_index_error}

-- no text in the place of no characters
pub nothing_replaced : (text : List ℕ) (i : ℕ) → inserted (removed text i i) i [] ≡ text
nothing_replaced text i =
    let Same : List ℕ → Type 0 = λ whole. take i whole ++ [] ++ drop i whole ≡ text in
    subst Same (sym (take-append-drop i text))
    (ap (λ front. front ++ drop i text) (append-nil (take i text)) ∙ take-append-drop i text)

pub index_fine : (i n : ℕ) → i ≤ n → char_index_error i n ≡ None
index_fine i n within = cond-true _ _ _ (le-leb i n within)
