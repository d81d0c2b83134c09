-- The last of the replacements of a change.
use Rattle.std.proofs.Common.{◌≡◌, ℕ, ◌+◌, ◌-◌, ◌<◌, ◌≤◌, ◌^◌, List, [], ◌∷◌, ◌++◌, length, get_or, refl, ap, arith}
use Rattle.rope_changes.specs.Ops.{len_before, len_after}
use Rattle.rope_changes.specs.Change.{Edit, ops_of}
use Rattle.rope_changes.specs.Packed.{LastFits}
use Rattle.rope_changes.proofs.Appended.{last_deletes, last_inserts}

-- the last one can grow, where the texts can
pub last_fits : (edits : List Edit) (rest inserted deleted : ℕ)
    → len_after (ops_of edits rest) + inserted < 2 ^ 64
    → len_before (ops_of edits rest) + deleted < 2 ^ 64 → LastFits edits inserted deleted
last_fits edits rest inserted deleted after before = λ front last is. (
  omega (arith, after, ap (λ es. len_after (ops_of es rest)) is, last_inserts front last rest),
  omega (arith, before, ap (λ es. len_before (ops_of es rest)) is, last_deletes front last rest),
)

front_of : List Edit → List Edit
front_of [] = []
front_of (e ∷ []) = []
front_of (e ∷ f ∷ edits) = e ∷ front_of (f ∷ edits)

ends_in : (e : Edit) (edits : List Edit) (d : Edit)
    → e ∷ edits ≡ front_of (e ∷ edits) ++ get_or (e ∷ edits) (length edits) d ∷ []
unfolding front_of
ends_in e [] d = refl
ends_in e (f ∷ edits) d = ap (λ es. e ∷ es) (ends_in f edits d)

pub last_room : (edits : List Edit) (n inserted deleted : ℕ) (d : Edit) → 1 ≤ length edits
    → n ≡ length edits - 1 → LastFits edits inserted deleted
    → (length (get_or edits n d).text + inserted < 2 ^ 64)
    × ((get_or edits n d).deleted + deleted < 2 ^ 64)
last_room [] n inserted deleted d some at fits = absurd (omega arith)
last_room (e ∷ edits) n inserted deleted d some at fits =
    let last : n ≡ length edits = omega arith in
    rw last (fits (front_of (e ∷ edits)) (get_or (e ∷ edits) (length edits) d) (ends_in e edits d))
