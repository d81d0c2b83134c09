-- Replacements appended to others.
use Rattle.std.proofs.Common.{◌≡◌, ℕ, zero, suc, ◌+◌, ◌≤◌, ◌⊎◌, inl, inr, List, [], ◌∷◌, ◌++◌, length, refl, ap, arith, length-append}
use Rattle.rope_changes.specs.Ops.{len_before, len_after}
use Rattle.rope_changes.specs.Change.{Edit, keeping, inserting, deleting, ops_of, extended, appended, AreApart, AreNormal}
use Rattle.rope_changes.proofs.Prefixes.{keeping_before, keeping_after}
use Rattle.rope_changes.proofs.Steps.{step_before, step_after}

-- after no others, or where a character is kept, it comes after them
pub appended_apart : (edits : List Edit) (kept : ℕ) (text : List ℕ) (deleted : ℕ) → 1 ≤ kept
    → appended edits kept text deleted ≡ edits ++ record {
      kept = kept;
      text = text;
      deleted = deleted;
    } ∷ []
appended_apart [] kept text deleted some = refl
appended_apart (e ∷ []) zero text deleted some = absurd (omega arith)
appended_apart (e ∷ []) (suc kept) text deleted some = refl
appended_apart (e ∷ f ∷ edits) kept text deleted some =
    ap (λ es. e ∷ es) (appended_apart (f ∷ edits) kept text deleted some)

pub appended_first : (edits : List Edit) (kept : ℕ) (text : List ℕ) (deleted : ℕ)
    → (length edits ≡ 0) ⊎ (1 ≤ kept)
    → appended edits kept text deleted
    ≡ edits ++ record { kept = kept; text = text; deleted = deleted } ∷ []
appended_first [] kept text deleted first = refl
appended_first (e ∷ edits) kept text deleted (inl none) = absurd (omega arith)
appended_first (e ∷ edits) kept text deleted (inr some) =
    appended_apart (e ∷ edits) kept text deleted some

-- else it extends the last one
pub appended_last : (front : List Edit) (e : Edit) (text : List ℕ) (deleted : ℕ)
    → appended (front ++ e ∷ []) 0 text deleted ≡ front ++ extended e text deleted ∷ []
appended_last [] e text deleted = refl
appended_last (f ∷ []) e text deleted = refl
appended_last (f ∷ g ∷ front) e text deleted =
    ap (λ es. f ∷ es) (appended_last (g ∷ front) e text deleted)

appended_stays_apart : (e : Edit) (edits : List Edit) (kept : ℕ) (text : List ℕ) (deleted : ℕ)
    → AreApart (e ∷ edits) → 1 ≤ length text + deleted
    → AreApart (appended (e ∷ edits) kept text deleted)
appended_stays_apart e [] zero text deleted apart some =
    (apart.0, omega (arith, apart.1, length-append e.text text), tt)
appended_stays_apart e [] (suc kept) text deleted apart some =
    (apart.0, apart.1, (omega arith, some, tt))
appended_stays_apart e (f ∷ edits) kept text deleted apart some =
    (apart.0, apart.1, appended_stays_apart f edits kept text deleted apart.2 some)

pub appended_normal : (edits : List Edit) (kept : ℕ) (text : List ℕ) (deleted : ℕ) → AreNormal edits
    → 1 ≤ length text + deleted → AreNormal (appended edits kept text deleted)
appended_normal [] kept text deleted normal some = (some, tt)
appended_normal (e ∷ []) zero text deleted normal some =
    (omega (arith, normal.0, length-append e.text text), tt)
appended_normal (e ∷ []) (suc kept) text deleted normal some = (normal.0, (omega arith, some, tt))
appended_normal (e ∷ f ∷ edits) kept text deleted normal some =
    (normal.0, appended_stays_apart f edits kept text deleted normal.1 some)

-- the lengths of the texts
pub appended_before : (edits : List Edit) (kept : ℕ) (text : List ℕ) (deleted rest : ℕ)
    → len_before (ops_of (appended edits kept text deleted) rest)
    ≡ len_before (ops_of edits (kept + deleted + rest))
appended_before [] kept text deleted rest =
    omega (
      arith,
      step_before kept text deleted (keeping rest []),
      keeping_before rest [],
      keeping_before (kept + deleted + rest) [],
    )
appended_before (e ∷ []) zero text deleted rest =
    omega (
      arith,
      step_before e.kept (e.text ++ text) (e.deleted + deleted) (keeping rest []),
      keeping_before rest [],
      step_before e.kept e.text e.deleted (keeping (0 + deleted + rest) []),
      keeping_before (0 + deleted + rest) [],
    )
appended_before (e ∷ []) (suc kept) text deleted rest =
    omega (
      arith,
      step_before e.kept e.text e.deleted
          (keeping (suc kept) (inserting text (deleting deleted (keeping rest [])))),
      step_before (suc kept) text deleted (keeping rest []),
      keeping_before rest [],
      step_before e.kept e.text e.deleted (keeping (suc kept + deleted + rest) []),
      keeping_before (suc kept + deleted + rest) [],
    )
appended_before (e ∷ f ∷ edits) kept text deleted rest =
    omega (
      arith,
      step_before e.kept e.text e.deleted
          (ops_of (appended (f ∷ edits) kept text deleted) rest),
      step_before e.kept e.text e.deleted (ops_of (f ∷ edits) (kept + deleted + rest)),
      appended_before (f ∷ edits) kept text deleted rest,
    )

pub appended_after : (edits : List Edit) (kept : ℕ) (text : List ℕ) (deleted rest : ℕ)
    → len_after (ops_of (appended edits kept text deleted) rest) + deleted
    ≡ len_after (ops_of edits (kept + deleted + rest)) + length text
appended_after [] kept text deleted rest =
    omega (
      arith,
      step_after kept text deleted (keeping rest []),
      keeping_after rest [],
      keeping_after (kept + deleted + rest) [],
    )
appended_after (e ∷ []) zero text deleted rest =
    omega (
      arith,
      length-append e.text text,
      step_after e.kept (e.text ++ text) (e.deleted + deleted) (keeping rest []),
      keeping_after rest [],
      step_after e.kept e.text e.deleted (keeping (0 + deleted + rest) []),
      keeping_after (0 + deleted + rest) [],
    )
appended_after (e ∷ []) (suc kept) text deleted rest =
    omega (
      arith,
      step_after e.kept e.text e.deleted
          (keeping (suc kept) (inserting text (deleting deleted (keeping rest [])))),
      step_after (suc kept) text deleted (keeping rest []),
      keeping_after rest [],
      step_after e.kept e.text e.deleted (keeping (suc kept + deleted + rest) []),
      keeping_after (suc kept + deleted + rest) [],
    )
appended_after (e ∷ f ∷ edits) kept text deleted rest =
    omega (
      arith,
      step_after e.kept e.text e.deleted
          (ops_of (appended (f ∷ edits) kept text deleted) rest),
      step_after e.kept e.text e.deleted (ops_of (f ∷ edits) (kept + deleted + rest)),
      appended_after (f ∷ edits) kept text deleted rest,
    )

-- what is kept at the end, and what the last replacement does, are within the texts
pub rest_before : (edits : List Edit) (rest : ℕ) → rest ≤ len_before (ops_of edits rest)
rest_before [] rest = omega (arith, keeping_before rest [])
rest_before (e ∷ edits) rest =
    omega (arith, step_before e.kept e.text e.deleted (ops_of edits rest), rest_before edits rest)

pub rest_after : (edits : List Edit) (rest : ℕ) → rest ≤ len_after (ops_of edits rest)
rest_after [] rest = omega (arith, keeping_after rest [])
rest_after (e ∷ edits) rest =
    omega (arith, step_after e.kept e.text e.deleted (ops_of edits rest), rest_after edits rest)

pub last_deletes : (front : List Edit) (e : Edit) (rest : ℕ)
    → e.deleted + rest ≤ len_before (ops_of (front ++ e ∷ []) rest)
last_deletes [] e rest =
    omega (arith, step_before e.kept e.text e.deleted (keeping rest []), keeping_before rest [])
last_deletes (f ∷ front) e rest =
    omega (
      arith,
      step_before f.kept f.text f.deleted (ops_of (front ++ e ∷ []) rest),
      last_deletes front e rest,
    )

pub last_inserts : (front : List Edit) (e : Edit) (rest : ℕ)
    → length e.text + rest ≤ len_after (ops_of (front ++ e ∷ []) rest)
last_inserts [] e rest =
    omega (arith, step_after e.kept e.text e.deleted (keeping rest []), keeping_after rest [])
last_inserts (f ∷ front) e rest =
    omega (
      arith,
      step_after f.kept f.text f.deleted (ops_of (front ++ e ∷ []) rest),
      last_inserts front e rest,
    )

-- the rest counts in both texts
pub before_with_rest : (edits : List Edit) (rest : ℕ)
    → len_before (ops_of edits rest) ≡ len_before (ops_of edits 0) + rest
before_with_rest [] rest = omega (arith, keeping_before rest [])
before_with_rest (e ∷ edits) rest =
    omega (
      arith,
      step_before e.kept e.text e.deleted (ops_of edits rest),
      step_before e.kept e.text e.deleted (ops_of edits 0),
      before_with_rest edits rest,
    )

pub after_with_rest : (edits : List Edit) (rest : ℕ)
    → len_after (ops_of edits rest) ≡ len_after (ops_of edits 0) + rest
after_with_rest [] rest = omega (arith, keeping_after rest [])
after_with_rest (e ∷ edits) rest =
    omega (
      arith,
      step_after e.kept e.text e.deleted (ops_of edits rest),
      step_after e.kept e.text e.deleted (ops_of edits 0),
      after_with_rest edits rest,
    )
