-- A change as its replacements.
use Rattle.std.specs.Prelude.{ℕ, zero, suc, ◌+◌, ◌-◌, ◌≤◌, List, [], ◌∷◌, ◌++◌, length}
use Rattle.rope_changes.specs.Ops.{Op, keep, delete, insert, len_before, len_after}

-- a replacement: keeps `kept` characters, then inserts `text`, then deletes `deleted` characters
pub record Edit : Type 0 where
  pub kept : ℕ
  pub text : List ℕ
  pub deleted : ℕ

-- replacements in order, and the number of characters kept after the last one
pub record Change : Type 0 where
  pub edits : List Edit
  pub rest : ℕ

-- operations that keep n characters, delete n, or insert a text, and then others
abbrev pub keeping : ℕ → List Op → List Op
keeping zero ops = ops
keeping (suc n) ops = keep ∷ keeping n ops

abbrev pub deleting : ℕ → List Op → List Op
deleting zero ops = ops
deleting (suc n) ops = delete ∷ deleting n ops

abbrev pub inserting : List ℕ → List Op → List Op
inserting [] ops = ops
inserting (c ∷ text) ops = insert c ∷ inserting text ops

abbrev pub ops_of : List Edit → ℕ → List Op
ops_of [] rest = keeping rest []
ops_of (e ∷ edits) rest = keeping e.kept (inserting e.text (deleting e.deleted (ops_of edits rest)))

-- a change as a list of operations
abbrev pub ops : Change → List Op
ops c = ops_of c.edits c.rest

-- the length of a text that it is a change of, and of the text after it
abbrev pub before : Change → ℕ
before c = len_before (ops c)

abbrev pub after : Change → ℕ
after c = len_after (ops c)

-- the end of the last replacement, as an index of the text before
abbrev pub last_end : Change → ℕ
last_end c = before c - c.rest

-- normal form: each replacement changes something, and each but the first keeps a character before
-- it
abbrev pub AreApart : List Edit → Type 0
AreApart [] = Unit {0}
AreApart (e ∷ edits) = (1 ≤ e.kept) × (1 ≤ length e.text + e.deleted) × AreApart edits

abbrev pub AreNormal : List Edit → Type 0
AreNormal [] = Unit {0}
AreNormal (e ∷ edits) = (1 ≤ length e.text + e.deleted) × AreApart edits

abbrev pub IsNormal : Change → Type 0
IsNormal c = AreNormal c.edits

-- a replacement that inserts and deletes more at its end
abbrev pub extended : Edit → List ℕ → ℕ → Edit
extended e text deleted = record {
  kept = e.kept;
  text = e.text ++ text;
  deleted = e.deleted + deleted;
}

-- a replacement and then one of what comes after it, which extends it if no character is kept
-- between them
abbrev pub joined : Edit → ℕ → List ℕ → ℕ → List Edit
joined e zero text deleted = extended e text deleted ∷ []
joined e (suc kept) text deleted = e ∷ record { kept = suc kept; text = text; deleted = deleted }
    ∷ []

abbrev pub appended : List Edit → ℕ → List ℕ → ℕ → List Edit
appended [] kept text deleted = record { kept = kept; text = text; deleted = deleted } ∷ []
appended (e ∷ []) kept text deleted = joined e kept text deleted
appended (e ∷ f ∷ edits) kept text deleted = e ∷ appended (f ∷ edits) kept text deleted

-- the change `c` if n is 0, else `new`; n counts the characters that `new` inserts and deletes more
abbrev pub if_some : ℕ → Change → Change → Change
if_some zero c new = c
if_some (suc n) c new = new

-- a change that also replaces the characters from `start` up to `end` of the text before, after its
-- last replacement
abbrev pub replaced : Change → ℕ → ℕ → List ℕ → Change
replaced c start end text =
    if_some (length text + (end - start)) c
    (record {
      edits = appended c.edits (start - last_end c) text (end - start);
      rest = before c - end;
    })

-- the range is one of the text before, after the last replacement
pub record IsInOrder (c : Change) (start end : ℕ) : Type 0 where
  pub valid : start ≤ end
  pub within : end ≤ before c
  pub later : last_end c ≤ start

-- the length of the text after such a replacement
abbrev pub replaced_len : Change → ℕ → ℕ → List ℕ → ℕ
replaced_len c start end text = after c - (end - start) + length text
