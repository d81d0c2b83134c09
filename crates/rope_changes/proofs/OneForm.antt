-- A change in normal form is read back from its operations.
use Rattle.std.proofs.Common.{◌≡◌, ℕ, zero, suc, ◌+◌, ◌≤◌, List, [], ◌∷◌, length, refl, ap, sym, ◌∙◌, arith}
use Rattle.rope_changes.specs.Ops.{Op, keep, delete, insert}
use Rattle.rope_changes.specs.Change.{Edit, Change, keeping, inserting, deleting, ops_of, ops, AreApart, AreNormal, IsNormal}

abbrev edit : ℕ → List ℕ → ℕ → Edit
edit kept text deleted = record { kept = kept; text = text; deleted = deleted }

abbrev change : List Edit → ℕ → Change
change edits rest = record { edits = edits; rest = rest }

-- a replacement with one more insert or deletion in front, if it keeps nothing first
abbrev front_insert : ℕ → ℕ → List ℕ → ℕ → List Edit → List Edit
front_insert x zero text deleted edits = edit zero (x ∷ text) deleted ∷ edits
front_insert x (suc kept) text deleted edits =
    edit zero (x ∷ []) zero ∷ edit (suc kept) text deleted ∷ edits

abbrev front_delete : ℕ → List ℕ → ℕ → List Edit → List Edit
front_delete zero [] deleted edits = edit zero [] (suc deleted) ∷ edits
front_delete zero (c ∷ text) deleted edits = edit zero [] 1 ∷ edit zero (c ∷ text) deleted ∷ edits
front_delete (suc kept) text deleted edits = edit zero [] 1 ∷ edit (suc kept) text deleted ∷ edits

-- a change with one more operation in front
abbrev with_keep : List Edit → ℕ → Change
with_keep [] rest = change [] (suc rest)
with_keep (e ∷ edits) rest = change (edit (suc e.kept) e.text e.deleted ∷ edits) rest

abbrev with_insert : ℕ → List Edit → ℕ → Change
with_insert x [] rest = change (edit zero (x ∷ []) zero ∷ []) rest
with_insert x (e ∷ edits) rest = change (front_insert x e.kept e.text e.deleted edits) rest

abbrev with_delete : List Edit → ℕ → Change
with_delete [] rest = change (edit zero [] 1 ∷ []) rest
with_delete (e ∷ edits) rest = change (front_delete e.kept e.text e.deleted edits) rest

abbrev read : List Op → Change
read [] = change [] 0
read (keep ∷ ops) = let c = read ops in with_keep c.edits c.rest
read (delete ∷ ops) = let c = read ops in with_delete c.edits c.rest
read (insert x ∷ ops) = let c = read ops in with_insert x c.edits c.rest

read_rest : (rest : ℕ) → read (keeping rest []) ≡ change [] rest
read_rest zero = refl
read_rest (suc rest) = ap (λ (c : Change). with_keep c.edits c.rest) (read_rest rest)

-- deletions before replacements that keep a character first
read_deletes : (n : ℕ) (ops : List Op) (edits : List Edit) (rest : ℕ)
    → read ops ≡ change edits rest → AreApart edits
    → read (deleting (suc n) ops) ≡ change (edit zero [] (suc n) ∷ edits) rest
read_deletes (suc n) ops edits rest is apart =
    ap (λ (c : Change). with_delete c.edits c.rest) (read_deletes n ops edits rest is apart)
read_deletes zero ops [] rest is apart = ap (λ (c : Change). with_delete c.edits c.rest) is
read_deletes zero ops (e ∷ edits) rest is apart =
    ap (λ (c : Change). with_delete c.edits c.rest) is
    ∙ ap (λ es. change es rest) (delete_fresh e.kept e.text e.deleted edits apart.0) where
      delete_fresh : (kept : ℕ) (text : List ℕ) (deleted : ℕ) (edits : List Edit) → 1 ≤ kept
          → front_delete kept text deleted edits ≡ edit zero [] 1 ∷ edit kept text deleted ∷ edits
      delete_fresh zero text deleted edits some = absurd (omega arith)
      delete_fresh (suc kept) text deleted edits some = refl

-- inserts before deletions, or before replacements that keep a character first
read_inserts : (text : List ℕ) (d : ℕ) (ops : List Op) (edits : List Edit) (rest : ℕ)
    → read ops ≡ change edits rest → AreApart edits → 1 ≤ length text + d
    → read (inserting text (deleting d ops)) ≡ change (edit zero text d ∷ edits) rest
read_inserts [] zero ops edits rest is apart some = absurd (omega arith)
read_inserts [] (suc d) ops edits rest is apart some = read_deletes d ops edits rest is apart
read_inserts (x ∷ []) zero ops [] rest is apart some =
    ap (λ (c : Change). with_insert x c.edits c.rest) is
read_inserts (x ∷ []) zero ops (e ∷ edits) rest is apart some =
    ap (λ (c : Change). with_insert x c.edits c.rest) is
    ∙ ap (λ es. change es rest) (insert_fresh x e.kept e.text e.deleted edits apart.0) where
      insert_fresh : (x kept : ℕ) (text : List ℕ) (deleted : ℕ) (edits : List Edit) → 1 ≤ kept
          → front_insert x kept text deleted edits
          ≡ edit zero (x ∷ []) zero ∷ edit kept text deleted ∷ edits
      insert_fresh x zero text deleted edits some = absurd (omega arith)
      insert_fresh x (suc kept) text deleted edits some = refl
read_inserts (x ∷ []) (suc d) ops edits rest is apart some =
    ap (λ (c : Change). with_insert x c.edits c.rest)
    (read_inserts [] (suc d) ops edits rest is apart (omega arith))
read_inserts (x ∷ y ∷ text) d ops edits rest is apart some =
    ap (λ (c : Change). with_insert x c.edits c.rest)
    (read_inserts (y ∷ text) d ops edits rest is apart (omega arith))

read_keeps : (n : ℕ) (ops : List Op) (text : List ℕ) (d : ℕ) (edits : List Edit) (rest : ℕ)
    → read ops ≡ change (edit zero text d ∷ edits) rest
    → read (keeping n ops) ≡ change (edit n text d ∷ edits) rest
read_keeps zero ops text d edits rest is = is
read_keeps (suc n) ops text d edits rest is =
    ap (λ (c : Change). with_keep c.edits c.rest) (read_keeps n ops text d edits rest is)

read_apart : (edits : List Edit) (rest : ℕ) → AreApart edits
    → read (ops_of edits rest) ≡ change edits rest
read_apart [] rest apart = read_rest rest
read_apart (e ∷ edits) rest apart =
    read_keeps e.kept
    (inserting e.text (deleting e.deleted (ops_of edits rest))) e.text e.deleted edits rest
    (read_inserts e.text e.deleted (ops_of edits rest) edits rest
    (read_apart edits rest apart.2) apart.2 apart.1)

read_normal : (edits : List Edit) (rest : ℕ) → AreNormal edits
    → read (ops_of edits rest) ≡ change edits rest
read_normal [] rest normal = read_rest rest
read_normal (e ∷ edits) rest normal =
    read_keeps e.kept
    (inserting e.text (deleting e.deleted (ops_of edits rest))) e.text e.deleted edits rest
    (read_inserts e.text e.deleted (ops_of edits rest) edits rest
    (read_apart edits rest normal.1) normal.1 normal.0)

pub operations_tell : (c d : Change) → IsNormal c → IsNormal d → ops c ≡ ops d → c ≡ d
operations_tell c d normal normal' same =
    sym (read_normal c.edits c.rest normal) ∙ ap read same ∙ read_normal d.edits d.rest normal'
