-- Replacements whose texts follow each other in one text: read, added and extended.
use Rattle.std.proofs.Common.{◌≡◌, ℕ, zero, suc, ◌+◌, ◌-◌, ◌<◌, ◌≤◌, List, [], ◌∷◌, ◌++◌, length, take, drop, get_or, set, refl, ap, sym, ◌∙◌, subst, arith, length-append}
use Rattle.std.specs.Str.{chars, IsUtf8}
use Rattle.std.proofs.Math.Seq.{take-length, drop-length}
use Rattle.std.proofs.lemmas.List.{take-append-le, drop-append-le, length-take-le, length-drop}
use Rattle.std.proofs.lemmas.Str.{IsUtf8-append, chars-append}
use Rattle.rope_text.proofs.Walks.{byte_len-chars}
use Rattle.rope_changes.specs.Applied.{inserted_bytes}
use Rattle.rope_changes.specs.Change.{Edit, appended}
use Rattle.rope_changes.specs.Packed.{edits_of, Begins, AreCounted, AreLengthsOf, AreLengths}
use Rattle.rope_changes.specs.declared.replacements.Lengths.{Lengths}

pub count_edits : (ls : List Lengths) (bytes : List ℕ) → length (edits_of ls bytes) ≡ length ls
count_edits [] bytes = refl
count_edits (l ∷ ls) bytes = ap suc (count_edits ls (drop l.bytes bytes))

-- the texts have as many bytes as the text that they are the parts of
pub bytes_of_all : (ls : List Lengths) (bytes : List ℕ) → AreCounted ls bytes
    → inserted_bytes (edits_of ls bytes) ≡ length bytes
bytes_of_all [] bytes none = sym (ap length none)
bytes_of_all (l ∷ ls) bytes counted =
    omega (
      arith,
      byte_len-chars (take l.bytes bytes) counted.0.utf8,
      length-take-le l.bytes bytes counted.0.within,
      bytes_of_all ls (drop l.bytes bytes) counted.1,
      length-drop l.bytes bytes,
      counted.0.within,
    )

pub each_length : (ls : List Lengths) (bytes : List ℕ) → AreCounted ls bytes
    → (k : ℕ) (e : Edit) (l : Lengths) → k < length ls
    → AreLengthsOf (get_or (edits_of ls bytes) k e) (get_or ls k l)
each_length [] bytes counted k e l below = absurd (omega arith)
each_length (m ∷ ls) bytes counted zero e l below = record {
  kept = refl;
  inserted = counted.0.counted;
  deleted = refl;
}
each_length (m ∷ ls) bytes counted (suc k) e l below =
    each_length ls (drop m.bytes bytes) counted.1 k e l (omega arith)

pub all_lengths : (ls : List Lengths) (bytes : List ℕ) → AreCounted ls bytes
    → AreLengths (edits_of ls bytes) ls
all_lengths ls bytes counted = record {
  count = sym (count_edits ls bytes);
  each = each_length ls bytes counted;
}

-- a text begins as it did, with more at its end
begins_more : (bytes more : List ℕ) (n m : ℕ) → Begins bytes n m → Begins (bytes ++ more) n m
begins_more bytes more n m begins =
    let same : take n bytes ≡ take n (bytes ++ more) =
    sym (take-append-le n bytes more begins.within) in
    record {
      within = omega (arith, begins.within, length-append bytes more);
      utf8 = subst IsUtf8 same begins.utf8;
      counted = begins.counted ∙ ap (λ t. length (chars t)) same;
    }

-- a whole text begins with all of it
pub begins_whole : (bytes : List ℕ) (n m : ℕ) → IsUtf8 bytes → n ≡ length bytes
    → m ≡ length (chars bytes) → Begins bytes n m
begins_whole bytes n m text all counted =
    let same : bytes ≡ take n bytes = sym (ap (λ k. take k bytes) all ∙ take-length bytes) in
    record {
      within = omega arith;
      utf8 = subst IsUtf8 same text;
      counted = counted ∙ ap (λ t. length (chars t)) same;
    }

-- one replacement more, whose text comes last
module _ (l : Lengths) (more : List ℕ) (all : l.bytes ≡ length more) where
  abbrev pub added : Edit
  added = record { kept = l.kept; text = chars more; deleted = l.deleted }

  alone : edits_of (l ∷ []) more ≡ added ∷ []
  alone =
      ap (λ t. let e : Edit = record { kept = l.kept; text = chars t; deleted = l.deleted } in
      e ∷ [])
      (ap (λ k. take k more) all ∙ take-length more)

  pub edits_pushed : (ls : List Lengths) (bytes : List ℕ) → AreCounted ls bytes
      → edits_of (ls ++ l ∷ []) (bytes ++ more) ≡ edits_of ls bytes ++ added ∷ []
  edits_pushed [] bytes none = ap (λ b. edits_of (l ∷ []) (b ++ more)) none ∙ alone
  edits_pushed (m ∷ ls) bytes counted =
      ap (λ t. let e : Edit = record { kept = m.kept; text = chars t; deleted = m.deleted } in
      e ∷ edits_of (ls ++ l ∷ []) (drop m.bytes (bytes ++ more)))
      (take-append-le m.bytes bytes more counted.0.within)
      ∙ ap (λ t. let e : Edit = record {
        kept = m.kept;
        text = chars (take m.bytes bytes);
        deleted = m.deleted;
      } in
      e ∷ edits_of (ls ++ l ∷ []) t)
      (drop-append-le m.bytes bytes more counted.0.within)
      ∙ ap (λ es. let e : Edit = record {
        kept = m.kept;
        text = chars (take m.bytes bytes);
        deleted = m.deleted;
      } in
      e ∷ es)
      (edits_pushed ls (drop m.bytes bytes) counted.1)

  pub counted_pushed : (ls : List Lengths) (bytes : List ℕ) → AreCounted ls bytes
      → Begins more l.bytes l.inserted → AreCounted (ls ++ l ∷ []) (bytes ++ more)
  counted_pushed [] bytes none begins =
      subst (λ b. AreCounted (l ∷ []) (b ++ more)) (sym none)
      (begins, ap (λ k. drop k more) all ∙ drop-length more)
  counted_pushed (m ∷ ls) bytes counted begins = (
    begins_more bytes more m.bytes m.inserted counted.0,
    subst (AreCounted (ls ++ l ∷ [])) (sym (drop-append-le m.bytes bytes more counted.0.within))
        (counted_pushed ls (drop m.bytes bytes) counted.1 begins),
  )

-- the last replacement with more at its end
module _ (more : List ℕ) (inserted deleted : ℕ) (text : IsUtf8 more)
    (count : inserted ≡ length (chars more)) where
  abbrev pub grown : Lengths → Lengths
  grown l = record {
    kept = l.kept;
    inserted = l.inserted + inserted;
    deleted = l.deleted + deleted;
    bytes = l.bytes + length more;
  }

  module _ (l : Lengths) (bytes : List ℕ) (last : AreCounted (l ∷ []) bytes) where
    whole : l.bytes ≡ length bytes
    whole = omega (arith, last.0.within, ap length last.1, length-drop l.bytes bytes)

    only : take l.bytes bytes ≡ bytes
    only = ap (λ k. take k bytes) whole ∙ take-length bytes

    front_text : IsUtf8 bytes
    front_text = subst IsUtf8 only last.0.utf8

    all_bytes : l.bytes + length more ≡ length (bytes ++ more)
    all_bytes = omega (arith, whole, length-append bytes more)

    both : take (l.bytes + length more) (bytes ++ more) ≡ bytes ++ more
    both = ap (λ k. take k (bytes ++ more)) all_bytes ∙ take-length (bytes ++ more)

    both_chars : chars (take (l.bytes + length more) (bytes ++ more))
        ≡ chars (take l.bytes bytes) ++ chars more
    both_chars =
        ap chars both ∙ chars-append bytes more front_text
        ∙ ap (λ t. chars t ++ chars more) (sym only)

    grown_edit : edits_of (grown l ∷ []) (bytes ++ more)
        ≡ appended (edits_of (l ∷ []) bytes) 0 (chars more) deleted
    grown_edit =
        ap (λ t. let e : Edit = record { kept = l.kept; text = t; deleted = l.deleted + deleted } in
        e ∷ [])
        both_chars

    grown_counted : AreCounted (grown l ∷ []) (bytes ++ more)
    grown_counted = (
      begins_whole (bytes ++ more) (l.bytes + length more) (l.inserted + inserted)
          (IsUtf8-append bytes more front_text text) all_bytes
          (omega (
            arith,
            last.0.counted,
            count,
            ap length both_chars,
            ap (λ t. length (chars t)) both,
            length-append (chars (take l.bytes bytes)) (chars more),
          )),
      ap (λ k. drop k (bytes ++ more)) all_bytes ∙ drop-length (bytes ++ more),
    )

  edits_set : (l : Lengths) (ls : List Lengths) (bytes : List ℕ) (new d : Lengths)
      → AreCounted (l ∷ ls) bytes → new ≡ grown (get_or (l ∷ ls) (length ls) d)
      → edits_of (set (l ∷ ls) (length ls) new) (bytes ++ more)
      ≡ appended (edits_of (l ∷ ls) bytes) 0 (chars more) deleted
  edits_set l [] bytes new d counted is =
      ap (λ x. edits_of (x ∷ []) (bytes ++ more)) is ∙ grown_edit l bytes counted
  edits_set l (m ∷ ls) bytes new d counted is =
      ap (λ t. let e : Edit = record { kept = l.kept; text = chars t; deleted = l.deleted } in
      e ∷ edits_of (set (m ∷ ls) (length ls) new) (drop l.bytes (bytes ++ more)))
      (take-append-le l.bytes bytes more counted.0.within)
      ∙ ap (λ t. let e : Edit = record {
        kept = l.kept;
        text = chars (take l.bytes bytes);
        deleted = l.deleted;
      } in
      e ∷ edits_of (set (m ∷ ls) (length ls) new) t)
      (drop-append-le l.bytes bytes more counted.0.within)
      ∙ ap (λ es. let e : Edit = record {
        kept = l.kept;
        text = chars (take l.bytes bytes);
        deleted = l.deleted;
      } in
      e ∷ es)
      (edits_set m ls (drop l.bytes bytes) new d counted.1 is)

  counted_set : (l : Lengths) (ls : List Lengths) (bytes : List ℕ) (new d : Lengths)
      → AreCounted (l ∷ ls) bytes → new ≡ grown (get_or (l ∷ ls) (length ls) d)
      → AreCounted (set (l ∷ ls) (length ls) new) (bytes ++ more)
  counted_set l [] bytes new d counted is =
      subst (λ x. AreCounted (x ∷ []) (bytes ++ more)) (sym is) (grown_counted l bytes counted)
  counted_set l (m ∷ ls) bytes new d counted is = (
    begins_more bytes more l.bytes l.inserted counted.0,
    subst (AreCounted (set (m ∷ ls) (length ls) new))
        (sym (drop-append-le l.bytes bytes more counted.0.within))
        (counted_set m ls (drop l.bytes bytes) new d counted.1 is),
  )

  pub edits_grown : (ls : List Lengths) (bytes : List ℕ) (n : ℕ) (new d : Lengths)
      → 1 ≤ length ls → n ≡ length ls - 1 → AreCounted ls bytes → new ≡ grown (get_or ls n d)
      → edits_of (set ls n new) (bytes ++ more)
      ≡ appended (edits_of ls bytes) 0 (chars more) deleted
  edits_grown [] bytes n new d some at counted is = absurd (omega arith)
  edits_grown (l ∷ ls) bytes n new d some at counted is =
      let last : n ≡ length ls = omega arith in
      rw last (edits_set l ls bytes new d counted (rw last at is))

  pub counted_grown : (ls : List Lengths) (bytes : List ℕ) (n : ℕ) (new d : Lengths)
      → 1 ≤ length ls → n ≡ length ls - 1 → AreCounted ls bytes → new ≡ grown (get_or ls n d)
      → AreCounted (set ls n new) (bytes ++ more)
  counted_grown [] bytes n new d some at counted is = absurd (omega arith)
  counted_grown (l ∷ ls) bytes n new d some at counted is =
      let last : n ≡ length ls = omega arith in
      rw last (counted_set l ls bytes new d counted (rw last at is))

-- the last of the replacements
pub last_bytes : (ls : List Lengths) (bytes : List ℕ) (k : ℕ) (d : Lengths) → AreCounted ls bytes
    → k < length ls → (get_or ls k d).bytes ≤ length bytes
last_bytes [] bytes k d counted below = absurd (omega arith)
last_bytes (l ∷ ls) bytes zero d counted below = counted.0.within
last_bytes (l ∷ ls) bytes (suc k) d counted below =
    omega (
      arith,
      last_bytes ls (drop l.bytes bytes) k d counted.1 (omega arith),
      length-drop l.bytes bytes,
    )
