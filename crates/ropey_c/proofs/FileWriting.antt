-- A file that is written.
use Rattle.std.proofs.Common.{◌≡◌, ℕ, ◌+◌, ◌-◌, ◌*◌, ◌/◌, ◌%◌, ◌<◌, ◌≤◌, cond, Bool, true, false, nat_le, List, [], ◌∷◌, ◌++◌, length, take, drop, refl, sym, ap, ◌∙◌, append_assoc, arith, inl, inr, Option, None, Some}
use Rattle.std.proofs.Math.Seq.{take-append_seam, drop-append_seam}
use Rattle.std.proofs.lemmas.Bool.{cases_lt, lt-ltb, le-ltb, lt-leb, le-leb, ltb-false}
use Rattle.std.proofs.lemmas.Grind.{flat_map-append}
use Rattle.std.proofs.lemmas.List.{append-nil, length-append, length-drop, drop-drop}
use Rattle.std.proofs.lemmas.List.Sums.{sum_by-cons}
use Rattle.std.specs.Char.Escape.{encode_utf16}
use Rattle.std.specs.List.{flat_map}
use Rattle.rope_text.specs.Text.{surrogate_count, utf16_len}
use Rattle.rope_files.specs.Encodings.{encode, mark_of, encode_unmarked, encode_latin1, low_first, high_first}
use Rattle.rope_files.specs.declared.encoding.Encoding.{Encoding}
use Rattle.rope_files.specs.declared.encoding.Encoding.TheVariants.{Utf8, Utf8Bom, Utf16Le, Utf16LeBom, Utf16Be, Utf16BeBom, Latin1}
use Rattle.rope_files.specs.Writing.{first_above, unencodable}
use Rattle.ropey_c.specs.Files.{body_len, spelled}
use Rattle.ropey_c.proofs.Copying.{more_written}

-- the bytes of a text are those of its characters
pub spelled_text : (e : Encoding) (text : List ℕ)
    → encode_unmarked e text ≡ flat_map (spelled e) text
spelled_text Utf8 text = refl
spelled_text Utf8Bom text = refl
spelled_text Utf16Le text = refl
spelled_text Utf16LeBom text = refl
spelled_text Utf16Be text = refl
spelled_text Utf16BeBom text = refl
spelled_text Latin1 text = refl

-- a character has one code unit, or two from U+10000 on
module _ (f : ℕ → List ℕ) (two : (u : ℕ) → length (f u) ≡ 2) where
  char_units : (c : ℕ)
      → length (flat_map f (encode_utf16 c)) ≡ 2 * (1 + cond (nat_le 0x1_0000 c) 1 0)
  char_units c = elim (cases_lt c 0x1_0000) [
    | inl low ↦
        rw (lt-ltb c 0x1_0000 low, lt-leb 0x1_0000 c low)
        (ap length (append-nil (f c)) ∙ two c)
    | inr high ↦
        let first : ℕ = 0xD800 + (c - 0x1_0000) / 0x400 in
        let second : ℕ = 0xDC00 + (c - 0x1_0000) % 0x400 in
        rw (le-ltb c 0x1_0000 high, le-leb 0x1_0000 c high) (omega (
          arith,
          length-append (f first) (f second ++ []),
          length-append (f second) [],
          two first,
          two second,
        ))
  ]

  units_length : (text : List ℕ)
      → length (flat_map (λ c. flat_map f (encode_utf16 c)) text) ≡ 2 * utf16_len text
  units_length [] = omega arith
  units_length (c ∷ text) =
      let rest : List ℕ = flat_map (λ d. flat_map f (encode_utf16 d)) text in
      let pairs : surrogate_count (c ∷ text)
      ≡ cond (nat_le 0x1_0000 c) 1 0 + surrogate_count text =
      sum_by-cons (λ d. cond (nat_le 0x1_0000 d) 1 0) c text in
      let parts : length (flat_map (λ d. flat_map f (encode_utf16 d)) (c ∷ text))
      ≡ length (flat_map f (encode_utf16 c)) + length rest =
      length-append (flat_map f (encode_utf16 c)) rest in
      omega (
        arith,
        parts,
        pairs,
        char_units c,
        units_length text,
      )

latin1_length : (text : List ℕ) → length (encode_latin1 text) ≡ length text
latin1_length [] = refl
latin1_length (c ∷ text) = omega (arith, latin1_length text)

body_length : (e : Encoding) (text : List ℕ) → length (encode_unmarked e text) ≡ body_len e text
body_length Utf8 text = refl
body_length Utf8Bom text = refl
body_length Utf16Le text = units_length low_first (λ u. refl) text
body_length Utf16LeBom text = units_length low_first (λ u. refl) text
body_length Utf16Be text = units_length high_first (λ u. refl) text
body_length Utf16BeBom text = units_length high_first (λ u. refl) text
body_length Latin1 text = latin1_length text

pub file_length : (e : Encoding) (text : List ℕ)
    → length (encode e text) ≡ length (mark_of e) + body_len e text
file_length e text = length-append (mark_of e) (encode_unmarked e text)
    ∙ ap (λ n. length (mark_of e) + n) (body_length e text)

-- the bytes of the characters before those ahead have been written over the front of the buffer
pub record IsSpelled (e : Encoding) (old now text ahead : List ℕ) (at : ℕ) : Type 0 where
  pub before : List ℕ
  pub whole : text ≡ before ++ ahead
  pub place : at ≡ length (encode_unmarked e before)
  pub written : now ≡ encode_unmarked e before ++ drop (length (encode_unmarked e before)) old

spelled_more : (e : Encoding) (before : List ℕ) (c : ℕ)
    → encode_unmarked e (before ++ c ∷ []) ≡ encode_unmarked e before ++ spelled e c
spelled_more e before c = spelled_text e (before ++ c ∷ [])
    ∙ flat_map-append (spelled e) before (c ∷ [])
    ∙ ap (λ xs. xs ++ (spelled e c ++ [])) (sym (spelled_text e before))
    ∙ ap (λ xs. encode_unmarked e before ++ xs) (append-nil (spelled e c))

spelled_parts : (e : Encoding) (front back : List ℕ)
    → encode_unmarked e (front ++ back) ≡ encode_unmarked e front ++ encode_unmarked e back
spelled_parts e front back = spelled_text e (front ++ back)
    ∙ flat_map-append (spelled e) front back
    ∙ ap (λ xs. xs ++ flat_map (spelled e) back) (sym (spelled_text e front))
    ∙ ap (λ xs. encode_unmarked e front ++ xs) (sym (spelled_text e back))

pub spelling_begins : (e : Encoding) (old text : List ℕ) → IsSpelled e old old text text 0
spelling_begins e old text = record {
  before = [];
  whole = refl;
  place = ap length (sym (spelled_text e []));
  written = ap (λ xs. xs ++ drop (length xs) old) (sym (spelled_text e []));
}

module _ (e : Encoding) (old now text ahead : List ℕ) (at : ℕ)
    (i : IsSpelled e old now text ahead at) (c : ℕ) (more : List ℕ) (next : ahead ≡ c ∷ more) where
  abbrev done : List ℕ
  done = encode_unmarked e i.before

  whole : text ≡ (i.before ++ c ∷ []) ++ more
  whole = i.whole ∙ ap (λ xs. i.before ++ xs) next ∙ sym (append_assoc i.before (c ∷ []) more)

  -- there is room for the next character
  pub next_fits : length (encode_unmarked e text) ≤ length old
      → at + length (spelled e c) ≤ length now
  next_fits room = omega (
    arith,
    i.place,
    room,
    ap length i.written ∙ length-append done (drop (length done) old),
    length-drop (length done) old,
    ap (λ xs. length (encode_unmarked e xs)) whole
        ∙ ap length (spelled_parts e (i.before ++ c ∷ []) more)
        ∙ length-append (encode_unmarked e (i.before ++ c ∷ [])) (encode_unmarked e more),
    ap length (spelled_more e i.before c) ∙ length-append done (spelled e c),
  )

  -- and it was written
  pub next_spelled : (new : List ℕ)
      → new ≡ take at now ++ spelled e c ++ drop (at + length (spelled e c)) now
      → IsSpelled e old new text more (at + length (spelled e c))
  next_spelled new is = record {
    before = i.before ++ c ∷ [];
    whole = whole;
    place = ap (λ n. n + length (spelled e c)) i.place
        ∙ sym (ap length (spelled_more e i.before c) ∙ length-append done (spelled e c));
    written = is
        ∙ ap (λ n. take n now ++ spelled e c ++ drop (n + length (spelled e c)) now) i.place
        ∙ ap (λ b. take (length done) b ++ spelled e c
        ++ drop (length done + length (spelled e c)) b) i.written
        ∙ more_written done (spelled e c) old
        ∙ ap (λ xs. xs ++ drop (length xs) old) (sym (spelled_more e i.before c));
  }

-- all of it
pub all_spelled : (e : Encoding) (old now text ahead : List ℕ) (at : ℕ)
    → IsSpelled e old now text ahead at → ahead ≡ []
    → now ≡ encode_unmarked e text ++ drop (length (encode_unmarked e text)) old
all_spelled e old now text ahead at i none = i.written
    ∙ ap (λ t. encode_unmarked e t ++ drop (length (encode_unmarked e t)) old)
    (sym (i.whole ∙ ap (λ r. i.before ++ r) none ∙ append-nil i.before))

-- Latin-1 has the characters ahead
pub record CanSpell (ahead : List ℕ) : Type 0 where
  pub index : ℕ
  pub can : first_above index ahead ≡ None

first_narrow : (i : ℕ) (b : Bool) (rest : Option ℕ) → cond b (Some i) rest ≡ None → (b ≡ false)
    × (rest ≡ None)
first_narrow i false rest e = (refl, e)
first_narrow i true rest e = cc

pub can_first : (ahead : List ℕ) (c : ℕ) (more : List ℕ) → ahead ≡ c ∷ more → CanSpell ahead
    → c < 0x100
can_first ahead c more next h =
    let can : first_above h.index (c ∷ more) ≡ None = ap (first_above h.index) (sym next) ∙ h.can in
    omega (arith, ltb-false 0xFF c (first_narrow h.index _ _ can).0)

pub can_rest : (ahead : List ℕ) (c : ℕ) (more : List ℕ) → ahead ≡ c ∷ more → CanSpell ahead
    → CanSpell more
can_rest ahead c more next h =
    let can : first_above h.index (c ∷ more) ≡ None = ap (first_above h.index) (sym next) ∙ h.can in
    record { index = h.index + 1; can = (first_narrow h.index _ _ can).1 }

pub can_all : (e : Encoding) (text : List ℕ) → unencodable e text ≡ None → e ≡ Latin1
    → CanSpell text
can_all e text none is = record { index = 0; can = ap (λ x. unencodable x text) (sym is) ∙ none }

-- the file is the mark, and the text after it
pub file_filled : (e : Encoding) (text old front after : List ℕ)
    → length (mark_of e) ≤ length old
    → front ≡ take 0 old ++ mark_of e ++ drop (0 + length (mark_of e)) old
    → after ≡ encode_unmarked e text
    ++ drop (length (encode_unmarked e text)) (drop (length (mark_of e)) front)
    → take (length (mark_of e)) front ++ after ≡ encode e text ++ drop (length (encode e text)) old
file_filled e text old front after room marked filled =
    let m : List ℕ = mark_of e in
    let body : List ℕ = encode_unmarked e text in
    let is : front ≡ m ++ drop (length m) old = marked
    ∙ ap (λ n. m ++ drop n old) (omega arith) in
    let rest : drop (length m) front ≡ drop (length m) old =
    ap (drop (length m)) is ∙ drop-append_seam m (drop (length m) old) in
    let first : take (length m) front ≡ m =
    ap (take (length m)) is ∙ take-append_seam m (drop (length m) old) in
    ap (λ xs. xs ++ after) first
    ∙ ap (λ xs. m ++ xs) (filled ∙ ap (λ xs. body ++ drop (length body) xs) rest
    ∙ ap (λ xs. body ++ xs) (drop-drop (length body) (length m) old))
    ∙ sym (append_assoc m body (drop (length m + length body) old))
    ∙ ap (λ n. encode e text ++ drop n old) (sym (length-append m body))
