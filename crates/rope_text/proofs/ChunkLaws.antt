-- The conversions in a text of many parts: each index is in one part. A part is a chunk, or the
-- text of a subtree.
use Rattle.std.proofs.Common.{◌≡◌, ℕ, zero, suc, ◌+◌, ◌-◌, ◌<◌, ◌≤◌, false, List, [], ◌∷◌, ◌++◌, length, take, drop, get_or, map, refl, ap, sym, ◌∙◌, arith, append_assoc, All, inl, inr}
use Rattle.std.specs.List.{concat, flat_map, slice_range}
use Rattle.std.proofs.lemmas.List.{append-nil, take_at, drop_at, take_all, length-drop}
use Rattle.std.proofs.lemmas.Bool.{cases_lt}
use Rattle.std.proofs.lemmas.List.Elements.{All-tail}
use Rattle.std.proofs.Math.Bool.{and-false}
use Rattle.rope_text.specs.declared.line_breaks.LineBreaks.{LineBreaks}
use Rattle.rope_text.specs.Text.{byte_len, utf16_len}
use Rattle.rope_text.specs.Breaks.{begins_with_lf, ends_in_cr, break_count}
use Rattle.rope_text.specs.Lines.{line_start}
use Rattle.rope_text.specs.Conversions.{byte_to_char, utf16_to_char, char_to_line, byte_to_line}
use Rattle.rope_text.specs.Cutting.{parts_crlf, KeepsCrlf, clip, cons_nonempty}
use Rattle.rope_text.proofs.ClipLaws.{concat-clip, slice_range_past, slice_range_empty}
use Rattle.rope_text.proofs.CuttingLaws.{concat-append, parts_crlf-append, begins_with_lf-take}
use Rattle.rope_text.proofs.JoinLaws.{byte_to_char-append_left, byte_to_char-append_right, utf16_to_char-append_left, utf16_to_char-append_right, char_to_line-append_left, char_to_line-append_right, line_start-append_left, line_start-append_right, byte_to_line-append_left, byte_to_line-append_right}

-- the text before a part, and the text after it
abbrev pub before : List (List ℕ) → ℕ → List ℕ
before parts k = concat (take k parts)

abbrev pub after : List (List ℕ) → ℕ → List ℕ
after parts k = concat (drop (suc k) parts)

pub concat_at : (parts : List (List ℕ)) (k : ℕ) → k < length parts
    → concat parts ≡ before parts k ++ (get_or parts k [] ++ after parts k)
concat_at [] k l = absurd (omega arith)
concat_at (x ∷ parts) zero l = refl
concat_at (x ∷ parts) (suc k) l = ap (λ t. x ++ t) (concat_at parts k (omega arith))
    ∙ sym (append_assoc x (before parts k) (get_or parts k [] ++ after parts k))

pub before_more : (parts : List (List ℕ)) (k : ℕ) → k < length parts
    → before parts (suc k) ≡ before parts k ++ get_or parts k []
before_more [] k l = absurd (omega arith)
before_more (x ∷ parts) zero l = append-nil x
before_more (x ∷ parts) (suc k) l = ap (λ t. x ++ t) (before_more parts k (omega arith))
    ∙ sym (append_assoc x (before parts k) (get_or parts k []))

-- no CRLF is cut before a part, or after it
pub KeepsCrlf_before : (parts : List (List ℕ)) (k : ℕ) → All (λ part. 0 < length part) parts
    → KeepsCrlf parts → parts_crlf (before parts k) (concat (drop k parts)) ≡ false
KeepsCrlf_before parts zero full kept = refl
KeepsCrlf_before [] (suc k) full kept = refl
KeepsCrlf_before (x ∷ parts) (suc zero) full kept =
    ap (λ t. parts_crlf t (concat parts)) (append-nil x) ∙ kept.0
KeepsCrlf_before (x ∷ []) (suc (suc k)) full kept = ap (λ t. parts_crlf t []) (append-nil x)
    ∙ kept.0
KeepsCrlf_before (x ∷ [] ∷ parts) (suc (suc k)) full kept =
    absurd (omega (arith, full 1 [] (omega arith)))
KeepsCrlf_before (x ∷ (c ∷ y) ∷ parts) (suc (suc k)) full kept =
    parts_crlf-append x c (y ++ before parts k) (concat (drop k parts))
    ∙ KeepsCrlf_before ((c ∷ y) ∷ parts) (suc k)
    (All-tail (λ part. 0 < length part) x ((c ∷ y) ∷ parts) full) kept.1

pub KeepsCrlf_at : (parts : List (List ℕ)) (k : ℕ) → k < length parts → KeepsCrlf parts
    → parts_crlf (get_or parts k []) (after parts k) ≡ false
KeepsCrlf_at [] k l kept = absurd (omega arith)
KeepsCrlf_at (x ∷ parts) zero l kept = kept.0
KeepsCrlf_at (x ∷ parts) (suc k) l kept = KeepsCrlf_at parts k (omega arith) kept.1

concat-drop : (parts : List (List ℕ)) (k : ℕ) → k < length parts
    → concat (drop k parts) ≡ get_or parts k [] ++ after parts k
concat-drop [] k l = absurd (omega arith)
concat-drop (x ∷ parts) zero l = refl
concat-drop (x ∷ parts) (suc k) l = concat-drop parts k (omega arith)

-- a byte, a code unit, of the k-th part
pub byte_to_char_at : (parts : List (List ℕ)) (k b : ℕ) → k < length parts
    → byte_len (before parts k) ≤ b → b - byte_len (before parts k) < byte_len (get_or parts k [])
    → byte_to_char (concat parts) b ≡ length (before parts k) + byte_to_char (get_or parts k [])
    (b - byte_len (before parts k))
byte_to_char_at parts k b l past less =
    ap (λ t. byte_to_char t b) (concat_at parts k l)
    ∙ byte_to_char-append_right (before parts k) (get_or parts k [] ++ after parts k) b past
    ∙ ap (λ n. length (before parts k) + n)
    (byte_to_char-append_left (get_or parts k []) (after parts k) (b - byte_len (before parts k))
    less)

pub utf16_to_char_at : (parts : List (List ℕ)) (k u : ℕ) → k < length parts
    → utf16_len (before parts k) ≤ u
    → u - utf16_len (before parts k) < utf16_len (get_or parts k [])
    → utf16_to_char (concat parts) u ≡ length (before parts k) + utf16_to_char (get_or parts k [])
    (u - utf16_len (before parts k))
utf16_to_char_at parts k u l past less =
    ap (λ t. utf16_to_char t u) (concat_at parts k l)
    ∙ utf16_to_char-append_right (before parts k) (get_or parts k [] ++ after parts k) u past
    ∙ ap (λ n. length (before parts k) + n)
    (utf16_to_char-append_left (get_or parts k []) (after parts k) (u - utf16_len (before parts k))
    less)

-- where no CRLF is cut: the line of a character or a byte, and the start of a line, of the k-th
-- part
module _ (breaks : LineBreaks) (parts : List (List ℕ)) (k : ℕ) (l : k < length parts)
    (full : All (λ part. 0 < length part) parts) (kept : KeepsCrlf parts) where
  apart : parts_crlf (before parts k) (get_or parts k [] ++ after parts k) ≡ false
  apart = ap (parts_crlf (before parts k)) (sym (concat-drop parts k l))
      ∙ KeepsCrlf_before parts k full kept

  pub char_to_line_at : (i : ℕ) → length (before parts k) ≤ i
      → i - length (before parts k) ≤ length (get_or parts k [])
      → char_to_line breaks (concat parts) i ≡ break_count breaks (before parts k) + char_to_line
      breaks (get_or parts k []) (i - length (before parts k))
  char_to_line_at i past within =
      ap (λ t. char_to_line breaks t i) (concat_at parts k l)
      ∙ char_to_line-append_right breaks (before parts k) (get_or parts k [] ++ after parts k) i
      apart past
      ∙ ap (λ n. break_count breaks (before parts k) + n)
      (char_to_line-append_left breaks (get_or parts k []) (after parts k)
      (i - length (before parts k)) (KeepsCrlf_at parts k l kept) within)

  pub byte_to_line_at : (b : ℕ) → byte_len (before parts k) ≤ b
      → b - byte_len (before parts k) < byte_len (get_or parts k [])
      → byte_to_line breaks (concat parts) b ≡ break_count breaks (before parts k) + byte_to_line
      breaks (get_or parts k []) (b - byte_len (before parts k))
  byte_to_line_at b past less =
      ap (λ t. byte_to_line breaks t b) (concat_at parts k l)
      ∙ byte_to_line-append_right breaks (before parts k) (get_or parts k [] ++ after parts k) b
      apart past
      ∙ ap (λ n. break_count breaks (before parts k) + n)
      (byte_to_line-append_left breaks (get_or parts k []) (after parts k)
      (b - byte_len (before parts k)) (KeepsCrlf_at parts k l kept) less)

  pub line_start_at : (n : ℕ) → break_count breaks (before parts k) < n
      → n - break_count breaks (before parts k) ≤ break_count breaks (get_or parts k [])
      → line_start breaks (concat parts) n ≡ length (before parts k) + line_start breaks
      (get_or parts k []) (n - break_count breaks (before parts k))
  line_start_at n past within =
      ap (λ t. line_start breaks t n) (concat_at parts k l)
      ∙ line_start-append_right breaks (before parts k) (get_or parts k [] ++ after parts k) n apart
      past
      ∙ ap (λ m. length (before parts k) + m)
      (line_start-append_left breaks (get_or parts k []) (after parts k)
      (n - break_count breaks (before parts k)) (KeepsCrlf_at parts k l kept) within)

-- a cutting's front and back keep their pairs, and none is cut between them
pub KeepsCrlf-right : (p q : List (List ℕ)) → KeepsCrlf (p ++ q) → KeepsCrlf q
KeepsCrlf-right [] q kept = kept
KeepsCrlf-right (x ∷ p) q kept = KeepsCrlf-right p q kept.1

pub KeepsCrlf_seam : (p q : List (List ℕ)) → All (λ part. 0 < length part) (p ++ q)
    → KeepsCrlf (p ++ q) → parts_crlf (concat p) (concat q) ≡ false
KeepsCrlf_seam p q full kept =
    let seam = KeepsCrlf_before (p ++ q) (length p) full kept in
    rw (take_at p q (length p) refl, drop_at p q (length p) refl) at seam

pub KeepsCrlf-left : (p q : List (List ℕ)) → All (λ part. 0 < length part) (p ++ q)
    → KeepsCrlf (p ++ q) → KeepsCrlf p
KeepsCrlf-left [] q full kept = tt
KeepsCrlf-left (x ∷ []) q full kept = (and-false (ends_in_cr x), tt)
KeepsCrlf-left (x ∷ [] ∷ p) q full kept = absurd (omega (arith, full 1 [] (omega arith)))
KeepsCrlf-left (x ∷ (c ∷ y) ∷ p) q full kept = (
  kept.0,
  KeepsCrlf-left ((c ∷ y) ∷ p) q
      (All-tail (λ part. 0 < length part) x ((c ∷ y) ∷ (p ++ q)) full) kept.1,
)

-- the texts of groups of chunks, as the subtrees of a node
pub concat-groups : (groups : List (List (List ℕ)))
    → concat (map concat groups) ≡ concat (flat_map (λ g. g) groups)
concat-groups [] = refl
concat-groups (g ∷ groups) = ap (λ t. concat g ++ t) (concat-groups groups)
    ∙ sym (concat-append g (flat_map (λ g. g) groups))

pub KeepsCrlf-groups : (groups : List (List (List ℕ)))
    → All (λ part. 0 < length part) (flat_map (λ g. g) groups)
    → KeepsCrlf (flat_map (λ g. g) groups) → KeepsCrlf (map concat groups)
KeepsCrlf-groups [] full kept = tt
KeepsCrlf-groups (g ∷ groups) full kept =
    let rest = flat_map (λ g. g) groups in (
      ap (parts_crlf (concat g)) (concat-groups groups) ∙ KeepsCrlf_seam g rest full kept,
      KeepsCrlf-groups groups (All-right g rest full) (KeepsCrlf-right g rest kept),
    )
  where
    All-right : (p q : List (List ℕ)) → All (λ part. 0 < length part) (p ++ q)
        → All (λ part. 0 < length part) q
    All-right [] q full = full
    All-right (x ∷ p) q full = All-right p q (All-tail (λ part. 0 < length part) x (p ++ q) full)

-- a slice keeps the CR LF pairs inside it
ends_in_cr-drop : (a : ℕ) (xs : List ℕ) → a < length xs → ends_in_cr (drop a xs) ≡ ends_in_cr xs
ends_in_cr-drop zero xs l = refl
ends_in_cr-drop (suc a) [] l = absurd (omega arith)
ends_in_cr-drop (suc a) (x ∷ []) l = absurd (omega arith)
ends_in_cr-drop (suc a) (x ∷ y ∷ xs) l = ends_in_cr-drop a (y ∷ xs) (omega arith)

pub KeepsCrlf-clip : (chunks : List (List ℕ)) (a b : ℕ) → KeepsCrlf chunks
    → KeepsCrlf (clip chunks a b)
KeepsCrlf-clip [] a b kept = tt
KeepsCrlf-clip (chunk ∷ chunks) a b kept =
    go (slice_range chunk a b) refl
    (KeepsCrlf-clip chunks (a - length chunk) (b - length chunk) kept.1)
  where
    apart_after : (x : ℕ) (part : List ℕ) → slice_range chunk a b ≡ x ∷ part
        → parts_crlf (x ∷ part) (slice_range (concat chunks) (a - length chunk) (b - length chunk))
        ≡ false
    apart_after x part e = elim (cases_lt a (length chunk)) [
      | inr past ↦ absurd (let none = slice_range_past chunk a b past in cc)
      | inl inside ↦ elim (cases_lt (length chunk) b) [
        | inr within ↦ rw (slice_range_empty (concat chunks) (a - length chunk) (b - length chunk)
            (omega arith)) (and-false (ends_in_cr (x ∷ part)))
        | inl over ↦
            let whole : slice_range chunk a b ≡ drop a chunk =
            take_all (b - a) (drop a chunk) (omega (arith, length-drop a chunk)) in
            let start : a - length chunk ≡ 0 = omega arith in
            let ends : ends_in_cr (x ∷ part) ≡ ends_in_cr chunk = ap ends_in_cr (sym e ∙ whole)
            ∙ ends_in_cr-drop a chunk inside in
            let begins : begins_with_lf
            (slice_range (concat chunks) (a - length chunk) (b - length chunk))
            ≡ begins_with_lf (concat chunks) =
            rw start (begins_with_lf-take ((b - length chunk) - 0) (concat chunks) (omega arith)) in
            rw (ends, begins) kept.0
      ]
    ]

    go : (part : List ℕ) → slice_range chunk a b ≡ part
        → KeepsCrlf (clip chunks (a - length chunk) (b - length chunk))
        → KeepsCrlf (cons_nonempty part (clip chunks (a - length chunk) (b - length chunk)))
    go [] e rest = rest
    go (x ∷ part) e rest = (
      ap (parts_crlf (x ∷ part)) (concat-clip chunks (a - length chunk) (b - length chunk))
          ∙ apart_after x part e,
      rest,
    )
