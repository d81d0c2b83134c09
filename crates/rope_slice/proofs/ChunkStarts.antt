-- Where a cursor over chunks starts.
use Rattle.std.proofs.Common.{◌≡◌, ℕ, suc, ◌+◌, ◌-◌, ◌<◌, ◌≤◌, ◌==◌, true, false, List, [], ◌∷◌, ◌++◌, length, get_or, refl, sym, ap, ◌∙◌, arith, inl, inr, All, append_assoc, subst}
use Rattle.std.specs.Prelude.{if◌then◌else◌, take, drop}
use Rattle.std.specs.List.{concat}
use Rattle.std.proofs.lemmas.Bool.Decides.{nat_tests}
use Rattle.std.proofs.lemmas.Bool.{cases_eq, cases_lt}
use Rattle.std.proofs.lemmas.List.{length-append, nil_from_length, take_at, take_all, take-append-drop}
use Rattle.std.proofs.lemmas.Str.{length-le-encodes}
use Rattle.std.proofs.Math.Seq.{get_or-append_seam}
use Rattle.rope_text.specs.declared.line_breaks.LineBreaks.{LineBreaks}
use Rattle.rope_text.specs.declared.text_info.TextInfo.{TextInfo}
use Rattle.rope_text.specs.TextInfo.{info_of}
use Rattle.rope_text.specs.Text.{byte_len}
use Rattle.rope_text.specs.Breaks.{break_count}
use Rattle.rope_text.specs.Cutting.{IsCutting}
use Rattle.rope_text.specs.Lookup.{StandsAt, LieBefore, found_chunk, front_chunks, chunk_index_at_byte, chunk_index_at_char, chunk_index_at_line_break, chunk_place_at_char, chunk_place_at_line_break}
use Rattle.rope_text.proofs.SidesPlaces.{sides_at}
use Rattle.rope_text.proofs.ConversionLaws.{char_to_line_end}
use Rattle.rope_slice.specs.Chunks.{at_chunk}
use Rattle.rope_text.proofs.CuttingLaws.{concat-append}
use Rattle.rope_text.proofs.ChunkLaws.{before_more}
use Rattle.rope_text.proofs.LookupLaws.{chunk_index_at_byte_is, chunk_index_at_char_is, chunk_index_at_line_break-le}
use Rattle.rope_text.specs.Lines.{line_count}
use Rattle.rope_text.proofs.LineLaws.{line_start_first}
use Rattle.rope_text.proofs.Measures.{IsMeasure-byte_len}
use Rattle.rope_text.proofs.Apart.{some_char}
use Rattle.rope_text.specs.Conversions.{char_to_line}
use Rattle.rope_leaf.specs.declared.search.Unit.{Unit}
use Rattle.rope_leaf.specs.declared.search.Unit.TheVariants.{Byte, Char, CodeUnit, LineBreak}
use Rattle.rope_leaf.specs.Search.{count_of}
use Rattle.rope_slice.specs.Starts.{AreBefore, IsItem, size_in, chunk_place}
use Rattle.rope_slice.proofs.ClippedChunks.{front_less}
use Rattle.rope_slice.proofs.FoundChunks.{first_index, line_break_index}
use Rattle.rope_slice.specs.Path.{Place, leaves}

no_chunks : (chunks : List (List ℕ)) → All (λ chunk. 0 < length chunk) chunks
    → length (concat chunks) ≡ 0 → length chunks ≡ 0
no_chunks [] full none = refl
no_chunks (chunk ∷ chunks) full none =
    absurd (omega (arith, full 0 [] (omega arith), length-append chunk (concat chunks)))

module _ (p : Place) (chunks : List (List ℕ)) (same : leaves p ≡ chunks)
    (full : All (λ chunk. 0 < length chunk) chunks) where
  front_here : front_chunks chunks (length p.before) ≡ concat p.before
  front_here = ap (λ ls. front_chunks ls (length p.before)) (sym same)
      ∙ ap concat (take_at p.before (p.here ∷ p.after) (length p.before) refl)

  within_here : length p.before < length chunks
  within_here = omega (arith, ap length same, length-append p.before (p.here ∷ p.after))

  chunk_here : get_or chunks (length p.before) [] ≡ p.here
  chunk_here = ap (λ ls. get_or ls (length p.before) []) (sym same)
      ∙ get_or-append_seam p.before p.here p.after []

  upto_here : front_chunks chunks (suc (length p.before)) ≡ concat p.before ++ p.here
  upto_here = before_more chunks (length p.before) within_here
      ∙ ap (λ x. x ++ get_or chunks (length p.before) []) front_here
      ∙ ap (λ x. concat p.before ++ x) chunk_here

  -- the chunk that has the end of the text is the last
  pub last_place : (at : ℕ) → at ≤ length p.here
      → length (concat p.before) + at ≡ length (concat chunks)
      → length (p.before ++ p.here ∷ []) ≡ length chunks
  last_place at inside e = elim (cases_lt (suc (length p.before)) (length chunks)) [
    | inl more ↦ absurd (omega (
      arith,
      front_less chunks (length p.before) full more,
      ap length upto_here,
      length-append (concat p.before) p.here,
    ))
    | inr last ↦ omega (arith, within_here, length-append p.before (p.here ∷ []))
  ]

  -- the chunk holds the character, or the byte
  pub index_of_char : (i : ℕ) → length (concat p.before) ≤ i
      → i < length (concat p.before) + length p.here
      → chunk_index_at_char chunks i ≡ length p.before
  index_of_char i low high =
      chunk_index_at_char_is chunks i (length p.before) within_here
      (omega (arith, ap length front_here))
      (λ _. omega (arith, ap length upto_here, length-append (concat p.before) p.here))

  pub index_of_byte : (b : ℕ) → byte_len (concat p.before) ≤ b
      → b < byte_len (concat p.before) + byte_len p.here
      → chunk_index_at_byte chunks b ≡ length p.before
  index_of_byte b low high =
      chunk_index_at_byte_is chunks b (length p.before) within_here
      (omega (arith, ap byte_len front_here))
      (λ _. omega (
        arith,
        ap byte_len upto_here,
        IsMeasure-byte_len.joined (concat p.before) p.here,
      ))

-- a text with a character has a chunk, and the first one has one
some_chunk : (chunks : List (List ℕ)) → 0 < length (concat chunks) → 0 < length chunks
some_chunk [] some = absurd (omega arith)
some_chunk (chunk ∷ chunks) some = omega arith

first_full : (chunks : List (List ℕ)) → All (λ chunk. 0 < length chunk) chunks
    → 0 < length (concat chunks) → 0 < length (front_chunks chunks 1)
first_full [] full some = absurd (omega arith)
first_full (chunk ∷ chunks) full some =
    omega (arith, full 0 [] (omega arith), length-append chunk [])

-- a chunk that has the last byte has the last character
pub ends_by_bytes : (p : Place) (text : List ℕ) → concat (leaves p) ≡ text
    → byte_len text ≤ byte_len (concat p.before) + byte_len p.here
    → length text ≤ length (concat p.before) + length p.here
ends_by_bytes p text whole le =
    let parts : text ≡ concat p.before ++ (p.here ++ concat p.after) = sym whole
    ∙ concat-append p.before (p.here ∷ p.after) in
    omega (
      arith,
      ap byte_len parts,
      IsMeasure-byte_len.joined (concat p.before) (p.here ++ concat p.after),
      IsMeasure-byte_len.joined p.here (concat p.after),
      length-le-encodes (concat p.after),
      ap length parts,
      length-append (concat p.before) (p.here ++ concat p.after),
      length-append p.here (concat p.after),
    )

-- the counts of the whole text are before its end
all_before : (breaks : LineBreaks) (chunks : List (List ℕ)) (bytes chars count : ℕ)
    → bytes ≡ byte_len (concat chunks) → chars ≡ length (concat chunks)
    → count ≡ break_count breaks (concat chunks)
    → LieBefore (found_chunk breaks chunks (length chunks)) bytes chars count
unfolding found_chunk
all_before breaks chunks bytes chars count b c l =
    let all : front_chunks chunks (length chunks) ≡ concat chunks =
    ap concat (take_all (length chunks) chunks (omega arith)) in
    rw all (record {
      bytes_are = b;
      chars_are = c;
      count_is = l ∙ sym (char_to_line_end breaks (concat chunks));
    })

-- before the end of the text the cursor starts at the chunk found
pub place_inside : (chunks : List (List ℕ)) (i n k : ℕ) → (i ≡ n → ⊥)
    → (if i == n then length chunks else k) ≡ k
place_inside chunks i n k other =
    let e : (i == n) ≡ false = grind (arith, nat_tests) in
    rw e refl

-- and at the end it is past the last chunk
pub place_at_end : (chunks : List (List ℕ)) (i n k : ℕ) → i ≡ n
    → (if i == n then length chunks else k) ≡ length chunks
place_at_end chunks i n k at_end =
    let e : (i == n) ≡ true = grind (arith, nat_tests) in
    rw e refl

-- the first character is in the first chunk
pub first_place : (text : List ℕ) (chunks : List (List ℕ)) → IsCutting text chunks
    → chunk_place_at_char chunks 0 ≡ 0
first_place text chunks cut = elim (cases_eq 0 (length (concat chunks))) [
  | inl none ↦ place_at_end chunks 0 (length (concat chunks)) _ none
      ∙ no_chunks chunks cut.nonempty (sym none)
  | inr some ↦
      place_inside chunks 0 (length (concat chunks)) _ some
      ∙ chunk_index_at_char_is chunks 0 0 (some_chunk chunks (omega (arith, some))) (omega arith)
      (λ _. first_full chunks cut.nonempty (omega (arith, some)))
]

-- a cursor that starts at a chunk, or past the last
module _ (breaks : LineBreaks) (p : Place) (text : List ℕ) (chunks : List (List ℕ))
    (cut : IsCutting text chunks) (whole : concat (leaves p) ≡ text) (same : 0 < length text
    → leaves p ≡ chunks)
    (info : TextInfo) (info_is : info ≡ info_of breaks text) where
  all_chars : info.chars ≡ length text
  all_chars = ap (λ i. i.chars) info_is

  pub stands_before : (k bytes chars count : ℕ) → 0 < length text → k ≡ length p.before
      → AreBefore breaks text p.before bytes chars count
      → StandsAt breaks chunks k (at_chunk p (info.chars == 0) false false) bytes chars count
  unfolding found_chunk
  stands_before k bytes chars count some here a =
      let other : (info.chars == 0) ≡ false = grind (arith, nat_tests, all_chars) in
      let parts = same some in
      let front : concat p.before ≡ front_chunks chunks k =
      sym (ap (front_chunks chunks) here ∙ front_here p chunks parts cut.nonempty) in
      rw other record {
        cursor_is =
            sides_at (record { left = p.before; right = p.here ∷ p.after; is_backward = false })
            chunks k parts (sym here) refl;
        before = record {
          bytes_are = a.bytes_are ∙ ap byte_len front;
          chars_are = a.chars_are ∙ ap length front;
          count_is = a.count_is ∙ ap (char_to_line breaks text) (a.chars_are ∙ ap length front)
              ∙ ap (λ t. char_to_line breaks t (length (front_chunks chunks k))) (sym cut.joined);
        };
      }

  -- where the chunk has the end of the text
  stands_past : length text ≤ length (concat p.before) + length p.here
      → StandsAt breaks chunks (length chunks) (at_chunk p (info.chars == 0) true false) info.bytes
      info.chars info.break_count
  stands_past ends =
      let joined = sym cut.joined in
      let before = all_before breaks chunks info.bytes info.chars info.break_count
      (ap (λ i. i.bytes) info_is ∙ ap byte_len joined) (all_chars ∙ ap length joined)
      (ap (λ i. i.break_count) info_is ∙ ap (break_count breaks) joined) in
      elim (cases_eq info.chars 0) [
        | inl none ↦
            let empty : (info.chars == 0) ≡ true = grind (arith, nat_tests) in
            let no = nil_from_length chunks
            (no_chunks chunks cut.nonempty (omega (arith, all_chars, ap length cut.joined))) in
            rw empty record {
              cursor_is =
                  sides_at (record { left = []; right = []; is_backward = false }) chunks
                  (length chunks) (sym no) (sym (ap length no)) refl;
              before = before;
            }
        | inr some ↦
            let other : (info.chars == 0) ≡ false = grind (arith, nat_tests) in
            let parts = same (omega (arith, all_chars)) in
            let text_is = ap length (sym whole ∙ concat-append p.before (p.here ∷ p.after))
            ∙ length-append (concat p.before) (p.here ++ concat p.after) in
            rw other record {
              cursor_is =
                  sides_at (record {
                    left = p.before ++ p.here ∷ [];
                    right = p.after;
                    is_backward = false;
                  }) chunks (length chunks) (append_assoc p.before (p.here ∷ []) p.after ∙ parts)
                  (last_place p chunks parts cut.nonempty (length p.here) (omega arith)
                  (omega (
                    arith,
                    text_is,
                    ends,
                    length-append p.here (concat p.after),
                    ap length cut.joined,
                  ))) refl;
              before = before;
            }
      ]

  -- counted in bytes or in characters
  module _ (idx : ℕ) where
    pub size_is : (unit : Unit) → IsItem unit → count_of unit info ≡ size_in unit text
    size_is Byte i = ap (λ i. i.bytes) info_is
    size_is Char i = all_chars
    size_is CodeUnit i = absurd i
    size_is LineBreak i = absurd i

    pub starts_before : (unit : Unit) → IsItem unit → (bytes chars count : ℕ)
        → AreBefore breaks text p.before bytes chars count → idx < size_in unit text
        → size_in unit (concat p.before) ≤ idx
        → idx < size_in unit (concat p.before) + size_in unit p.here
        → StandsAt breaks chunks (chunk_place unit chunks idx)
        (at_chunk p (info.chars == 0) false false) bytes chars count
    starts_before Byte i bytes chars count a less low high =
        let some : 0 < length text = some_char text (omega arith) in
        let all : byte_len (concat chunks) ≡ byte_len text = ap byte_len cut.joined in
        let k : ℕ = chunk_index_at_byte chunks idx in
        subst (λ (n : ℕ). StandsAt breaks chunks n (at_chunk p (info.chars == 0) false false) bytes
        chars count)
        (sym (place_inside chunks idx (byte_len (concat chunks)) k
        (λ e. omega (arith, e, all, less))))
        (stands_before k bytes chars count some
        (index_of_byte p chunks (same some) cut.nonempty idx low high) a)
    starts_before Char i bytes chars count a less low high =
        let some : 0 < length text = omega arith in
        let all : length (concat chunks) ≡ length text = ap length cut.joined in
        let k : ℕ = chunk_index_at_char chunks idx in
        subst (λ (n : ℕ). StandsAt breaks chunks n (at_chunk p (info.chars == 0) false false) bytes
        chars count)
        (sym (place_inside chunks idx (length (concat chunks)) k
        (λ e. omega (arith, e, all, less))))
        (stands_before k bytes chars count some
        (index_of_char p chunks (same some) cut.nonempty idx low high) a)
    starts_before CodeUnit i bytes chars count a less low high = absurd i
    starts_before LineBreak i bytes chars count a less low high = absurd i

    pub starts_past : (unit : Unit) → IsItem unit → idx ≡ size_in unit text
        → idx ≤ size_in unit (concat p.before) + size_in unit p.here
        → StandsAt breaks chunks (chunk_place unit chunks idx)
        (at_chunk p (info.chars == 0) true false) info.bytes info.chars info.break_count
    starts_past Byte i at_end within =
        subst (λ (n : ℕ). StandsAt breaks chunks n (at_chunk p (info.chars == 0) true false)
        info.bytes info.chars info.break_count)
        (sym (place_at_end chunks idx (byte_len (concat chunks)) _ (at_end
        ∙ ap byte_len (sym cut.joined))))
        (stands_past (ends_by_bytes p text whole (omega arith)))
    starts_past Char i at_end within =
        subst (λ (n : ℕ). StandsAt breaks chunks n (at_chunk p (info.chars == 0) true false)
        info.bytes info.chars info.break_count)
        (sym (place_at_end chunks idx (length (concat chunks)) _ (at_end
        ∙ ap length (sym cut.joined))))
        (stands_past (omega arith))
    starts_past CodeUnit i at_end within = absurd i
    starts_past LineBreak i at_end within = absurd i

-- the first chunks have no more characters than all
pub front_le : (chunks : List (List ℕ)) (k : ℕ)
    → length (front_chunks chunks k) ≤ length (concat chunks)
front_le chunks k =
    let parts = ap concat (sym (take-append-drop k chunks))
    ∙ concat-append (take k chunks) (drop k chunks) in
    omega (arith, ap length parts, length-append (front_chunks chunks k) (concat (drop k chunks)))

-- the first character of a chunk is in that chunk
chunk_start_place : (chunks : List (List ℕ)) → All (λ chunk. 0 < length chunk) chunks → (k : ℕ)
    → k ≤ length chunks - 1 → chunk_place_at_char chunks (length (front_chunks chunks k)) ≡ k
chunk_start_place [] full k le =
    let none : k ≡ 0 = omega (arith, le) in
    rw none refl
chunk_start_place (chunk ∷ chunks) full k le =
    let all : List (List ℕ) = chunk ∷ chunks in
    let next : length (front_chunks all k) < length (front_chunks all (suc k)) =
    omega (
      arith,
      ap length (before_more all k (omega (arith, le))),
      length-append (front_chunks all k) (get_or all k []),
      full k [] (omega (arith, le)),
    ) in
    place_inside all (length (front_chunks all k)) (length (concat all)) _
    (λ e. omega (arith, e, next, front_le all (suc k)))
    ∙ chunk_index_at_char_is all (length (front_chunks all k)) k (omega (arith, le)) (omega arith)
    (λ _. next)

-- a line break is in the chunk in which it ends
module _ (breaks : LineBreaks) (text : List ℕ) (chunks : List (List ℕ))
    (cut : IsCutting text chunks) (k i : ℕ) where
  lines_are : line_count breaks (concat chunks) ≡ line_count breaks text
  lines_are = ap (line_count breaks) cut.joined

  pub line_break_end : k ≡ line_count breaks text → i ≡ length text
      → chunk_place_at_char chunks i ≡ chunk_place_at_line_break breaks chunks k
  line_break_end past at =
      place_at_end chunks i (length (concat chunks)) _ (at ∙ ap length (sym cut.joined))
      ∙ sym (place_at_end chunks k (line_count breaks (concat chunks)) _ (past ∙ sym lines_are))

  -- the counts that the lookup returns are those before its chunk
  pub line_break_start : k < line_count breaks text
      → i ≡ length (front_chunks chunks (chunk_index_at_line_break breaks chunks k))
      → chunk_place_at_char chunks i ≡ chunk_place_at_line_break breaks chunks k
  line_break_start less at =
      let index : ℕ = chunk_index_at_line_break breaks chunks k in
      let own =
      place_inside chunks k (line_count breaks (concat chunks)) index
      (λ e. omega (arith, e, lines_are, less)) in
      let place : chunk_place_at_char chunks (length (front_chunks chunks index)) ≡ index =
      chunk_start_place chunks cut.nonempty index (chunk_index_at_line_break-le breaks chunks k) in
      ap (chunk_place_at_char chunks) at ∙ place ∙ sym own

first_char : (chunks : List (List ℕ)) → All (λ chunk. 0 < length chunk) chunks
    → chunk_index_at_char chunks 0 ≡ 0
unfolding chunk_index_at_char
first_char [] full = refl
first_char (chunk ∷ chunks) full = first_index chunk chunks (full 0 [] (omega arith))

-- before the first line break is the first chunk
pub no_break_place : (breaks : LineBreaks) (text : List ℕ) (chunks : List (List ℕ))
    → IsCutting text chunks
    → chunk_place_at_char chunks 0 ≡ chunk_place_at_line_break breaks chunks 0
no_break_place breaks text chunks cut =
    let index : chunk_index_at_line_break breaks chunks 0 ≡ 0 =
    line_break_index breaks chunks 0 cut.nonempty
    ∙ ap (λ n. chunk_index_at_char chunks (n - 1)) (line_start_first breaks (concat chunks))
    ∙ first_char chunks cut.nonempty in
    line_break_start breaks text chunks cut 0 0 (omega arith)
    (sym (ap (λ k. length (front_chunks chunks k)) index))

-- a break of the text is in the chunk that a lookup of it returns
pub break_place : (breaks : LineBreaks) (text : List ℕ) (chunks : List (List ℕ))
    → IsCutting text chunks → (k : ℕ) → k < line_count breaks text
    → chunk_place_at_line_break breaks chunks k ≡ chunk_index_at_line_break breaks chunks k
break_place breaks text chunks cut k less =
    place_inside chunks k (line_count breaks (concat chunks))
    (chunk_index_at_line_break breaks chunks k)
    (λ e. omega (arith, e, lines_are breaks text chunks cut k 0, less))
