-- Conversions of a tree's text, by the leaf that contains the position.
use Rattle.std.proofs.Common.{◌≡◌, ℕ, suc, ◌+◌, ◌-◌, ◌<◌, ◌≤◌, List, [], ◌∷◌, ◌++◌, length, get_or, take, drop, refl, sym, ap, subst, ◌∙◌, arith, false, nat_le, Some, slice_get}
use Rattle.std.specs.Str.{encode_utf8_all}
use Rattle.std.proofs.lemmas.Str.{encodes-append}
use Rattle.std.proofs.lemmas.Option.{slice_get-get_or}
use Rattle.std.specs.List.{concat}
use Rattle.std.proofs.lemmas.List.{take_all, append-nil, length-append, take-append-le, take-append-drop, take_more, get_or-append-add, get_or_append_left}
use Rattle.std.proofs.lemmas.List.Sums.{count_by-le-length}
use Rattle.std.proofs.Math.Seq.{take-append-add}
use Rattle.rope_text.specs.declared.line_breaks.LineBreaks.{LineBreaks}
use Rattle.rope_text.specs.declared.text_info.TextInfo.{TextInfo}
use Rattle.rope_text.specs.Text.{byte_len, utf16_len}
use Rattle.rope_text.specs.Breaks.{break_ends, break_count}
use Rattle.rope_text.specs.Lines.{line_start}
use Rattle.rope_text.specs.Conversions.{byte_to_char, utf16_to_char, char_to_byte, char_to_utf16, char_to_line, byte_to_line, line_to_byte}
use Rattle.rope_text.specs.Cutting.{parts_crlf}
use Rattle.rope_text.proofs.Measures.{IsMeasure-byte_len, IsMeasure-utf16_len}
use Rattle.rope_text.proofs.ConversionLaws.{byte_to_char-byte_len, utf16_to_char-char_to_utf16, char_to_line_end, byte_to_line-byte_to_char}
use Rattle.rope_text.proofs.LineLaws.{line_start-le-length}
use Rattle.rope_text.proofs.InfoLaws.{info_of-append_apart}
use Rattle.rope_text.proofs.ChunkLaws.{before, after, before_more, concat_at, byte_to_char_at, utf16_to_char_at, char_to_line_at, byte_to_line_at, line_start_at}
use Rattle.rope_leaf.specs.declared.search.Unit.{Unit}
use Rattle.rope_leaf.specs.declared.search.Unit.TheVariants.{Byte, Char, CodeUnit, LineBreak}
use Rattle.rope_leaf.specs.Leaves.{AreLeaves}
use Rattle.rope_leaf.specs.Tree.{Tree, text, IsTree}
use Rattle.rope_leaf.specs.Found.{IsFound}
use Rattle.rope_text.proofs.InfoLaws.{break_count-le-length}
use Rattle.rope_leaf.proofs.LeafLaws.{nonempty_leaves, leaves_left, leaves_seam}

-- at the end of the text
pub utf16_to_char_end : (text : List ℕ) → utf16_to_char text (utf16_len text) ≡ length text
utf16_to_char_end text =
    ap (λ s. utf16_to_char text (utf16_len s)) (sym (take_all (length text) text (omega arith)))
    ∙ utf16_to_char-char_to_utf16 text (length text) (omega arith)

pub char_to_byte_end : (text : List ℕ) → char_to_byte text (length text) ≡ byte_len text
char_to_byte_end text = ap byte_len (take_all (length text) text (omega arith))

pub char_to_utf16_end : (text : List ℕ) → char_to_utf16 text (length text) ≡ utf16_len text
char_to_utf16_end text = ap utf16_len (take_all (length text) text (omega arith))

pub byte_to_line_end : (breaks : LineBreaks) (text : List ℕ)
    → byte_to_line breaks text (byte_len text) ≡ break_count breaks text
byte_to_line_end breaks text = byte_to_line-byte_to_char breaks text (byte_len text)
    ∙ ap (char_to_line breaks text) (byte_to_char-byte_len text) ∙ char_to_line_end breaks text

-- the line breaks up to the end of a leaf
break_count_apart : (t : Tree) (leaf : List ℕ) (k : ℕ) → IsTree t → k < length t.leaves
    → get_or t.leaves k [] ≡ leaf → break_count t.breaks (before t.leaves k ++ leaf)
    ≡ break_count t.breaks (before t.leaves k) + break_count t.breaks leaf
break_count_apart t leaf k i lt is =
    let whole : AreLeaves (take (k + 1) t.leaves ++ drop (k + 1) t.leaves) =
    rw take-append-drop i.leaves in
    let front = leaves_left (take (k + 1) t.leaves) (drop (k + 1) t.leaves) whole in
    let e : take (k + 1) t.leaves ≡ take k t.leaves ++ leaf ∷ [] = take_more t.leaves k [] lt
    ∙ ap (λ s. take k t.leaves ++ s ∷ []) is in
    let seam = leaves_seam (take k t.leaves) (leaf ∷ []) (subst AreLeaves e front) in
    let apart : parts_crlf (before t.leaves k) leaf ≡ false = (rw append-nil at seam.apart) in
    ap (λ x. x.break_count) (info_of-append_apart t.breaks (before t.leaves k) leaf apart)

-- the offset of the leaf in the text, and the text up to its end
pub record LiesAt (t : Tree) (leaf : List ℕ) (front : TextInfo) (k : ℕ) : Type 0 where
  pub within : k < length t.leaves
  pub leaf_is : get_or t.leaves k [] ≡ leaf
  pub bytes : byte_len (before t.leaves k) ≡ front.bytes
  pub chars : length (before t.leaves k) ≡ front.chars
  pub units : utf16_len (before t.leaves k) ≡ front.chars + front.utf16_surrogates
  pub count : break_count t.breaks (before t.leaves k) ≡ front.break_count
  pub more : concat (take (k + 1) t.leaves) ≡ before t.leaves k ++ leaf
  pub around : text t ≡ before t.leaves k ++ (leaf ++ after t.leaves k)

pub lies_at : (unit : Unit) (at : ℕ) (t : Tree) (leaf : List ℕ) (front : TextInfo)
    → (f : IsFound unit at t leaf front) → LiesAt t leaf front f.index
lies_at unit at t leaf front f =
    let here : get_or t.leaves f.index [] ≡ leaf = sym f.leaf_is in
    let shift : f.index + 1 ≡ suc f.index = omega arith in
    record {
      within = f.within;
      leaf_is = here;
      bytes = ap (λ x. x.bytes) (sym f.before_is);
      chars = ap (λ x. x.chars) (sym f.before_is);
      units = ap (λ x. x.chars + x.utf16_surrogates) (sym f.before_is);
      count = ap (λ x. x.break_count) (sym f.before_is);
      more = ap (λ n. concat (take n t.leaves)) shift ∙ before_more t.leaves f.index f.within
          ∙ ap (λ s. before t.leaves f.index ++ s) here;
      around = concat_at t.leaves f.index f.within
          ∙ ap (λ s. before t.leaves f.index ++ (s ++ after t.leaves f.index)) here;
    }

-- each conversion is that of the leaf, after the text before it
module _ (at : ℕ) (t : Tree) (leaf : List ℕ) (front : TextInfo) (i : IsTree t) where
  pub found_byte_to_char : IsFound Byte at t leaf front
      → byte_to_char (text t) at ≡ front.chars + byte_to_char leaf (at - front.bytes)
  found_byte_to_char f =
      let l = lies_at Byte at t leaf front f in
      let more = ap byte_len l.more ∙ IsMeasure-byte_len.joined (before t.leaves f.index) leaf in
      let size = ap byte_len l.leaf_is in
      byte_to_char_at t.leaves f.index at f.within (omega (arith, l.bytes, f.not_past))
      (omega (arith, l.bytes, f.not_past, f.past, more, size))
      ∙ (rw (l.chars, l.leaf_is, l.bytes) refl)

  pub found_utf16_to_char : IsFound CodeUnit at t leaf front
      → utf16_to_char (text t) at ≡ front.chars + utf16_to_char leaf
      (at - (front.chars + front.utf16_surrogates))
  found_utf16_to_char f =
      let l = lies_at CodeUnit at t leaf front f in
      let more = ap utf16_len l.more ∙ IsMeasure-utf16_len.joined (before t.leaves f.index) leaf in
      let size = ap utf16_len l.leaf_is in
      utf16_to_char_at t.leaves f.index at f.within (omega (arith, l.units, f.not_past))
      (omega (arith, l.units, f.not_past, f.past, more, size))
      ∙ ap (λ n. n + utf16_to_char (get_or t.leaves f.index [])
      (at - utf16_len (before t.leaves f.index))) l.chars
      ∙ ap (λ s. front.chars + utf16_to_char s (at - utf16_len (before t.leaves f.index))) l.leaf_is
      ∙ ap (λ n. front.chars + utf16_to_char leaf (at - n)) l.units

  pub found_char_to_line : IsFound Char at t leaf front
      → char_to_line t.breaks (text t) at ≡ front.break_count + char_to_line t.breaks leaf
      (at - front.chars)
  found_char_to_line f =
      let l = lies_at Char at t leaf front f in
      let more = ap length l.more ∙ length-append (before t.leaves f.index) leaf in
      let size = ap length l.leaf_is in
      char_to_line_at t.breaks t.leaves f.index f.within (nonempty_leaves t.leaves i.leaves.each)
      i.leaves.whole at (omega (arith, l.chars, f.not_past))
      (omega (arith, l.chars, f.not_past, f.past, more, size))
      ∙ (rw (l.count, l.leaf_is, l.chars) refl)

  pub found_byte_to_line : IsFound Byte at t leaf front
      → byte_to_line t.breaks (text t) at ≡ front.break_count + byte_to_line t.breaks leaf
      (at - front.bytes)
  found_byte_to_line f =
      let l = lies_at Byte at t leaf front f in
      let more = ap byte_len l.more ∙ IsMeasure-byte_len.joined (before t.leaves f.index) leaf in
      let size = ap byte_len l.leaf_is in
      byte_to_line_at t.breaks t.leaves f.index f.within (nonempty_leaves t.leaves i.leaves.each)
      i.leaves.whole at (omega (arith, l.bytes, f.not_past))
      (omega (arith, l.bytes, f.not_past, f.past, more, size))
      ∙ (rw (l.count, l.leaf_is, l.bytes) refl)

  -- the first characters of the text are those before the leaf, and the first of the leaf
  pub front_in : (k : ℕ) → LiesAt t leaf front k → front.chars ≤ at → at ≤ front.chars + length leaf
      → take at (text t) ≡ before t.leaves k ++ take (at - front.chars) leaf
  front_in k l past within =
      let e : at ≡ length (before t.leaves k) + (at - front.chars) = omega (arith, l.chars) in
      ap (take at) l.around ∙ ap (λ n. take n (before t.leaves k ++ (leaf ++ after t.leaves k))) e
      ∙ take-append-add (before t.leaves k) (leaf ++ after t.leaves k) (at - front.chars)
      ∙ ap (λ s. before t.leaves k ++ s)
      (take-append-le (at - front.chars) leaf (after t.leaves k) (omega arith))

  pub found_char_to_byte : IsFound Char at t leaf front
      → char_to_byte (text t) at ≡ front.bytes + char_to_byte leaf (at - front.chars)
  found_char_to_byte f =
      let l = lies_at Char at t leaf front f in
      let more = ap length l.more ∙ length-append (before t.leaves f.index) leaf in
      ap byte_len (front_in f.index l f.not_past (omega (arith, l.chars, f.past, more)))
      ∙ IsMeasure-byte_len.joined (before t.leaves f.index) (take (at - front.chars) leaf)
      ∙ ap (λ n. n + byte_len (take (at - front.chars) leaf)) l.bytes

  pub found_char_to_utf16 : IsFound Char at t leaf front
      → char_to_utf16 (text t) at ≡ (front.chars + front.utf16_surrogates) + char_to_utf16 leaf
      (at - front.chars)
  found_char_to_utf16 f =
      let l = lies_at Char at t leaf front f in
      let more = ap length l.more ∙ length-append (before t.leaves f.index) leaf in
      ap utf16_len (front_in f.index l f.not_past (omega (arith, l.chars, f.past, more)))
      ∙ IsMeasure-utf16_len.joined (before t.leaves f.index) (take (at - front.chars) leaf)
      ∙ ap (λ n. n + utf16_len (take (at - front.chars) leaf)) l.units

-- the line that starts after the line break `at`, counted from 0
module _ (at line : ℕ) (t : Tree) (leaf : List ℕ) (front : TextInfo) (i : IsTree t)
    (f : IsFound LineBreak at t leaf front) (next : line ≡ at + 1) where
  pub found_line_start : line_start t.breaks (text t) line
      ≡ front.chars + line_start t.breaks leaf (line - front.break_count)
  found_line_start =
      let l = lies_at LineBreak at t leaf front f in
      let more = ap (break_count t.breaks) l.more
      ∙ break_count_apart t leaf f.index i f.within l.leaf_is in
      let size = ap (break_count t.breaks) l.leaf_is in
      line_start_at t.breaks t.leaves f.index f.within (nonempty_leaves t.leaves i.leaves.each)
      i.leaves.whole line (omega (arith, l.count, f.not_past))
      (omega (arith, l.count, f.not_past, f.past, more, size))
      ∙ (rw (l.chars, l.leaf_is, l.count) refl)

  pub found_line_to_byte : line_to_byte t.breaks (text t) line
      ≡ front.bytes + line_to_byte t.breaks leaf (line - front.break_count)
  found_line_to_byte =
      let l = lies_at LineBreak at t leaf front f in
      let s = line_start t.breaks leaf (line - front.break_count) in
      let short = line_start-le-length t.breaks leaf (line - front.break_count) in
      let back : (front.chars + s) - front.chars ≡ s = omega arith in
      ap (λ n. byte_len (take n (text t))) found_line_start
      ∙ ap byte_len (front_in (front.chars + s) t leaf front i f.index l (omega arith)
      (omega arith)) ∙ IsMeasure-byte_len.joined (before t.leaves f.index)
      (take ((front.chars + s) - front.chars) leaf)
      ∙ ap (λ n. n + byte_len (take ((front.chars + s) - front.chars) leaf)) l.bytes
      ∙ ap (λ n. front.bytes + byte_len (take n leaf)) back

-- a conversion to lines does not exceed the number of characters
pub char_to_line-le : (breaks : LineBreaks) (text : List ℕ) (i : ℕ)
    → char_to_line breaks text i ≤ length text
unfolding char_to_line
char_to_line-le breaks text i =
    omega (
      arith,
      count_by-le-length (λ p. nat_le p i) (break_ends breaks text),
      break_count-le-length breaks text,
    )

pub byte_to_line-le : (breaks : LineBreaks) (text : List ℕ) (b : ℕ)
    → byte_to_line breaks text b ≤ length text
byte_to_line-le breaks text b =
    omega (
      arith,
      byte_to_line-byte_to_char breaks text b,
      char_to_line-le breaks text (byte_to_char text b),
    )

-- an element of three adjacent lists that is in the second
within_middle : (xs ys zs : List ℕ) (n i : ℕ) → n ≡ length xs + i → i < length ys
    → slice_get (xs ++ (ys ++ zs)) n ≡ Some (get_or ys i 0)
within_middle xs ys zs n i e lt =
    ap (slice_get (xs ++ (ys ++ zs))) e
    ∙ slice_get-get_or (xs ++ (ys ++ zs)) (length xs + i) 0
    (omega (arith, length-append xs (ys ++ zs), length-append ys zs))
    ∙ ap (λ x. Some x) (get_or-append-add xs (ys ++ zs) i 0 ∙ get_or_append_left ys zs 0 i lt)

-- the byte and the character at an index, by the leaf that contains it
module _ (at : ℕ) (t : Tree) (leaf : List ℕ) (front : TextInfo) where
  pub found_byte : IsFound Byte at t leaf front → (at - front.bytes < byte_len leaf)
      × (slice_get (encode_utf8_all (text t)) at
      ≡ Some (get_or (encode_utf8_all leaf) (at - front.bytes) 0))
  found_byte f =
      let l = lies_at Byte at t leaf front f in
      let more = ap byte_len l.more ∙ IsMeasure-byte_len.joined (before t.leaves f.index) leaf in
      let lt : at - front.bytes < byte_len leaf =
      omega (arith, l.bytes, f.not_past, f.past, more) in
      let bytes : encode_utf8_all (text t) ≡ encode_utf8_all (before t.leaves f.index)
      ++ (encode_utf8_all leaf ++ encode_utf8_all (after t.leaves f.index)) =
      ap encode_utf8_all l.around
      ∙ encodes-append (before t.leaves f.index) (leaf ++ after t.leaves f.index)
      ∙ ap (λ bs. encode_utf8_all (before t.leaves f.index) ++ bs)
      (encodes-append leaf (after t.leaves f.index)) in (
        lt,
        ap (λ bs. slice_get bs at) bytes
            ∙ within_middle (encode_utf8_all (before t.leaves f.index)) (encode_utf8_all leaf)
            (encode_utf8_all (after t.leaves f.index)) at (at - front.bytes)
            (omega (arith, l.bytes, f.not_past)) lt,
      )

  pub found_char : IsFound Char at t leaf front → (at - front.chars < length leaf)
      × (slice_get (text t) at ≡ Some (get_or leaf (at - front.chars) 0))
  found_char f =
      let l = lies_at Char at t leaf front f in
      let more = ap length l.more ∙ length-append (before t.leaves f.index) leaf in
      let lt : at - front.chars < length leaf =
      omega (arith, l.chars, f.not_past, f.past, more) in (
        lt,
        ap (λ cs. slice_get cs at) l.around
            ∙ within_middle (before t.leaves f.index) leaf (after t.leaves f.index) at
            (at - front.chars) (omega (arith, l.chars, f.not_past)) lt,
      )
