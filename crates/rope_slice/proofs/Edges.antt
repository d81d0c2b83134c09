-- The counts up to an index, from the leaf that contains it.
use Rattle.std.proofs.Common.{◌≡◌, ℕ, ◌+◌, ◌-◌, ◌<◌, ◌≤◌, false, List, ◌++◌, length, take, drop, refl, sym, ap, ◌∙◌, arith, subst}
use Rattle.std.specs.List.{concat}
use Rattle.std.proofs.lemmas.List.{take-append-drop, length-take-le, append_cancel_left, length-append, drop-append-le, take_at}
use Rattle.std.proofs.Math.Seq.{drop-append-add}
use Rattle.rope_text.specs.declared.text_info.TextInfo.{TextInfo}
use Rattle.rope_text.specs.Text.{surrogate_count}
use Rattle.rope_text.specs.TextInfo.{info_of}
use Rattle.rope_text.specs.Breaks.{break_count}
use Rattle.rope_text.specs.Lines.{line_start}
use Rattle.rope_text.specs.Cutting.{parts_crlf}
use Rattle.rope_text.specs.Conversions.{char_to_byte, char_to_line, line_to_byte}
use Rattle.rope_text.proofs.CuttingLaws.{concat-append, apart_back}
use Rattle.rope_text.proofs.ChunkLaws.{before, after, KeepsCrlf_before, KeepsCrlf_at}
use Rattle.rope_text.proofs.BreakLaws.{break_count-append}
use Rattle.rope_text.proofs.InfoLaws.{surrogate_count-append, same_info}
use Rattle.rope_text.proofs.LineLaws.{line_start-le-length}
use Rattle.rope_text.proofs.LineSeams.{break_count-front, parts_crlf-take}
use Rattle.rope_leaf.specs.declared.search.Unit.TheVariants.{Char, LineBreak}
use Rattle.rope_leaf.specs.Tree.{Tree, text, IsTree}
use Rattle.rope_leaf.specs.Found.{IsFound}
use Rattle.rope_tree.proofs.FoundLaws.{lies_at, front_in, found_char, found_char_to_byte, found_char_to_utf16, found_char_to_line, found_line_start, found_line_to_byte}
use Rattle.rope_leaf.proofs.LeafLaws.{nonempty_leaves}
use Rattle.rope_slice.specs.Edge.{start_info, end_info, IsLeafFrom}

front_apart : (s leaf rest : List ℕ) (k : ℕ) → parts_crlf s (leaf ++ rest) ≡ false
    → parts_crlf s (take k leaf) ≡ false
front_apart s leaf rest k apart =
    parts_crlf-take s leaf k (subst (λ t. parts_crlf s t ≡ false) (take_at leaf rest _ refl)
    (parts_crlf-take s (leaf ++ rest) (length leaf) apart))

module _ (i : ℕ) (t : Tree) (leaf : List ℕ) (front : TextInfo) (tree : IsTree t)
    (f : IsFound Char i t leaf front) where
  pub start_found : (bytes pairs lines : ℕ) → bytes ≡ char_to_byte leaf (i - front.chars)
      → pairs ≡ surrogate_count (take (i - front.chars) leaf)
      → lines ≡ char_to_line t.breaks leaf (i - front.chars)
      → record {
        bytes = front.bytes + bytes;
        chars = i;
        utf16_surrogates = front.utf16_surrogates + pairs;
        break_count = front.break_count + lines;
      } ≡ start_info t.breaks (text t) i
  start_found bytes pairs lines b p l =
      let k : ℕ = i - front.chars in
      let within = (found_char i t leaf front f).0 in
      let at = lies_at Char i t leaf front f in
      let whole = ap length at.around in
      let long =
      length-take-le i (text t)
      (omega (
        arith,
        f.not_past,
        whole,
        at.chars,
        length-append (before t.leaves f.index) (leaf ++ after t.leaves f.index),
        length-append leaf (after t.leaves f.index),
      )) in
      let short = length-take-le k leaf (omega arith) in
      let units = found_char_to_utf16 i t leaf front tree f in
      same_info (record {
        bytes = front.bytes + bytes;
        chars = i;
        utf16_surrogates = front.utf16_surrogates + pairs;
        break_count = front.break_count + lines;
      }) (start_info t.breaks (text t) i)
      (omega (arith, found_char_to_byte i t leaf front tree f, b)) refl
      (omega (arith, units, long, short, p, f.not_past))
      (omega (arith, found_char_to_line i t leaf front tree f, l))

  pub seam_before : parts_crlf (before t.leaves f.index) (take (i - front.chars) leaf) ≡ false
  seam_before =
      let at = lies_at Char i t leaf front f in
      let rest : concat (drop f.index t.leaves) ≡ leaf ++ after t.leaves f.index =
      append_cancel_left (before t.leaves f.index) (concat (drop f.index t.leaves))
      (leaf ++ after t.leaves f.index)
      (sym (concat-append (take f.index t.leaves) (drop f.index t.leaves))
      ∙ ap concat (take-append-drop f.index t.leaves) ∙ at.around) in
      front_apart (before t.leaves f.index) leaf (after t.leaves f.index) (i - front.chars)
      (ap (parts_crlf (before t.leaves f.index)) (sym rest)
      ∙ KeepsCrlf_before t.leaves f.index (nonempty_leaves t.leaves tree.leaves.each)
      tree.leaves.whole)

  pub end_found : (info : TextInfo) → info
      ≡ info_of t.breaks (before t.leaves f.index ++ take (i - front.chars) leaf)
      → info ≡ end_info t.breaks (text t) i
  end_found info e =
      let at = lies_at Char i t leaf front f in
      let within = (found_char i t leaf front f).0 in
      e ∙ ap (info_of t.breaks)
      (sym (front_in i t leaf front tree f.index at f.not_past (omega (arith, f.not_past))))

-- the leaf has the break before the line
pub line_within : (line : ℕ) (t : Tree) (leaf : List ℕ) (front : TextInfo)
    → IsFound LineBreak (line - 1) t leaf front → 0 < line
    → line - front.break_count ≤ break_count t.breaks leaf
line_within line t leaf front f later =
    let at = lies_at LineBreak (line - 1) t leaf front f in
    let past : line - 1 < break_count t.breaks (concat (take (f.index + 1) t.leaves)) = f.past in
    omega (
      arith,
      past,
      later,
      ap (break_count t.breaks) at.more,
      break_count-append t.breaks (before t.leaves f.index) leaf,
      at.count,
    )

-- the counts before a line that starts after a break of the leaf
module _ (line : ℕ) (t : Tree) (leaf : List ℕ) (front : TextInfo) (tree : IsTree t)
    (f : IsFound LineBreak (line - 1) t leaf front) (later : 0 < line)
    (within : line ≤ break_count t.breaks (text t)) where
  pub line_front : take (line_start t.breaks (text t) line) (text t) ≡ before t.leaves f.index
      ++ take (line_start t.breaks leaf (line - front.break_count)) leaf
  line_front =
      let at = lies_at LineBreak (line - 1) t leaf front f in
      let k : ℕ = line_start t.breaks leaf (line - front.break_count) in
      let short = line_start-le-length t.breaks leaf (line - front.break_count) in
      let back : (front.chars + k) - front.chars ≡ k = omega arith in
      ap (λ n. take n (text t)) (found_line_start (line - 1) line t leaf front tree f (omega arith))
      ∙ front_in (front.chars + k) t leaf front tree f.index at (omega arith) (omega arith)
      ∙ ap (λ n. before t.leaves f.index ++ take n leaf) back

  pub line_found : (bytes chars pairs : ℕ)
      → bytes ≡ line_to_byte t.breaks leaf (line - front.break_count)
      → chars ≡ length (take (line_start t.breaks leaf (line - front.break_count)) leaf)
      → pairs ≡ surrogate_count (take (line_start t.breaks leaf (line - front.break_count)) leaf)
      → record {
        bytes = front.bytes + bytes;
        chars = front.chars + chars;
        utf16_surrogates = front.utf16_surrogates + pairs;
        break_count = line;
      } ≡ info_of t.breaks (take (line_start t.breaks (text t) line) (text t))
  line_found bytes chars pairs b n p =
      let at = lies_at LineBreak (line - 1) t leaf front f in
      let here : List ℕ = take (line_start t.breaks leaf (line - front.break_count)) leaf in
      same_info (record {
        bytes = front.bytes + bytes;
        chars = front.chars + chars;
        utf16_surrogates = front.utf16_surrogates + pairs;
        break_count = line;
      })
      (info_of t.breaks (take (line_start t.breaks (text t) line) (text t)))
      (omega (arith, b, found_line_to_byte (line - 1) line t leaf front tree f (omega arith)))
      (omega (
        arith,
        n,
        ap length line_front,
        length-append (before t.leaves f.index) here,
        at.chars,
      ))
      (omega (
        arith,
        p,
        ap surrogate_count line_front,
        surrogate_count-append (before t.leaves f.index) here,
        ap (λ x. x.utf16_surrogates) f.before_is,
      ))
      (omega (arith, break_count-front t.breaks (text t) line (omega arith)))

  pub line_rest : IsLeafFrom t (line_start t.breaks (text t) line)
      (drop (line_start t.breaks leaf (line - front.break_count)) leaf)
  line_rest =
      let at = lies_at LineBreak (line - 1) t leaf front f in
      let k : ℕ = line_start t.breaks leaf (line - front.break_count) in
      let short = line_start-le-length t.breaks leaf (line - front.break_count) in
      let next = after t.leaves f.index in
      let seam : parts_crlf leaf next ≡ false = ap (λ s. parts_crlf s next) (sym at.leaf_is)
      ∙ KeepsCrlf_at t.leaves f.index f.within tree.leaves.whole in
      record {
        more = next;
        text_is =
            ap (λ n. drop n (text t))
            (found_line_start (line - 1) line t leaf front tree f (omega arith)
            ∙ ap (λ n. n + k) (sym at.chars))
            ∙ ap (drop (length (before t.leaves f.index) + k)) at.around
            ∙ drop-append-add (before t.leaves f.index) (leaf ++ next) k
            ∙ drop-append-le k leaf next short;
        apart = λ _. apart_back (take k leaf) (drop k leaf) next
            (ap (λ s. parts_crlf s next) (take-append-drop k leaf) ∙ seam);
      }
