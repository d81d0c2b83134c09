-- The position of a byte in the leaf that contains it.
use Rattle.std.proofs.Common.{◌≡◌, ℕ, ◌+◌, ◌-◌, ◌<◌, ◌≤◌, ◌↔◌, true, List, ◌++◌, length, take, drop, refl, sym, ap, subst, ◌∙◌, arith}
use Rattle.std.specs.List.{slice_range}
use Rattle.std.specs.Str.{chars, IsUtf8, IsCharBoundary}
use Rattle.std.proofs.lemmas.List.{take_at, length-append}
use Rattle.std.proofs.Math.Seq.{drop-append_seam}
use Rattle.rope_text.specs.declared.text_info.TextInfo.{TextInfo}
use Rattle.rope_text.specs.Text.{byte_len}
use Rattle.rope_text.specs.Conversions.{byte_to_char}
use Rattle.rope_text.specs.Edit.{is_char_boundary}
use Rattle.rope_text.proofs.ByteSlices.{boundary_is, is_boundary, boundary_in, boundary_out, char_at}
use Rattle.rope_text.proofs.ChunkLaws.{before, after}
use Rattle.rope_text.proofs.ConversionLaws.{byte_to_char-char_to_byte}
use Rattle.rope_text.proofs.Fronts.{front_at}
use Rattle.rope_text.proofs.TextParts.{byte_len_boundary}
use Rattle.rope_leaf.specs.Tree.{Tree, text, IsTree}
use Rattle.rope_leaf.specs.declared.search.Unit.TheVariants.{Byte, Char}
use Rattle.rope_leaf.specs.Found.{IsFound}
use Rattle.rope_tree.proofs.FoundLaws.{lies_at, found_byte, found_byte_to_char}
use Rattle.rope_slice.specs.Edge.{IsExcerpt}
use Rattle.rope_slice.specs.LeafPlace.{IsLeafPlace}
use Rattle.rope_slice.proofs.ClippedChunks.{before_is_front}
use Rattle.rope_slice.proofs.Measured.{measured}
use Rattle.rope_slice.proofs.Excerpts.{byte_to_char-less}

-- a byte begins a character of a text exactly where its bytes may be cut
pub cut_of_boundary : (bs text : List ℕ) (b : ℕ) → IsUtf8 bs → chars bs ≡ text
    → is_char_boundary text b ≡ true → IsCharBoundary bs b
cut_of_boundary bs text b utf8 same whole =
    let i : ℕ = byte_to_char text b in
    subst (IsCharBoundary bs) (ap (λ s. byte_len (take i s)) same ∙ boundary_is text b whole)
    (byte_len_boundary bs i utf8)

pub boundary_of_cut : (bs text : List ℕ) (b : ℕ) → IsUtf8 bs → chars bs ≡ text → IsCharBoundary bs b
    → is_char_boundary text b ≡ true
boundary_of_cut bs text b utf8 same cut =
    let f = front_at bs b utf8 cut in
    let within : f.0 ≤ length text = omega (arith, f.1, ap length same) in
    let size : byte_len (take f.0 text) ≡ b = ap (λ s. byte_len (take f.0 s)) (sym same) ∙ f.2 in
    let place : byte_to_char text b ≡ f.0 = ap (byte_to_char text) (sym size)
    ∙ byte_to_char-char_to_byte text f.0 within in
    is_boundary text b (ap (λ i. byte_len (take i text)) place ∙ size)

-- the leaf that contains a byte contains its character
module _ (b : ℕ) (t : Tree) (leaf : List ℕ) (front : TextInfo) (tree : IsTree t)
    (f : IsFound Byte b t leaf front) where
  less : b - front.bytes < byte_len leaf
  less = (found_byte b t leaf front f).0

  leaf_part : slice_range (text t) front.chars (front.chars + length leaf) ≡ leaf
  leaf_part =
      let l = lies_at Byte b t leaf front f in
      let size : (front.chars + length leaf) - front.chars ≡ length leaf = omega arith in
      let back : drop front.chars (text t) ≡ leaf ++ after t.leaves f.index =
      ap (λ n. drop n (text t)) (sym l.chars)
      ∙ ap (drop (length (before t.leaves f.index))) l.around
      ∙ drop-append_seam (before t.leaves f.index) (leaf ++ after t.leaves f.index) in
      rw (size, back) (take_at leaf (after t.leaves f.index) (length leaf) refl)

  pub found_of_byte : IsFound Char (front.chars + byte_to_char leaf (b - front.bytes)) t leaf front
  found_of_byte =
      let l = lies_at Byte b t leaf front f in
      record {
        index = f.index;
        within = f.within;
        leaf_is = f.leaf_is;
        before_is = f.before_is;
        not_past = omega arith;
        past = omega (
          arith,
          byte_to_char-less leaf (b - front.bytes) less,
          ap length l.more,
          length-append (before t.leaves f.index) leaf,
          l.chars,
        );
      }

  module _ (q : front.chars + length leaf ≤ length (text t))
      (starts : byte_len (take front.chars (text t)) ≡ front.bytes) where
    pub boundary_in_leaf : (is_char_boundary (text t) b ≡ true) ↔
        (is_char_boundary leaf (b - front.bytes) ≡ true)
    boundary_in_leaf =
        let e : ℕ = front.chars + length leaf in
        let here : front.bytes + (b - front.bytes) ≡ b = omega (arith, f.not_past) in
        let size = ap byte_len leaf_part in
        let n : ℕ = b - front.bytes in
        let inside =
        boundary_in (text t) front.chars e front.bytes (omega arith) q starts n
        (omega (arith, less, size)) in
        let outside =
        boundary_out (text t) front.chars e front.bytes (omega arith) q starts n
        (omega (arith, less, size)) in (
          (λ h. ap (λ s. is_char_boundary s n) (sym leaf_part)
              ∙ inside (ap (is_char_boundary (text t)) here ∙ h)),
          (λ h. sym (ap (is_char_boundary (text t)) here)
              ∙ outside (ap (λ s. is_char_boundary s n) leaf_part ∙ h)),
        )

-- a byte of an excerpt, in the leaf that holds it
pub record ByteAt (t : Tree) (start end : TextInfo) (leaf : List ℕ) (front : TextInfo)
    (n : ℕ) : Type 0 where
  pub whole : (is_char_boundary (slice_range (text t) start.chars end.chars) n ≡ true) ↔
      (is_char_boundary leaf ((start.bytes + n) - front.bytes) ≡ true)
  pub place : is_char_boundary leaf ((start.bytes + n) - front.bytes) ≡ true
      → IsLeafPlace t (start.chars + byte_to_char (slice_range (text t) start.chars end.chars) n)
      leaf front ((start.bytes + n) - front.bytes)
      (byte_to_char leaf ((start.bytes + n) - front.bytes))

pub byte_at : (t : Tree) (start end : TextInfo) (leaf : List ℕ) (front : TextInfo) (n : ℕ)
    → IsTree t → IsExcerpt t.breaks (text t) start end
    → n < byte_len (slice_range (text t) start.chars end.chars)
    → IsFound Byte (start.bytes + n) t leaf front → ByteAt t start end leaf front n
byte_at t start end leaf front n tree s less f =
    let m = measured t.breaks (text t) start end s in
    let l = lies_at Byte (start.bytes + n) t leaf front f in
    let first : byte_len (take front.chars (text t)) ≡ front.bytes =
    ap (λ k. byte_len (take k (text t))) (sym l.chars)
    ∙ ap byte_len (sym (before_is_front t.leaves f.index f.within)) ∙ l.bytes in
    let room : front.chars + length leaf ≤ length (text t) =
    omega (
      arith,
      ap length l.around,
      length-append (before t.leaves f.index)
          (leaf ++ after t.leaves f.index),
      length-append leaf (after t.leaves f.index),
      l.chars,
    ) in
    let here = boundary_in_leaf (start.bytes + n) t leaf front tree f room first in
    let order : start.chars ≤ end.chars = omega (arith, m.some) in
    let inside =
    boundary_in (text t) start.chars end.chars start.bytes order m.within (sym m.start_bytes) n
    (omega (arith, less)) in
    let outside =
    boundary_out (text t) start.chars end.chars start.bytes order m.within (sym m.start_bytes) n
    (omega (arith, less)) in
    let place : start.chars + byte_to_char (slice_range (text t) start.chars end.chars) n
    ≡ front.chars + byte_to_char leaf ((start.bytes + n) - front.bytes) =
    sym (char_at (text t) start.chars end.chars start.bytes order m.within (sym m.start_bytes) n
    (omega (arith, less))) ∙ found_byte_to_char (start.bytes + n) t leaf front tree f in
    record {
      whole = ((λ h. here.0 (outside h)), (λ h. inside (here.1 h)));
      place = λ h. record {
        found = rw place (found_of_byte (start.bytes + n) t leaf front tree f);
        place = place;
        bytes_are = sym (boundary_is leaf ((start.bytes + n) - front.bytes) h);
      };
    }
