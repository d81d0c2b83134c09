-- Bytes taken from those ahead, up to the end of the slice.
use Rattle.std.proofs.Common.{◌≡◌, ℕ, ◌+◌, ◌-◌, ◌<◌, min, List, [], ◌∷◌, ◌++◌, length, take, drop, refl, ap, sym, ◌∙◌, subst, arith, inl, inr, All, append_assoc}
use Rattle.std.proofs.lemmas.Bool.{cases_lt}
use Rattle.std.proofs.lemmas.List.{append-nil, take_all, take-append-le, drop-append-le, length-take-le, length-drop}
use Rattle.std.proofs.lemmas.List.Elements.{All-drop}
use Rattle.std.proofs.lemmas.Str.{encodes-append, encodes-chars}
use Rattle.std.proofs.Math.Seq.{take-append-add, drop-append-add}
use Rattle.std.specs.List.{concat, slice_range}
use Rattle.std.specs.Str.{chars, encode_utf8_all, IsUtf8}
use Rattle.rope_text.specs.declared.text_info.TextInfo.{TextInfo}
use Rattle.rope_text.specs.Text.{byte_len}
use Rattle.rope_text.proofs.Measures.{IsMeasure-byte_len}
use Rattle.rope_leaf.specs.Tree.{Tree, text, IsTree}
use Rattle.rope_leaf.specs.declared.search.Unit.TheVariants.{Byte}
use Rattle.rope_leaf.proofs.LeafLaws.{nonempty_leaves}
use Rattle.rope_slice.specs.Edge.{IsExcerpt}
use Rattle.rope_slice.proofs.Measured.{measured}
use Rattle.rope_slice.proofs.Excerpts.{bytes_of_part}
use Rattle.rope_slice.specs.Path.{Place, leaves, HoldsPlace}
use Rattle.rope_slice.proofs.LeafStarts.{text_is}

-- the bytes of a chunk, by its characters
pub bytes_of : (chunk bytes : List ℕ) → IsUtf8 bytes → bytes ≡ chunk
    → bytes ≡ encode_utf8_all (chars chunk)
bytes_of chunk bytes utf8 same = sym (encodes-chars bytes utf8)
    ∙ ap (λ t. encode_utf8_all (chars t)) same

-- the first of them, and then the rest
pub piece_and_rest : (bytes rest : List ℕ) (left n : ℕ) → n ≡ min (length bytes) left
    → take n bytes ++ take (left - n) rest ≡ take left (bytes ++ rest)
piece_and_rest bytes rest left n e = elim (cases_lt (length bytes) left) [
  | inl long ↦
      let all : take n bytes ≡ bytes = take_all n bytes (omega (arith, e)) in
      let on : left ≡ length bytes + (left - n) = omega (arith, e) in
      ap (λ bs. bs ++ take (left - n) rest) all
      ∙ sym (ap (λ (m : ℕ). take m (bytes ++ rest)) on ∙ take-append-add bytes rest (left - n))
  | inr short ↦
      let here : n ≡ left = omega (arith, e) in
      let none : left - n ≡ 0 = omega (arith, e) in
      rw (none, here) (append-nil (take left bytes) ∙ sym (take-append-le left bytes rest short))
]

-- of the leaves ahead
pub leaf_and_rest : (leaf : List ℕ) (leaves : List (List ℕ)) (bytes : List ℕ) (left n : ℕ)
    → bytes ≡ encode_utf8_all leaf → n ≡ min (length bytes) left
    → take n bytes ++ take (left - n) (encode_utf8_all (concat leaves))
    ≡ take left (encode_utf8_all (concat (leaf ∷ leaves)))
leaf_and_rest leaf leaves bytes left n b e =
    piece_and_rest bytes (encode_utf8_all (concat leaves)) left n e
    ∙ ap (take left) (ap (λ bs. bs ++ encode_utf8_all (concat leaves)) b
    ∙ sym (encodes-append leaf (concat leaves)))

-- an empty one of a leaf with bytes is the last
pub none_left : (bytes rest : List ℕ) (left n : ℕ) → n ≡ min (length bytes) left → 0 < length bytes
    → length (take n bytes) ≡ 0 → take (left - n) rest ≡ []
none_left bytes rest left n e some none =
    let zero : left - n ≡ 0 =
    omega (arith, e, some, none, length-take-le n bytes (omega (arith, e))) in
    rw zero refl

-- a leaf that holds the first byte of an excerpt
module _ (t : Tree) (start end : TextInfo) (p : Place) (info : TextInfo) (tree : IsTree t)
    (s : IsExcerpt t.breaks (text t) start end) (e : leaves p ≡ t.leaves)
    (h : HoldsPlace Byte t.breaks start.bytes p.before p.here info) where
  before_is : info.bytes ≡ byte_len (concat p.before)
  before_is = ap (λ x. x.bytes) h.info_is

  here_more : start.bytes < byte_len (concat p.before) + byte_len p.here
  here_more = omega (arith, h.past, IsMeasure-byte_len.joined (concat p.before) p.here)

  pub starts_here : start.bytes - info.bytes < byte_len p.here
  starts_here = omega (arith, before_is, h.not_past, here_more)

  from_here : drop start.bytes (encode_utf8_all (text t))
      ≡ drop (start.bytes - info.bytes) (encode_utf8_all p.here) ++ encode_utf8_all (concat p.after)
  from_here =
      let before : List ℕ = encode_utf8_all (concat p.before) in
      let here : List ℕ = encode_utf8_all p.here in
      let after : List ℕ = encode_utf8_all (concat p.after) in
      let n : ℕ = start.bytes - info.bytes in
      let whole : encode_utf8_all (text t) ≡ before ++ (here ++ after) =
      ap encode_utf8_all (text_is p t e)
      ∙ encodes-append (concat p.before ++ p.here) (concat p.after)
      ∙ ap (λ bs. bs ++ after) (encodes-append (concat p.before) p.here)
      ∙ append_assoc before here after in
      let at : start.bytes ≡ length before + n = omega (arith, before_is, h.not_past) in
      ap (drop start.bytes) whole ∙ ap (λ (m : ℕ). drop m (before ++ (here ++ after))) at
      ∙ drop-append-add before (here ++ after) n
      ∙ drop-append-le n here after (omega (arith, starts_here))

  pub excerpt_bytes : (n : ℕ)
      → n ≡ min (length (drop (start.bytes - info.bytes) (encode_utf8_all p.here)))
      (end.bytes - start.bytes)
      → take n (drop (start.bytes - info.bytes) (encode_utf8_all p.here))
      ++ take (end.bytes - start.bytes - n) (encode_utf8_all (concat p.after))
      ≡ encode_utf8_all (slice_range (text t) start.chars end.chars)
  excerpt_bytes n q =
      let m = measured t.breaks (text t) start end s in
      piece_and_rest (drop (start.bytes - info.bytes) (encode_utf8_all p.here))
      (encode_utf8_all (concat p.after)) (end.bytes - start.bytes) n q
      ∙ ap (take (end.bytes - start.bytes)) (sym from_here)
      ∙ bytes_of_part (text t) start.chars end.chars start.bytes (end.bytes - start.bytes)
      (omega (arith, m.some)) m.start_bytes (omega (arith, m.bytes))

  pub some_here : 0 < length (drop (start.bytes - info.bytes) (encode_utf8_all p.here))
  some_here =
      omega (arith, length-drop (start.bytes - info.bytes) (encode_utf8_all p.here), starts_here)

  pub solid_after : All (λ leaf. 0 < length leaf) p.after
  solid_after =
      let solid = λ (leaf : List ℕ). 0 < length leaf in
      let all : All solid (p.before ++ (p.here ∷ p.after)) =
      subst (λ ls. All solid ls) (sym e) (nonempty_leaves t.leaves tree.leaves.each) in
      let past : drop (length p.before + 1) (p.before ++ (p.here ∷ p.after)) ≡ p.after =
      drop-append-add p.before (p.here ∷ p.after) 1 in
      subst (λ ls. All solid ls) past
      (All-drop solid (length p.before + 1) (p.before ++ (p.here ∷ p.after)) all)
