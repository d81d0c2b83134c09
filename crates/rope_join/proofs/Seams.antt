-- Seams, the boundaries between two texts, where CR and LF may meet.
use Rattle.std.proofs.Common.{◌≡◌, ℕ, ◌+◌, ◌-◌, ◌^◌, ◌<◌, ◌≤◌, true, false, eqb, Some, slice_get, List, [], ◌∷◌, ◌++◌, length, take, drop, refl, sym, ap, ◌∙◌, arith, append_assoc}
use Rattle.std.proofs.lemmas.Bool.{and_parts, and_right}
use Rattle.std.proofs.lemmas.Option.{slice_get_within, get_or_from_slice_get}
use Rattle.std.proofs.lemmas.List.{length-take-le, length-drop, take_more, take-take, drop-drop}
use Rattle.std.specs.Str.{chars}
use Rattle.rope_text.specs.Text.{byte_len}
use Rattle.rope_text.specs.Breaks.{begins_with_lf, ends_in_cr}
use Rattle.rope_text.specs.Cutting.{parts_crlf}
use Rattle.rope_text.proofs.Measures.{IsMeasure-byte_len, size_parts}
use Rattle.rope_text.proofs.CuttingLaws.{concat-append, ends_in_cr-append}
use Rattle.rope_text.proofs.TextParts.{lf_first, cr_last, some_cr}
use Rattle.rope_leaf.specs.Leaves.{IsSeam}
use Rattle.rope_leaf.specs.Tree.{Tree, text, leaf_tree}
use Rattle.rope_leaf.proofs.InsertLaws.{begins_some}
use Rattle.rope_leaf.proofs.InsertLeaves.{text_of_leaf}
use Rattle.rope_join.specs.Join.{CanJoin, IsJoin}

-- the last of the first characters
pub ends_at : (xs : List ℕ) (i x : ℕ) → slice_get xs i ≡ Some x
    → ends_in_cr (take (i + 1) xs) ≡ eqb x 13
ends_at xs i x e =
    let in' = slice_get_within xs i x e in
    ap ends_in_cr (take_more xs i x in'
    ∙ ap (λ z. take i xs ++ z ∷ []) (get_or_from_slice_get xs i x x e))
    ∙ ends_in_cr-append (take i xs) x []

-- two trees with no CR LF between them
pub can_join : (a b : Tree) → b.breaks ≡ a.breaks → IsSeam (text a) (text b)
    → byte_len (text a) + byte_len (text b) < 2 ^ 63 → CanJoin a b
can_join a b breaks s fits = record { same_breaks = breaks; seam = s; fits = fits }

pub join_text : (a b r : Tree) → IsJoin a b r → text r ≡ text a ++ text b
join_text a b r j = j.recuts.same_text ∙ concat-append a.leaves b.leaves

pub byte_len-pair : byte_len (13 ∷ 10 ∷ []) ≡ 2
unfolding lib.Utf8.encode
byte_len-pair = refl

module _ (a p b : Tree) (breaks : b.breaks ≡ a.breaks) (e : p ≡ leaf_tree a.breaks (13 ∷ 10 ∷ []))
    (fits : byte_len (text a) + byte_len (text b) + 2 < 2 ^ 63) where
  pair_is : text p ≡ 13 ∷ 10 ∷ []
  pair_is = text_of_leaf a.breaks p (13 ∷ 10 ∷ []) e

  pub pair_first : CanJoin a p
  pair_first =
      let s : IsSeam (text a) (text p) =
      record { apart = rw pair_is (and_right (ends_in_cr (text a)) false refl) } in
      can_join a p (ap (λ z. z.breaks) e) s (omega (arith, ap byte_len pair_is, byte_len-pair))

  module _ (f : Tree) (j : IsJoin a p f) where
    pub front_is : text f ≡ text a ++ 13 ∷ 10 ∷ []
    front_is = join_text a p f j ∙ ap (λ z. text a ++ z) pair_is

    pub pair_second : CanJoin f b
    pair_second =
        let s : IsSeam (text f) (text b) =
        record { apart = rw (front_is, ends_in_cr-append (text a) 13 (10 ∷ [])) refl } in
        can_join f b (breaks ∙ sym j.same_breaks) s
        (omega (
          arith,
          fits,
          ap byte_len front_is,
          IsMeasure-byte_len.joined (text a) (13 ∷ 10 ∷ []),
          byte_len-pair,
        ))

    pub pair_joined : (r : Tree) → IsJoin f b r → text r ≡ text a ++ 13 ∷ 10 ∷ text b
    pair_joined r k = join_text f b r k ∙ ap (λ z. z ++ text b) front_is
        ∙ append_assoc (text a) (13 ∷ 10 ∷ []) (text b)

pub chars_crlf : chars (13 ∷ 10 ∷ []) ≡ 13 ∷ 10 ∷ []
unfolding chars
chars_crlf = refl

-- the text without the two characters that meet, and with them
pub record Meets (t u : List ℕ) (i j : ℕ) : Type 0 where
  pub some : 1 ≤ i
  pub more : j < length u
  pub text_is : take i t ++ drop j u ≡ take (i - 1) t ++ 13 ∷ 10 ∷ drop (j + 1) u
  pub sizes : byte_len (take (i - 1) t) + byte_len (drop (j + 1) u) + 2
      ≡ byte_len (take i t) + byte_len (drop j u)

pub meets : (t u : List ℕ) (i j : ℕ) → i ≤ length t → parts_crlf (take i t) (drop j u) ≡ true
    → Meets t u i j
meets t u i j le e =
    let two = and_parts (ends_in_cr (take i t)) (begins_with_lf (drop j u)) e in
    let long : length (take i t) ≡ i = length-take-le i t le in
    let some : 1 ≤ i = omega (arith, some_cr (take i t) two.0) in
    let more : j < length u = omega (arith, begins_some (drop j u) two.1, length-drop j u) in
    let front : take i t ≡ take (i - 1) t ++ 13 ∷ [] = cr_last (take i t) two.0
    ∙ ap (λ n. take (n - 1) (take i t) ++ 13 ∷ []) long
    ∙ ap (λ z. z ++ 13 ∷ []) (take-take (i - 1) i t (omega arith)) in
    let back : drop j u ≡ 10 ∷ drop (j + 1) u = lf_first (drop j u) two.1
    ∙ ap (λ z. 10 ∷ z) (drop-drop 1 j u ∙ ap (λ n. drop n u) (omega arith)) in
    record {
      some = some;
      more = more;
      text_is = ap (λ z. z ++ drop j u) front ∙ ap (λ z. (take (i - 1) t ++ 13 ∷ []) ++ z) back
          ∙ append_assoc (take (i - 1) t) (13 ∷ []) (10 ∷ drop (j + 1) u);
      sizes = omega (
        arith,
        ap byte_len front,
        ap byte_len back,
        IsMeasure-byte_len.joined (take (i - 1) t) (13 ∷ []),
        IsMeasure-byte_len.joined (10 ∷ []) (drop (j + 1) u),
        byte_len-pair,
        IsMeasure-byte_len.joined (13 ∷ []) (10 ∷ []),
      );
    }

-- a text does not grow by a removal
pub left_le : (t : List ℕ) (i j : ℕ) → i ≤ j
    → byte_len (take i t) + byte_len (drop j t) ≤ byte_len t
left_le t i j le =
    let whole = size_parts byte_len IsMeasure-byte_len t j in
    let part = size_parts byte_len IsMeasure-byte_len (take j t) i in
    let same = ap byte_len (take-take i j t le) in
    omega arith
