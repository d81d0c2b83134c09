-- The two halves of a text, and an insert into one of them.
use Rattle.std.proofs.Common.{◌≡◌, ℕ, zero, suc, ◌+◌, ◌<◌, ◌≤◌, true, false, List, [], ◌∷◌, ◌++◌, length, take, drop, sym, ap, ap₂, subst, ◌∙◌, take-append-drop, arith}
use Rattle.std.proofs.Math.Seq.{take-append-add, drop-append-add}
use Rattle.std.proofs.lemmas.List.{append_assoc, take-append-le, drop-append-le, length-drop, length-take-le}
use Rattle.std.proofs.lemmas.Str.{chars-append, scalars-chars}
use Rattle.std.specs.Str.{chars, IsUtf8}
use Rattle.rope_text.specs.declared.line_breaks.LineBreaks.{LineBreaks}
use Rattle.rope_text.specs.declared.text_info.TextInfo.{TextInfo}
use Rattle.rope_text.specs.Text.{byte_len}
use Rattle.rope_text.specs.TextInfo.{info_of, info_sum}
use Rattle.rope_text.specs.Cutting.{parts_crlf}
use Rattle.rope_text.specs.Cuts.{is_cut}
use Rattle.rope_text.specs.Edit.{inserted}
use Rattle.rope_text.proofs.Apart.{apart_at_cut, has_chars}
use Rattle.rope_text.proofs.CuttingLaws.{parts_crlf-append}
use Rattle.rope_text.proofs.InfoLaws.{info_of-append_apart}
use Rattle.rope_text.proofs.Walks.{byte_len-chars}
use Rattle.rope_leaf.specs.Halves.{AreHalves}
use Rattle.rope_leaf.specs.Tree.{leaf_tree, IsTree}
use Rattle.rope_leaf.proofs.GrownLaws.{leaf_is_tree}

-- a text that is split near its middle
pub halves_at : (room : ℕ) (text front back : List ℕ) (cut : ℕ) → front ≡ take cut text
    → back ≡ drop cut text → IsUtf8 front → IsUtf8 back → is_cut text cut ≡ true
    → 491 ≤ length front → 491 ≤ length back → length front + room ≤ 984 → length back + room ≤ 984
    → cut ≤ length text → AreHalves room text front back
halves_at room text front back cut front_is back_is front_utf8 back_utf8 is_cut front_least
    back_least front_room back_room within =
    let first : length front ≡ cut = ap length front_is ∙ length-take-le cut text within in
    let rest : length back + cut ≡ length text =
    omega (arith, ap length back_is, length-drop cut text) in
    record {
      front_utf8 = front_utf8;
      back_utf8 = back_utf8;
      joined = sym (chars-append front back front_utf8)
          ∙ ap chars (ap₂ (λ a b. a ++ b) front_is back_is ∙ take-append-drop cut text);
      apart = ap₂ parts_crlf (ap chars front_is) (ap chars back_is)
          ∙ apart_at_cut text cut (subst IsUtf8 front_is front_utf8)
          (subst IsUtf8 back_is back_utf8) (omega (arith, first, front_least))
          (omega (arith, rest, back_least)) is_cut;
      front_least = front_least;
      back_least = back_least;
      front_room = front_room;
      back_room = back_room;
    }

-- both are texts of leaves, and the counts of the whole are the sums of theirs
module _ {room : ℕ} {text front back : List ℕ} (h : AreHalves room text front back) where
  pub front_bytes : byte_len (chars front) ≡ length front
  front_bytes = byte_len-chars front h.front_utf8

  pub back_bytes : byte_len (chars back) ≡ length back
  back_bytes = byte_len-chars back h.back_utf8

  pub half_some : (0 < length (chars front)) × (0 < length (chars back))
      × (parts_crlf (chars front) (chars back) ≡ false)
  half_some = (
    has_chars front h.front_utf8 (omega (arith, h.front_least)),
    has_chars back h.back_utf8 (omega (arith, h.back_least)),
    h.apart,
  )

  pub half_least : (491 ≤ byte_len (chars front)) × (491 ≤ byte_len (chars back))
  half_least = (omega (arith, front_bytes, h.front_least), omega (arith, back_bytes, h.back_least))

  pub front_tree : (breaks : LineBreaks) → IsTree (leaf_tree breaks (chars front))
  front_tree breaks =
      leaf_is_tree breaks [] (chars front) (omega (arith, front_bytes, h.front_room))
      (scalars-chars front h.front_utf8)

  pub back_tree : (breaks : LineBreaks) → IsTree (leaf_tree breaks (chars back))
  back_tree breaks =
      leaf_is_tree breaks [] (chars back) (omega (arith, back_bytes, h.back_room))
      (scalars-chars back h.back_utf8)

  pub half_counts : (breaks : LineBreaks) (whole first : TextInfo)
      → whole ≡ info_of breaks (chars text) → first ≡ info_of breaks (chars front)
      → whole ≡ info_sum first (info_of breaks (chars back))
  half_counts breaks whole first whole_is first_is =
      whole_is ∙ ap (info_of breaks) (sym h.joined)
      ∙ info_of-append_apart breaks (chars front) (chars back) h.apart
      ∙ ap (λ i. info_sum i (info_of breaks (chars back))) (sym first_is)

pub in_front : (f b s : List ℕ) (at : ℕ) → at ≤ length f
    → inserted f at s ++ b ≡ inserted (f ++ b) at s
in_front f b s at le = append_assoc (take at f ++ s) (drop at f) b
    ∙ ap₂ (λ x y. (x ++ s) ++ y) (sym (take-append-le at f b le)) (sym (drop-append-le at f b le))

pub in_back : (f b s : List ℕ) (k : ℕ) → f ++ inserted b k s ≡ inserted (f ++ b) (length f + k) s
in_back f b s k =
    sym (append_assoc f (take k b ++ s) (drop k b))
    ∙ ap (λ x. x ++ drop k b) (sym (append_assoc f (take k b) s))
    ∙ ap₂ (λ x y. (x ++ s) ++ y) (sym (take-append-add f b k)) (sym (drop-append-add f b k))

of_rest : (p r b : List ℕ) → 1 ≤ length r → parts_crlf (p ++ r) b ≡ false → parts_crlf r b ≡ false
of_rest p [] b some apart = absurd (omega arith)
of_rest p (c ∷ t) b some apart = sym (parts_crlf-append p c t b) ∙ apart

pub apart_after : (p r b : List ℕ) → 1 ≤ length r → parts_crlf r b ≡ false
    → parts_crlf (p ++ r) b ≡ false
apart_after p [] b some apart = absurd (omega arith)
apart_after p (c ∷ t) b some apart = parts_crlf-append p c t b ∙ apart

-- inside of a half, the inserted text isn't at the seam
pub front_seam : (f b s : List ℕ) (at : ℕ) → at < length f → parts_crlf f b ≡ false
    → parts_crlf (inserted f at s) b ≡ false
front_seam f b s at inside apart =
    let some : 1 ≤ length (drop at f) = omega (arith, length-drop at f) in
    apart_after (take at f ++ s) (drop at f) b some
    (of_rest (take at f) (drop at f) b some
    (subst (λ x. parts_crlf x b ≡ false) (sym (take-append-drop at f)) apart))

pub back_seam : (f b s : List ℕ) (k : ℕ) → 1 ≤ k → k ≤ length b → parts_crlf f b ≡ false
    → parts_crlf f (inserted b k s) ≡ false
back_seam f [] s k some within apart = absurd (omega arith)
back_seam f (c ∷ t) s zero some within apart = absurd (omega arith)
back_seam f (c ∷ t) s (suc k) some within apart = apart
