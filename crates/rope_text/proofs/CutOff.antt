-- A text cut in two at a position where its bytes may be cut.
use Rattle.std.proofs.Common.{◌≡◌, ℕ, ◌+◌, ◌<◌, true, false, List, [], ◌∷◌, ◌++◌, length, take, drop, refl, ap, sym, ◌∙◌, arith, take-append-drop, inl, inr}
use Rattle.std.proofs.lemmas.Bool.{cases_lt}
use Rattle.std.specs.Str.{chars, IsUtf8, IsCharBoundary}
use Rattle.std.proofs.lemmas.Str.{chars-append, IsUtf8-take, IsUtf8-drop, IsCharBoundary-start, length-le-encodes}
use Rattle.rope_text.specs.Breaks.{ends_in_cr}
use Rattle.rope_text.specs.Text.{byte_len}
use Rattle.rope_text.proofs.LineSeams.{never}
use Rattle.rope_text.proofs.Measures.{IsMeasure-byte_len}
use Rattle.rope_text.proofs.TextParts.{chars-take, chars-drop}
use Rattle.rope_text.proofs.Walks.{byte_len-chars}
use Rattle.rope_text.specs.Cuts.{is_cut}
use Rattle.rope_text.specs.Cutting.{parts_crlf}
use Rattle.rope_text.proofs.Apart.{apart_at_cut}
use Rattle.rope_text.proofs.CutFacts.{boundary_of_cut}

-- the two halves, by characters
pub record IsCutOff (bs : List ℕ) (r : ℕ) : Type 0 where
  pub front : IsUtf8 (take r bs)
  pub back : IsUtf8 (drop r bs)
  pub whole : chars (take r bs) ++ chars (drop r bs) ≡ chars bs
  pub apart : parts_crlf (chars (take r bs)) (chars (drop r bs)) ≡ false

pub cut_off : (bs : List ℕ) (r : ℕ) → IsUtf8 bs → 0 < r → r < length bs → is_cut bs r ≡ true
    → IsCutOff bs r
cut_off bs r u some inside cut =
    let at : IsCharBoundary bs r = boundary_of_cut bs r u (omega arith) cut in
    let v = IsUtf8-take bs r u at in
    let w = IsUtf8-drop bs r u at in
    record {
      front = v;
      back = w;
      whole = sym (chars-append (take r bs) (drop r bs) v) ∙ ap chars (take-append-drop r bs);
      apart = apart_at_cut bs r v w some inside cut;
    }

-- nothing is cut off
pub none_off : (bs : List ℕ) → IsUtf8 bs → IsCutOff bs 0
unfolding chars
none_off bs u = record {
  front = IsUtf8-take bs 0 u (IsCharBoundary-start bs u);
  back = u;
  whole = refl;
  apart = refl;
}

empty_front : (s t : List ℕ) → byte_len s ≡ 0 → parts_crlf s t ≡ false
empty_front [] t none = refl
empty_front (c ∷ s) t none = absurd (omega (arith, none, length-le-encodes (c ∷ s)))

empty_back : (s t : List ℕ) → byte_len t ≡ 0 → parts_crlf s t ≡ false
empty_back s [] none = never (ends_in_cr s)
empty_back s (c ∷ t) none = absurd (omega (arith, none, length-le-encodes (c ∷ t)))

-- a text cut before its k-th character, where its bytes may be cut
pub apart_before : (bs : List ℕ) (k : ℕ) → IsUtf8 bs
    → is_cut bs (byte_len (take k (chars bs))) ≡ true
    → parts_crlf (take k (chars bs)) (drop k (chars bs)) ≡ false
apart_before bs k u cut =
    let front : List ℕ = take k (chars bs) in
    let back : List ℕ = drop k (chars bs) in
    let r : ℕ = byte_len front in
    let sizes : byte_len front + byte_len back ≡ length bs =
    sym (IsMeasure-byte_len.joined front back) ∙ ap byte_len (take-append-drop k (chars bs))
    ∙ byte_len-chars bs u in
    elim (cases_lt 0 r) [
      | inr none ↦ empty_front front back (omega arith)
      | inl some ↦ elim (cases_lt r (length bs)) [
        | inr all ↦ empty_back front back (omega (arith, sizes))
        | inl inside ↦ sym (ap (λ s. parts_crlf s (chars (drop r bs))) (chars-take bs k u)
            ∙ ap (parts_crlf front) (chars-drop bs k u)) ∙ (cut_off bs r u some inside cut).apart
      ]
    ]
