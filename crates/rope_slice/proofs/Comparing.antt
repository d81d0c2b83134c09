-- A comparison in progress.
use Rattle.std.proofs.Common.{IsTrue, ◌↔◌, Ordering, Less, Equal, Greater, ◌==◌, Bool, true, not, nat_eq, refl, ◌≡◌, ℕ, List, [], ◌++◌, length, sym, ap, ◌∙◌}
use Rattle.std.proofs.lemmas.Str.{encodes_same}
use Rattle.std.specs.Str.{encode_utf8_all}
use lib.Pointwise.{pointwise, bytes_decides}
use Rattle.std.specs.Cmp.Lexicographic.{slice_cmp}
use Rattle.std.specs.Ordering.{nat_cmp, ordering_index, is_eq}
use Rattle.std.specs.Cmp.{both_ways, Equal-is}
use Rattle.rope_text.specs.Compare.{text_cmp}
use Rattle.rope_text.proofs.CompareLaws.{same_from_text_cmp, text_cmp_same}

-- the rests compare as the wholes, and a front is empty only if nothing remains
pub record IsComparing (a b x a_rest y b_rest : List ℕ) : Type 0 where
  pub same : slice_cmp nat_cmp (x ++ a_rest) (y ++ b_rest) ≡ slice_cmp nat_cmp a b
  pub x_some : length x ≡ 0 → a_rest ≡ []
  pub y_some : length y ≡ 0 → b_rest ≡ []

-- unequal pieces don't tie
pub untied : (o : Ordering) → (o ≡ Equal → ⊥) → not (ordering_index o == 1) ≡ true
untied Less other = refl
untied Equal other = absurd (other refl)
untied Greater other = refl

-- a test for equal texts compares their bytes one by one
pub same_by_bytes : (r : Bool) (s t : List ℕ) → IsTrue r ↔ (s ≡ t)
    → r ≡ pointwise nat_eq (encode_utf8_all s) (encode_utf8_all t)
same_by_bytes r s t same =
    let bytes = bytes_decides (encode_utf8_all s) (encode_utf8_all t) in
    both_ways r _ (λ h. bytes.1 (ap encode_utf8_all (same.0 h)))
    (λ h. same.1 (encodes_same s t (bytes.0 h)))

pub bytes_tell : (s t : List ℕ)
    → IsTrue (pointwise nat_eq (encode_utf8_all s) (encode_utf8_all t)) ↔ (s ≡ t)
bytes_tell s t =
    let bytes = bytes_decides (encode_utf8_all s) (encode_utf8_all t) in
    (λ h. encodes_same s t (bytes.0 h), λ e. bytes.1 (ap encode_utf8_all e))

-- a tie means that two texts are equal
pub ties_tell : (s t : List ℕ) (o : Ordering) (r : Bool) → o ≡ text_cmp s t → r ≡ is_eq o
    → IsTrue r ↔ (s ≡ t)
ties_tell s t o r e f = (
  λ h. same_from_text_cmp s t (sym e ∙ (Equal-is o).0 (sym f ∙ h)),
  λ g. f ∙ ap is_eq (e ∙ text_cmp_same s t g),
)
