-- An insert at the byte where a character starts, by characters.
use Rattle.std.proofs.Common.{◌≡◌, ℕ, ◌++◌, List, take, drop, sym, ap, ap₂, subst, ◌∙◌, refl, arith}
use Rattle.std.specs.List.{insert_slice}
use Rattle.std.specs.Str.{chars, IsUtf8, IsCharBoundary}
use Rattle.std.proofs.lemmas.Str.{chars-append, IsUtf8-take, IsUtf8-append}
use Rattle.rope_text.specs.Text.{byte_len}
use Rattle.rope_text.specs.Edit.{inserted}
use Rattle.rope_text.proofs.TextParts.{chars_front, chars_back, byte_len_boundary}

pub boundary_at : (bs : List ℕ) (at place : ℕ) → IsUtf8 bs → place ≡ byte_len (take at (chars bs))
    → IsCharBoundary bs place
boundary_at bs at place u e = subst (IsCharBoundary bs) (sym e) (byte_len_boundary bs at u)

pub inserted_chars : (bs cs from new : List ℕ) (at place : ℕ) → IsUtf8 bs → IsUtf8 new
    → chars bs ≡ cs → bs ≡ from → place ≡ byte_len (take at (chars bs))
    → chars (insert_slice from place new) ≡ inserted cs at (chars new)
inserted_chars bs cs from new at place u v same bytes e =
    let b = boundary_at bs at place u e in
    let front : chars (take place bs) ≡ take at cs =
    chars_front bs (take place bs) cs at place u same e (ap (λ n. take n bs) (omega arith)) in
    let back : chars (drop place bs) ≡ drop at cs =
    chars_back bs (drop place bs) cs at place u same e refl in
    ap (λ x. chars (insert_slice x place new)) (sym bytes)
    ∙ chars-append (take place bs ++ new) (drop place bs)
    (IsUtf8-append (take place bs) new (IsUtf8-take bs place u b) v)
    ∙ ap₂ (λ x y. x ++ y) (chars-append (take place bs) new (IsUtf8-take bs place u b)
    ∙ ap (λ x. x ++ chars new) front) back
