-- The line breaks over the bytes of a text are those over its characters.
use Rattle.std.proofs.Common.{◌≡◌, ℕ, ◌+◌, ◌/◌, ◌%◌, ◌<◌, ◌≤◌, cond, Bool, true, false, ◌&&◌, not, eqb, List, [], ◌∷◌, ◌++◌, length, drop, get_or, refl, sym, ap, ◌∙◌, arith}
use Rattle.std.proofs.lemmas.Bool.Decides.{nat_tests}
use Rattle.std.specs.Char.{encode_utf8}
use Rattle.std.specs.Str.{all_scalars, encode_utf8_all, chars, IsUtf8}
use Rattle.std.proofs.lemmas.Str.{encodes-chars, scalars-chars}
use Rattle.std.proofs.lemmas.List.{drop_all}
use Rattle.rope_text.specs.declared.line_breaks.LineBreaks.{LineBreaks}
use Rattle.rope_text.specs.declared.line_breaks.LineBreaks.TheVariants.{Lf, CrLf, Unicode}
use Rattle.rope_text.specs.Breaks.{is_break_char, begins_with_lf, ends_break, break_count}
use Rattle.rope_text.specs.ByteBreaks.{break_at, byte_break_count, char_width}
use Rattle.rope_text.proofs.BreakLaws.{break_count-cons, break_ends-nil}
use Rattle.rope_text.proofs.Encoded.{Encoded, Encoded-encode}
use Rattle.rope_text.proofs.Encoded.Encoded.{one, two, three, four}
use Rattle.rope_text.proofs.FirstBytes.{first_scalar, rest_scalars, starts_same}

-- a byte that continues a character begins no break
continues : (breaks : LineBreaks) (x y z : ℕ) → 128 ≤ x → x < 192 → break_at breaks x y z ≡ false
continues Lf x y z h i = grind (arith, nat_tests)
continues CrLf x y z h i = grind (arith, nat_tests)
continues Unicode x y z h i = grind (arith, nat_tests)

lead_one : (breaks : LineBreaks) (c : ℕ) (rest : List ℕ) (z : ℕ) (lf : Bool) → c < 128
    → eqb (get_or rest 0 0) 10 ≡ lf →
    break_at breaks c (get_or rest 0 0) z ≡ (is_break_char breaks c && not (eqb c 13 && lf))
lead_one Lf c rest z lf h e = grind (arith, nat_tests)
lead_one CrLf c rest z lf h e = grind (arith, nat_tests)
lead_one Unicode c rest z lf h e = grind (arith, nat_tests)

lead_two : (breaks : LineBreaks) (c x y z : ℕ) (lf : Bool) → 128 ≤ c → c < 2048 → x ≡ 192 + c / 64
    → y ≡ 128 + c % 64 →
    break_at breaks x y z ≡ (is_break_char breaks c && not (eqb c 13 && lf))
lead_two Lf c x y z lf h i p q = grind (arith, nat_tests)
lead_two CrLf c x y z lf h i p q = grind (arith, nat_tests)
lead_two Unicode c x y z lf h i p q = grind (arith, nat_tests)

lead_three : (breaks : LineBreaks) (c x y z : ℕ) (lf : Bool) → 2048 ≤ c → c < 65536
    → x ≡ 224 + c / 4096 → y ≡ 128 + c / 64 % 64 → z ≡ 128 + c % 64 →
    break_at breaks x y z ≡ (is_break_char breaks c && not (eqb c 13 && lf))
lead_three Lf c x y z lf h i p q r = grind (arith, nat_tests)
lead_three CrLf c x y z lf h i p q r = grind (arith, nat_tests)
lead_three Unicode c x y z lf h i p q r = grind (arith, nat_tests)

lead_four : (breaks : LineBreaks) (c x y z : ℕ) (lf : Bool) → 65536 ≤ c → c < 1114112
    → x ≡ 240 + c / 262144 →
    break_at breaks x y z ≡ (is_break_char breaks c && not (eqb c 13 && lf))
lead_four Lf c x y z lf h i p = grind (arith, nat_tests)
lead_four CrLf c x y z lf h i p = grind (arith, nat_tests)
lead_four Unicode c x y z lf h i p = grind (arith, nat_tests)

breaks_step : (breaks : LineBreaks) (c : ℕ) (bs rest : List ℕ) (lf : Bool) → Encoded c bs
    → eqb (get_or rest 0 0) 10 ≡ lf →
    byte_break_count breaks (bs ++ rest) ≡ cond (is_break_char breaks c && not (eqb c 13 && lf)) 1 0
    + byte_break_count breaks rest
breaks_step breaks c bs rest lf (one h) e =
    ap (λ (t : Bool). cond {A = ℕ} t 1 0 + byte_break_count breaks rest)
    (lead_one breaks c rest (get_or rest 1 0) lf h e)
breaks_step breaks c bs rest lf (two {x} {y} h i p q) e =
    let first = lead_two breaks c x y (get_or rest 0 0) lf h i p q in
    let second =
    continues breaks y (get_or rest 0 0) (get_or rest 1 0) (omega arith) (omega arith) in
    rw (first, second) (omega arith)
breaks_step breaks c bs rest lf (three {x} {y} {z} h i p q r) e =
    let first = lead_three breaks c x y z lf h i p q r in
    let second = continues breaks y z (get_or rest 0 0) (omega arith) (omega arith) in
    let third =
    continues breaks z (get_or rest 0 0) (get_or rest 1 0) (omega arith) (omega arith) in
    rw (first, second, third) (omega arith)
breaks_step breaks c bs rest lf (four {x} {y} {z} {w} h i p q r s) e =
    let first = lead_four breaks c x y z lf h i p in
    let second = continues breaks y z w (omega arith) (omega arith) in
    let third = continues breaks z w (get_or rest 0 0) (omega arith) (omega arith) in
    let fourth =
    continues breaks w (get_or rest 0 0) (get_or rest 1 0) (omega arith) (omega arith) in
    rw (first, second, third, fourth) (omega arith)

-- one character more in front
pub byte_break_count-cons : (breaks : LineBreaks) (c : ℕ) (cs : List ℕ)
    → all_scalars (c ∷ cs) ≡ true →
    byte_break_count breaks (encode_utf8_all (c ∷ cs))
    ≡ cond (ends_break breaks c cs) 1 0 + byte_break_count breaks (encode_utf8_all cs)
byte_break_count-cons breaks c cs s =
    breaks_step breaks c (encode_utf8 c) (encode_utf8_all cs) (begins_with_lf cs)
    (Encoded-encode c (first_scalar c cs s)) (starts_same cs (rest_scalars c cs s))

pub byte_break_count-encodes : (breaks : LineBreaks) (cs : List ℕ) → all_scalars cs ≡ true
    → byte_break_count breaks (encode_utf8_all cs) ≡ break_count breaks cs
byte_break_count-encodes breaks [] s = rw (break_ends-nil breaks) refl
byte_break_count-encodes breaks (c ∷ cs) s =
    omega (
      arith,
      byte_break_count-cons breaks c cs s,
      break_count-cons breaks c cs,
      byte_break_count-encodes breaks cs (rest_scalars c cs s),
    )

-- the breaks of a text, by its bytes
pub break_count-chars : (breaks : LineBreaks) (bs : List ℕ) → IsUtf8 bs
    → break_count breaks (chars bs) ≡ byte_break_count breaks bs
break_count-chars breaks bs u =
    sym (byte_break_count-encodes breaks (chars bs) (scalars-chars bs u))
    ∙ ap (byte_break_count breaks) (encodes-chars bs u)

pub byte_break_count-past : (breaks : LineBreaks) (bs : List ℕ) (n : ℕ) → length bs ≤ n
    → byte_break_count breaks (drop n bs) ≡ 0
byte_break_count-past breaks bs n h = ap (byte_break_count breaks) (drop_all n bs h)

-- the first bytes decide whether the first character ends a break, and its width
pub break_first : (breaks : LineBreaks) (c : ℕ) (bs rest : List ℕ) (lf : Bool) → Encoded c bs
    → eqb (get_or rest 0 0) 10 ≡ lf →
    break_at breaks (get_or (bs ++ rest) 0 0) (get_or (bs ++ rest) 1 0) (get_or (bs ++ rest) 2 0)
    ≡ (is_break_char breaks c && not (eqb c 13 && lf))
break_first breaks c bs rest lf (one h) e = lead_one breaks c rest (get_or rest 1 0) lf h e
break_first breaks c bs rest lf (two {x} {y} h i p q) e =
    lead_two breaks c x y (get_or rest 0 0) lf h i p q
break_first breaks c bs rest lf (three {x} {y} {z} h i p q r) e =
    lead_three breaks c x y z lf h i p q r
break_first breaks c bs rest lf (four {x} {y} {z} {w} h i p q r s) e =
    lead_four breaks c x y z lf h i p

pub width_first : (c : ℕ) (bs rest : List ℕ) → Encoded c bs
    → char_width (get_or (bs ++ rest) 0 0) ≡ length bs
width_first c bs rest (one h) = grind (arith, nat_tests)
width_first c bs rest (two h i p q) = grind (arith, nat_tests)
width_first c bs rest (three h i p q r) = grind (arith, nat_tests)
width_first c bs rest (four h i p q r s) = grind (arith, nat_tests)
