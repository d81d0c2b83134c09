-- Bytes that may follow each other are a text, up to the last position where no character is
-- unfinished.
use Rattle.std.proofs.Common.{◌≡◌, ℕ, zero, suc, ◌+◌, ◌-◌, ◌*◌, ◌/◌, ◌%◌, ◌<◌, ◌≤◌, ◌⊎◌, inl, inr, Bool, true, false, cond, not, eqb, leb, List, [], ◌∷◌, ◌++◌, length, take, drop, get_or, count_by, refl, sym, ap, subst, ◌∙◌, arith, ⊎_elim, take-append-drop}
use Rattle.std.specs.Str.{IsUtf8}
use Rattle.std.specs.List.{range_with_len}
use Rattle.std.specs.Prelude.{replicate}
use Rattle.std.proofs.lemmas.Bool.{cases_lt, eqb-true, not-false, leb-false}
use Rattle.std.proofs.lemmas.Bool.Decides.{nat_tests}
use Rattle.std.proofs.lemmas.List.Sums.{sum_by-cons}
use Rattle.std.proofs.lemmas.Str.{IsUtf8-nil, IsUtf8-append, IsUtf8-encode}
use lib.Utf8.{low_scalar}
use Rattle.std.specs.Char.{IsScalar, encode_utf8}
use Rattle.rope_text.specs.Utf8.{is_fault, fault_at, HasNoFault}
use Rattle.std.specs.Str.Lossy.{utf8_valid_len}
use Rattle.std.proofs.lemmas.List.{take_all, length-take-le, get_or_append_left}
use Rattle.rope_text.specs.Marks.{IsLanes}
use Rattle.rope_text.proofs.Marks.{loaded_from}
use Rattle.rope_text.proofs.ReadLaws.{IsUtf8-text_front, utf8_valid_len-append}
use Rattle.rope_text.proofs.Encoded.{encode_one, encode_two, encode_three, encode_four}

-- a mask that isn't different from 0
pub is_zero : (n : ℕ) → not (eqb n 0) ≡ false → n ≡ 0
is_zero n e = eqb-true n 0 (not-false _ e)

-- if the test holds at none of the indices, it fails at each
pub at_none : (p : ℕ → Bool) (i n : ℕ) → count_by p (range_with_len i n) ≡ 0 → (k : ℕ) → i ≤ k
    → k < i + n → p k ≡ false
at_none p i zero none k low high = absurd (omega arith)
at_none p i (suc n) none k low high =
    let both = sum_by-cons (λ j. cond (p j) 1 0) i (range_with_len (i + 1) n) in
    ⊎_elim
    (λ (first : k < i + 1). (let same : k ≡ i = omega arith in
    ap p same ∙ go (p i) (omega (arith, both, none))))
    (λ (later : i + 1 ≤ k). at_none p (i + 1) n (omega (arith, both, none)) k later (omega arith))
    (cases_lt k (i + 1))
  where
    go : (t : Bool) → cond {A = ℕ} t 1 0 ≡ 0 → t ≡ false
    go true one = absurd (omega (arith, one))
    go false one = refl

-- no byte of ASCII after ASCII is a fault
pub after_ascii : (x y z b : ℕ) → x < 128 → y < 128 → z < 128 → b < 128 → is_fault x y z b ≡ false
after_ascii x y z b hx hy hz hb = grind (arith, nat_tests)

-- the byte b may follow x, y and z
pub record MayFollow (x y z b : ℕ) : Type 0 where
  pub in_char : (192 ≤ z) ⊎ ((224 ≤ y) ⊎ (240 ≤ x)) → (128 ≤ b) × (b < 192)
  pub begins : z < 192 → y < 224 → x < 240 → (b < 128) ⊎ (192 ≤ b)
  pub lead : 192 ≤ z → (194 ≤ z) × (z < 245)
  pub no_overlong : z ≡ 224 → 160 ≤ b
  pub no_overlong_four : z ≡ 240 → 144 ≤ b
  pub no_surrogate : z ≡ 237 → b < 160
  pub not_beyond : z ≡ 244 → b < 144

pub may_follow : (x y z b : ℕ) → is_fault x y z b ≡ false → MayFollow x y z b
may_follow x y z b fine = record {
  in_char =
      ⊎_elim (λ h. grind (arith, nat_tests))
      (⊎_elim (λ h. grind (arith, nat_tests)) (λ h. grind (arith, nat_tests)));
  begins = λ p q r. grind (arith, nat_tests);
  lead = λ h. (grind (arith, nat_tests), grind (arith, nat_tests));
  no_overlong = λ e. grind (arith, nat_tests);
  no_overlong_four = λ e. grind (arith, nat_tests);
  no_surrogate = λ e. grind (arith, nat_tests);
  not_beyond = λ e. grind (arith, nat_tests);
}

-- ---- characters of one to four bytes

char_text : (c : ℕ) (bs : List ℕ) → IsScalar c → encode_utf8 c ≡ bs → IsUtf8 bs
char_text c bs s e = subst IsUtf8 e (IsUtf8-encode c s)

high_scalar : (c : ℕ) → 57344 ≤ c → c < 1114112 → IsScalar c
high_scalar c low high = grind (arith, nat_tests)

one_byte : (a : ℕ) → a < 128 → IsUtf8 (a ∷ [])
one_byte a h = char_text a (a ∷ []) (low_scalar a (omega arith)) (encode_one a h)

two_bytes : (a b : ℕ) → 194 ≤ a → a < 224 → (128 ≤ b) × (b < 192) → IsUtf8 (a ∷ b ∷ [])
two_bytes a b low high next =
    let c : ℕ = (a - 192) * 64 + (b - 128) in
    let p : 192 + c / 64 ≡ a = omega arith in
    let q : 128 + c % 64 ≡ b = omega arith in
    char_text c (a ∷ b ∷ []) (low_scalar c (omega arith)) (encode_two c (omega arith) (omega arith)
    ∙ (λ i. p i ∷ q i ∷ []))

-- a premise on one number, split
where_equal : (P : Type 0) (a k : ℕ) → (a ≡ k → P) → (a < k) ⊎ ((k < a) ⊎ P)
where_equal P a k h =
    ⊎_elim (λ (less : a < k). inl less)
    (λ (more : k ≤ a). inr (⊎_elim (λ (same : a < k + 1). inr (h (omega arith)))
    (λ (above : k + 1 ≤ a). inl (omega arith)) (cases_lt a (k + 1)))) (cases_lt a k)

three_bytes : (a b c : ℕ) → 224 ≤ a → a < 240 → (128 ≤ b) × (b < 192) → (128 ≤ c) × (c < 192)
    → (a ≡ 224 → 160 ≤ b) → (a ≡ 237 → b < 160) → IsUtf8 (a ∷ b ∷ c ∷ [])
three_bytes a b c low high second third no_overlong no_surrogate =
    let n : ℕ = (a - 224) * 4096 + (b - 128) * 64 + (c - 128) in
    let overlong = where_equal (160 ≤ b) a 224 no_overlong in
    let surrogate = where_equal (b < 160) a 237 no_surrogate in
    let p : 224 + n / 4096 ≡ a = omega arith in
    let q : 128 + n / 64 % 64 ≡ b = omega arith in
    let r : 128 + n % 64 ≡ c = omega arith in
    let ok : IsScalar n =
    ⊎_elim (λ (h : n < 55296). low_scalar n h)
    (λ (h : 55296 ≤ n). high_scalar n (omega arith) (omega arith)) (cases_lt n 55296) in
    char_text n (a ∷ b ∷ c ∷ []) ok (encode_three n (omega arith) (omega arith)
    ∙ (λ i. p i ∷ q i ∷ r i ∷ []))

four_bytes : (a b c d : ℕ) → 240 ≤ a → a < 245 → (128 ≤ b) × (b < 192) → (128 ≤ c) × (c < 192)
    → (128 ≤ d) × (d < 192) → (a ≡ 240 → 144 ≤ b) → (a ≡ 244 → b < 144)
    → IsUtf8 (a ∷ b ∷ c ∷ d ∷ [])
four_bytes a b c d low high second third fourth no_overlong not_beyond =
    let n : ℕ = (a - 240) * 262144 + (b - 128) * 4096 + (c - 128) * 64 + (d - 128) in
    let overlong = where_equal (144 ≤ b) a 240 no_overlong in
    let beyond = where_equal (b < 144) a 244 not_beyond in
    let p : 240 + n / 262144 ≡ a = omega arith in
    let q : 128 + n / 4096 % 64 ≡ b = omega arith in
    let r : 128 + n / 64 % 64 ≡ c = omega arith in
    let t : 128 + n % 64 ≡ d = omega arith in
    char_text n (a ∷ b ∷ c ∷ d ∷ []) (high_scalar n (omega arith) (omega arith))
    (encode_four n (omega arith) ∙ (λ i. p i ∷ q i ∷ r i ∷ t i ∷ []))

-- ---- bytes each of which may follow those before it

-- with no unfinished character at the end
abbrev Follow : ℕ → ℕ → ℕ → List ℕ → Type 0
Follow x y z [] = (x < 240) × (y < 224) × (z < 192)
Follow x y z (b ∷ bs) = MayFollow x y z b × Follow y z b bs

-- n of them are a text, if no character is unfinished before them
abbrev AreText : ℕ → Type 0
AreText n = (x y z : ℕ) (bs : List ℕ) → length bs ≤ n → x < 240 → y < 224 → z < 192
    → Follow x y z bs → IsUtf8 bs

after_three : (n : ℕ) → AreText n → (a b c : ℕ) (bs : List ℕ) → length bs ≤ n → 240 ≤ a → a < 245
    → (128 ≤ b) × (b < 192) → (128 ≤ c) × (c < 192) → (a ≡ 240 → 144 ≤ b) → (a ≡ 244 → b < 144)
    → Follow a b c bs → IsUtf8 (a ∷ b ∷ c ∷ bs)
after_three n more a b c [] few low high second third no_overlong not_beyond f =
    absurd (omega arith)
after_three n more a b c (d ∷ bs) few low high second third no_overlong not_beyond f =
    let fourth = f.0.in_char (inr (inr low)) in
    IsUtf8-append (a ∷ b ∷ c ∷ d ∷ []) bs
    (four_bytes a b c d low high second third fourth no_overlong not_beyond)
    (more b c d bs (omega arith) (omega arith) (omega arith) (omega arith) f.1)

after_two : (n : ℕ) → AreText n → (y z a b : ℕ) (bs : List ℕ) → length bs ≤ n → 224 ≤ a → a < 245
    → MayFollow y z a b → Follow z a b bs → IsUtf8 (a ∷ b ∷ bs)
after_two n more y z a b [] few low high m f = absurd (omega arith)
after_two n more y z a b (c ∷ bs) few low high m f =
    let second = m.in_char (inl (omega arith)) in
    let third = f.0.in_char (inr (inl low)) in
    ⊎_elim
    (λ (h : a < 240). IsUtf8-append (a ∷ b ∷ c ∷ []) bs
    (three_bytes a b c low h second third m.no_overlong m.no_surrogate)
    (more a b c bs (omega arith) h (omega arith) (omega arith) f.1))
    (λ (h : 240 ≤ a). after_three n more a b c bs (omega arith) h high second third
    m.no_overlong_four m.not_beyond f.1)
    (cases_lt a 240)

after_one : (n : ℕ) → AreText n → (y z a : ℕ) (bs : List ℕ) → length bs ≤ n → z < 192 → 192 ≤ a
    → Follow y z a bs → IsUtf8 (a ∷ bs)
after_one n more y z a [] few before low f = absurd (omega arith)
after_one n more y z a (b ∷ bs) few before low f =
    let second = f.0.in_char (inl (omega arith)) in
    let lead = f.0.lead low in
    ⊎_elim
    (λ (h : a < 224). IsUtf8-append (a ∷ b ∷ []) bs (two_bytes a b lead.0 h second)
    (more z a b bs (omega arith) (omega arith) h (omega arith) f.1))
    (λ (h : 224 ≤ a). after_two n more y z a b bs (omega arith) h lead.1 f.0 f.1)
    (cases_lt a 224)

are_text : (n : ℕ) → AreText n
are_text n x y z [] few hx hy hz f = IsUtf8-nil
are_text zero x y z (a ∷ bs) few hx hy hz f = absurd (omega arith)
are_text (suc n) x y z (a ∷ bs) few hx hy hz f =
    ⊎_elim
    (λ (h : a < 128). IsUtf8-append (a ∷ []) bs (one_byte a h)
    (are_text n y z a bs (omega arith) (omega arith) (omega arith) (omega arith) f.1))
    (λ (h : 192 ≤ a). after_one n (are_text n) y z a bs (omega arith) hz h f.1)
    (f.0.begins hz hy hx)

-- ---- the same facts, by indices

fault_next : (a : ℕ) (bs : List ℕ) (k : ℕ) → fault_at (a ∷ bs) (suc k) ≡ fault_at bs k
fault_next a bs k =
    let e : suc k + 1 ≡ suc (k + 1) = omega arith in
    let f : suc k + 2 ≡ suc (k + 2) = omega arith in
    let g : suc k + 3 ≡ suc (k + 3) = omega arith in
    rw (e, f, g) refl

follow : (x y z : ℕ) (bs : List ℕ) (n : ℕ) → n ≤ length bs
    → ((k : ℕ) → k < n → fault_at (x ∷ y ∷ z ∷ bs) k ≡ false)
    → get_or (x ∷ y ∷ z ∷ bs) n 0 < 240 → get_or (x ∷ y ∷ z ∷ bs) (n + 1) 0 < 224
    → get_or (x ∷ y ∷ z ∷ bs) (n + 2) 0 < 192 → Follow x y z (take n bs)
follow x y z bs zero within fine p q r = (p, q, r)
follow x y z [] (suc n) within fine p q r = absurd (omega arith)
follow x y z (b ∷ bs) (suc n) within fine p q r =
    let e : suc n + 1 ≡ suc (n + 1) = omega arith in
    let f : suc n + 2 ≡ suc (n + 2) = omega arith in (
      may_follow x y z b (fine 0 (omega arith)),
      follow y z b bs n (omega arith) (λ k h. sym (fault_next x (y ∷ z ∷ b ∷ bs) k)
          ∙ fine (suc k) (omega arith)) p (rw e at q) (rw f at r),
    )

text_to : (bs : List ℕ) (n : ℕ) → n ≤ length bs → HasNoFault bs n
    → get_or (0 ∷ 0 ∷ 0 ∷ bs) n 0 < 240 → get_or (0 ∷ 0 ∷ 0 ∷ bs) (n + 1) 0 < 224
    → get_or (0 ∷ 0 ∷ 0 ∷ bs) (n + 2) 0 < 192 → IsUtf8 (take n bs)
text_to bs n within fine p q r =
    are_text (length (take n bs)) 0 0 0 (take n bs) (omega arith) (omega arith) (omega arith)
    (omega arith) (follow 0 0 0 bs n within fine.none p q r)

following : (bs : List ℕ) (k n : ℕ) → n ≡ k + 3 → get_or (0 ∷ 0 ∷ 0 ∷ bs) n 0 ≡ get_or bs k 0
following bs k n e = let same : n ≡ suc (suc (suc k)) = omega arith in
    ap (λ j. get_or (0 ∷ 0 ∷ 0 ∷ bs) j 0) same

-- no character is unfinished where one begins
pub text_before : (bs : List ℕ) (n m : ℕ) → HasNoFault bs n → m < n → n ≤ length bs
    → 192 ≤ get_or bs m 0 → IsUtf8 (take m bs)
text_before bs n m fine inside within high =
    let w : List ℕ = 0 ∷ 0 ∷ 0 ∷ bs in
    let here =
    may_follow (get_or w m 0) (get_or w (m + 1) 0) (get_or w (m + 2) 0) (get_or w (m + 3) 0)
    (fine.none m inside) in
    let b : 192 ≤ get_or (0 ∷ 0 ∷ 0 ∷ bs) (m + 3) 0 = omega (arith, following bs m (m + 3) refl) in
    let x : 240 ≤ get_or (0 ∷ 0 ∷ 0 ∷ bs) m 0 → ⊥ =
    λ h. omega (arith, here.in_char (inr (inr h)), b) in
    let y : 224 ≤ get_or (0 ∷ 0 ∷ 0 ∷ bs) (m + 1) 0 → ⊥ =
    λ h. omega (arith, here.in_char (inr (inl h)), b) in
    let z : 192 ≤ get_or (0 ∷ 0 ∷ 0 ∷ bs) (m + 2) 0 → ⊥ =
    λ h. omega (arith, here.in_char (inl h), b) in
    text_to bs m (omega arith) (record { none = λ k h. fine.none k (omega arith) })
    (omega (arith, x)) (omega (arith, y)) (omega (arith, z))

-- no character is unfinished if the three bytes before need no more
pub text_up_to : (bs : List ℕ) (n x y z : ℕ) → HasNoFault bs n → n ≤ length bs → x + 3 ≡ n
    → y + 2 ≡ n → z + 1 ≡ n
    → get_or bs x 0 < 240 → get_or bs y 0 < 224 → get_or bs z 0 < 192 → IsUtf8 (take n bs)
text_up_to bs n x y z fine within ex ey ez p q r =
    text_to bs n within fine (omega (arith, following bs x n (sym ex)))
    (omega (arith, following bs y (n + 1) (omega arith)))
    (omega (arith, following bs z (n + 2) (omega arith)))

-- the first three, and one block more
pub first_three : (bs : List ℕ) → is_fault 0 0 0 (get_or bs 0 0) ≡ false
    → is_fault 0 0 (get_or bs 0 0) (get_or bs 1 0) ≡ false
    → is_fault 0 (get_or bs 0 0) (get_or bs 1 0) (get_or bs 2 0) ≡ false → HasNoFault bs 3
first_three bs p q r = record { none = go }
  where
    go : (k : ℕ) → k < 3 → fault_at (0 ∷ 0 ∷ 0 ∷ bs) k ≡ false
    go zero h = p
    go (suc zero) h = q
    go (suc (suc zero)) h = r
    go (suc (suc (suc k))) h = absurd (omega arith)

pub block_more : (bs : List ℕ) (at n size : ℕ) → 3 ≤ at → at ≤ n → HasNoFault bs n
    → ((k : ℕ) → at ≤ k + 3 → k + 3 < at + size → fault_at bs k ≡ false) → HasNoFault bs (at + size)
block_more bs at n size from over fine block = record { none = go }
  where
    shifted : (j : ℕ) → fault_at (0 ∷ 0 ∷ 0 ∷ bs) (suc (suc (suc j))) ≡ fault_at bs j
    shifted j = fault_next 0 (0 ∷ 0 ∷ bs) (suc (suc j)) ∙ fault_next 0 (0 ∷ bs) (suc j)
        ∙ fault_next 0 bs j

    go : (k : ℕ) → k < at + size → fault_at (0 ∷ 0 ∷ 0 ∷ bs) k ≡ false
    go k h =
        ⊎_elim
        (λ (before : k < n). fine.none k before)
        (λ (after : n ≤ k). (let j : ℕ = k - 3 in let same : k ≡ suc (suc (suc j)) = omega arith in
        ap (fault_at (0 ∷ 0 ∷ 0 ∷ bs)) same ∙ shifted j ∙ block j (omega arith) (omega arith)))
        (cases_lt k n)

-- the bytes that follow matter to none before them
pub in_front : (xs ys : List ℕ) (n : ℕ) → n ≤ length xs → HasNoFault xs n → HasNoFault (xs ++ ys) n
in_front xs ys n within fine =
    record {
      none = λ k h. (let w : List ℕ = 0 ∷ 0 ∷ 0 ∷ xs in
          let a = get_or_append_left w ys 0 k (omega arith) in
          let b = get_or_append_left w ys 0 (k + 1) (omega arith) in
          let c = get_or_append_left w ys 0 (k + 2) (omega arith) in
          let d = get_or_append_left w ys 0 (k + 3) (omega arith) in
          rw (a, b, c, d) (fine.none k h));
    }

-- bytes after zeros, of which three are before the first that is checked
without_zero : (bs : List ℕ) (n : ℕ) → HasNoFault (0 ∷ bs) (suc n) → HasNoFault bs n
without_zero bs n fine =
    record {
      none = λ k h. sym (fault_next 0 (0 ∷ 0 ∷ 0 ∷ bs) k) ∙ fine.none (suc k) (omega arith);
    }

without_zeros : (m n k : ℕ) (bs : List ℕ) → k ≡ m + n → HasNoFault (replicate m 0 ++ bs) k
    → HasNoFault bs n
without_zeros zero n k bs e fine =
    let same : k ≡ n = omega (arith, e) in subst (HasNoFault bs) same fine
without_zeros (suc m) n zero bs e fine = absurd (omega (arith, e))
without_zeros (suc m) n (suc k) bs e fine =
    without_zeros m n k bs (omega (arith, e)) (without_zero _ _ fine)

pub after_zeros : (m n k : ℕ) (bs zs : List ℕ) → k ≡ 3 + m + n → zs ≡ 0 ∷ 0 ∷ 0 ∷ replicate m 0
    → (HasNoFault (zs ++ bs) 3 → HasNoFault (zs ++ bs) k) → HasNoFault bs n
after_zeros m n k bs zs e same block =
    let P : List ℕ → Type 0 = λ ys. (HasNoFault (ys ++ bs) 3 → HasNoFault (ys ++ bs) k) in
    without_zeros (suc (suc (suc m))) n k bs (omega (arith, e)) (subst P same block
    (first_three (0 ∷ 0 ∷ 0 ∷ (replicate m 0 ++ bs)) refl refl refl))

-- bytes without one above ASCII
pub ascii_block : (bs : List ℕ) (i : ℕ)
    → count_by (λ k. leb 128 (get_or bs k 0)) (range_with_len i 64) ≡ 0 → (k : ℕ) → i ≤ k
    → k < i + 61 → fault_at bs k ≡ false
ascii_block bs i none k from to =
    let low : (j : ℕ) → i ≤ j → j < i + 64 → get_or bs j 0 < 128 =
    λ j p q. leb-false 128 (get_or bs j 0)
    (at_none (λ m. leb 128 (get_or bs m 0)) i 64 none j p q) in
    after_ascii _ _ _ _ (low k from (omega arith)) (low (k + 1) (omega arith) (omega arith))
    (low (k + 2) (omega arith) (omega arith)) (low (k + 3) (omega arith) (omega arith))

-- the bytes from j on, each read at a distance d
pub loaded_at : (bs : List ℕ) (i d j n : ℕ) → i + d ≡ j → j + n ≤ length bs
    → IsLanes (range_with_len i n) (λ k. get_or bs (k + d) 0) (take n (drop j bs))
loaded_at bs i d j n e h = let P : ℕ → Type 0 =
    λ m. IsLanes (range_with_len i n) (λ k. get_or bs (k + d) 0) (take n (drop m bs)) in
    subst P e (loaded_from bs i d n (omega arith))

-- ---- the longest front

pub valid_after : (bs : List ℕ) (k : ℕ) → k ≤ length bs → IsUtf8 (take k bs)
    → utf8_valid_len bs ≡ k + utf8_valid_len (drop k bs)
valid_after bs k within u =
    ap utf8_valid_len (sym (take-append-drop k bs))
    ∙ utf8_valid_len-append (take k bs) (drop k bs) u
    ∙ ap (λ n. n + utf8_valid_len (drop k bs)) (length-take-le k bs within)

pub whole_text : (bs : List ℕ) → length bs ≤ utf8_valid_len bs → IsUtf8 bs
whole_text bs all = subst IsUtf8 (take_all (utf8_valid_len bs) bs all) (IsUtf8-text_front bs)
