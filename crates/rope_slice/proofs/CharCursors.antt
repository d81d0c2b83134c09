-- Steps of a cursor over characters.
use Rattle.std.proofs.Common.{All, ◌≡◌, ℕ, ◌+◌, ◌-◌, ◌<◌, ◌≤◌, List, [], ◌∷◌, ◌++◌, length, take, drop, refl, ap, sym, ◌∙◌, arith, append_assoc, length-append, length-take}
use Rattle.std.proofs.lemmas.List.{append-nil, take-append-drop, take_all, drop_all}
use Rattle.std.proofs.lemmas.Str.{chars-nil}
use Rattle.std.specs.List.{concat}
use Rattle.std.specs.Str.{chars}
use Rattle.rope_text.specs.Conversions.{char_to_byte}
use Rattle.rope_text.proofs.CuttingLaws.{concat-append}
use Rattle.rope_text.proofs.TextParts.{chars-take, chars-drop, byte_len_boundary}
use Rattle.rope_slice.specs.Path.{Place, IsNext, leaves}
use Rattle.rope_slice.specs.Point.{IsChunkAt, IsCharBetween}
use Rattle.rope_slice.specs.Chars.{IsCharCursor}
use Rattle.rope_slice.proofs.Points.{here_solid, AreSolid_same, chunk_some}
use Rattle.rope_slice.proofs.Spans.{leaves_next}

pub no_front : (text : List ℕ) → chars (take 0 text) ≡ []
no_front text = chars-nil

pub no_rest : (text : List ℕ) (at : ℕ) → length text ≤ at → chars (drop at text) ≡ []
no_rest text at past = ap chars (drop_all at text past) ∙ chars-nil

-- over a character of the chunk
module _ (p : Place) (chunk : List ℕ) (start end x : ℕ) (b : IsCharBetween chunk start end x) where
  pub before_passed : concat p.before ++ chars (take end chunk)
      ≡ (concat p.before ++ chars (take start chunk)) ++ x ∷ []
  before_passed = ap (λ cs. concat p.before ++ cs) b.front
      ∙ sym (append_assoc (concat p.before) (chars (take start chunk)) (x ∷ []))

  pub after_passed : chars (drop start chunk) ++ concat p.after
      ≡ x ∷ (chars (drop end chunk) ++ concat p.after)
  after_passed = ap (λ cs. cs ++ concat p.after) b.rest

  one_more : length (concat p.before ++ chars (take end chunk))
      ≡ length (concat p.before ++ chars (take start chunk)) + 1
  one_more = ap length before_passed
      ∙ length-append (concat p.before ++ chars (take start chunk)) (x ∷ [])

  pub cursor_after : (passed total : ℕ) → IsCharCursor p chunk start passed total
      → IsCharCursor p chunk end (passed + 1) total
  cursor_after passed total c = record {
    chunk_is = c.chunk_is;
    cut = b.end_cut;
    passed_is = omega (arith, c.passed_is, one_more);
    total_is = omega (arith, c.total_is, ap length after_passed);
    solid = c.solid;
  }

  pub cursor_before : (passed total : ℕ) → IsCharCursor p chunk end passed total
      → IsCharCursor p chunk start (passed - 1) total
  cursor_before passed total c = record {
    chunk_is = c.chunk_is;
    cut = b.start_cut;
    passed_is = omega (arith, c.passed_is, one_more);
    total_is = omega (arith, c.passed_is, c.total_is, one_more, ap length after_passed);
    solid = c.solid;
  }

-- the characters before the next chunk, and those from it on
module _ (p q : Place) (chunk next : List ℕ) (n : IsNext p q) (h : IsChunkAt p chunk)
    (k : IsChunkAt q next) where
  chars_before : concat q.before ≡ concat p.before ++ chars chunk
  chars_before = ap concat n.before ∙ concat-append p.before (p.here ∷ [])
      ∙ ap (λ x. concat p.before ++ x) (append-nil p.here ∙ sym h.here)

  chars_after : concat p.after ≡ chars next ++ concat q.after
  chars_after = ap concat n.after ∙ ap (λ x. x ++ concat q.after) (sym k.here)

  -- the next chunk is not empty, unless at the end; neither is the previous one, unless at the
  -- start
  pub next_some : (at passed total : ℕ) → IsCharCursor p chunk at passed total
      → (passed ≡ total → ⊥) → 0 < length next
  next_some at passed total c more =
      let some : 0 < total = omega (arith, c.total_is, more) in
      chunk_some q next k (here_solid q total (AreSolid_same p q total (leaves_next p q n) c.solid)
      some)

  pub prev_some : (at passed total : ℕ) → IsCharCursor q next at passed total → (passed ≡ 0 → ⊥)
      → 0 < length chunk
  prev_some at passed total c more =
      let some : 0 < total = omega (arith, c.total_is, more) in
      chunk_some p chunk h (here_solid p total
      (AreSolid_same q p total (sym (leaves_next p q n)) c.solid) some)

  -- the first character there, passed
  module _ (at end x : ℕ) (past : length chunk ≤ at) (b : IsCharBetween next 0 end x) where
    pub first_right : chars (drop at chunk) ++ concat p.after ≡ x
        ∷ (chars (drop end next) ++ concat q.after)
    first_right = ap (λ cs. cs ++ concat p.after) (no_rest chunk at past) ∙ chars_after
        ∙ ap (λ cs. cs ++ concat q.after) b.rest

    pub first_left : concat q.before ++ chars (take end next)
        ≡ (concat p.before ++ chars (take at chunk)) ++ x ∷ []
    first_left =
        ap (λ cs. concat q.before ++ cs) (b.front ∙ ap (λ cs. cs ++ x ∷ []) (no_front next))
        ∙ ap (λ cs. cs ++ x ∷ []) (chars_before
        ∙ ap (λ bs. concat p.before ++ chars bs) (sym (take_all at chunk past)))

    pub cursor_next : (passed total : ℕ) → IsCharCursor p chunk at passed total
        → IsCharCursor q next end (passed + 1) total
    cursor_next passed total c = record {
      chunk_is = k;
      cut = b.end_cut;
      passed_is =
          omega (
            arith,
            c.passed_is,
            ap length first_left,
            length-append (concat p.before ++ chars (take at chunk)) (x ∷ []),
          );
      total_is = omega (arith, c.total_is, ap length first_right);
      solid = AreSolid_same p q total (leaves_next p q n) c.solid;
    }

  -- the last character of the chunk before, passed
  module _ (at start x : ℕ) (first : at ≡ 0) (b : IsCharBetween chunk start (length chunk) x) where
    pub last_left : concat q.before ++ chars (take at next)
        ≡ (concat p.before ++ chars (take start chunk)) ++ x ∷ []
    last_left =
        let whole : take (length chunk) chunk ≡ chunk =
        take_all (length chunk) chunk (omega arith) in
        ap (λ i. concat q.before ++ chars (take i next)) first
        ∙ ap (λ cs. concat q.before ++ cs) (no_front next) ∙ append-nil (concat q.before)
        ∙ chars_before ∙ ap (λ cs. concat p.before ++ cs) (ap chars (sym whole) ∙ b.front)
        ∙ sym (append_assoc (concat p.before) (chars (take start chunk)) (x ∷ []))

    pub last_right : chars (drop start chunk) ++ concat p.after ≡ x
        ∷ (chars (drop at next) ++ concat q.after)
    last_right =
        ap (λ cs. cs ++ concat p.after) (b.rest
        ∙ ap (λ cs. x ∷ cs) (no_rest chunk (length chunk) (omega arith)))
        ∙ ap (λ cs. x ∷ cs) (chars_after
        ∙ ap (λ i. chars (drop i next) ++ concat q.after) (sym first))

    pub cursor_prev : (passed total : ℕ) → IsCharCursor q next at passed total
        → IsCharCursor p chunk start (passed - 1) total
    cursor_prev passed total c =
        let size = length-append (concat p.before ++ chars (take start chunk)) (x ∷ []) in
        record {
          chunk_is = h;
          cut = b.start_cut;
          passed_is = omega (arith, c.passed_is, ap length last_left, size);
          total_is =
              omega (
                arith,
                c.passed_is,
                c.total_is,
                ap length last_left,
                ap length last_right,
                size,
              );
          solid = AreSolid_same q p total (sym (leaves_next p q n)) c.solid;
        }

-- the cursor at a character
module _ (text : List ℕ) (p : Place) (whole : concat (leaves p) ≡ text) (chunk : List ℕ)
    (h : IsChunkAt p chunk) (at within : ℕ) (is : at ≡ char_to_byte (chars chunk) within) where
  front : chars (take at chunk) ≡ take within p.here
  front = ap (λ i. chars (take i chunk)) is ∙ chars-take chunk within h.utf8
      ∙ ap (take within) h.here

  rest : chars (drop at chunk) ≡ drop within p.here
  rest = ap (λ i. chars (drop i chunk)) is ∙ chars-drop chunk within h.utf8
      ∙ ap (drop within) h.here

  pub items_at : (concat p.before ++ chars (take at chunk))
      ++ (chars (drop at chunk) ++ concat p.after) ≡ text
  items_at =
      append_assoc (concat p.before) (chars (take at chunk))
      (chars (drop at chunk) ++ concat p.after)
      ∙ ap (λ cs. concat p.before ++ cs)
      (sym (append_assoc (chars (take at chunk)) (chars (drop at chunk)) (concat p.after))
      ∙ rw (front, rest, take-append-drop within p.here) refl)
      ∙ sym (concat-append p.before (p.here ∷ p.after)) ∙ whole

  pub place_at : (idx : ℕ) → length (concat p.before) + within ≡ idx → within ≤ length p.here
      → length (concat p.before ++ chars (take at chunk)) ≡ idx
  place_at idx e l =
      omega (
        arith,
        length-append (concat p.before) (chars (take at chunk)),
        ap length front,
        length-take within p.here,
      )

  pub cursor_at : (idx total : ℕ) → length (concat p.before) + within ≡ idx → within ≤ length p.here
      → total ≡ length text → (0 < length text → All (λ leaf. 0 < length leaf) (leaves p))
      → IsCharCursor p chunk at idx total
  cursor_at idx total e l all solid = record {
    chunk_is = h;
    cut = rw is (byte_len_boundary chunk within h.utf8);
    passed_is = sym (place_at idx e l);
    total_is =
        omega (
          arith,
          place_at idx e l,
          ap length items_at,
          length-append (concat p.before ++ chars (take at chunk))
              (chars (drop at chunk) ++ concat p.after),
        );
    solid = λ some. solid (omega arith);
  }
