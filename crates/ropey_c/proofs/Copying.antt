-- A copying under way.
use Rattle.std.proofs.Common.{◌≡◌, ℕ, ◌+◌, ◌-◌, ◌≤◌, List, [], ◌∷◌, ◌++◌, length, take, drop, refl, sym, ap, ◌∙◌, arith, append_assoc}
use Rattle.std.specs.List.{concat}
use Rattle.std.specs.Str.{chars, encode_utf8_all, IsUtf8}
use Rattle.std.proofs.Math.Seq.{take-append_seam}
use Rattle.std.proofs.lemmas.List.{length-append, length-drop, append-nil}
use Rattle.std.proofs.lemmas.Slice.{drop-append-drop}
use Rattle.std.proofs.lemmas.Str.{encodes-append, encodes-chars}
use Rattle.rope_text.specs.Text.{byte_len}

-- the chunks but those ahead have been written over the front of the buffer
pub record IsCopied (old now : List ℕ) (text : List ℕ) (ahead : List (List ℕ)) (at : ℕ) : Type 0
  where
    pub before : List ℕ
    pub whole : text ≡ before ++ concat ahead
    pub place : at ≡ byte_len before
    pub written : now ≡ encode_utf8_all before ++ drop (byte_len before) old

-- more bytes written after those that were
pub more_written : (done more old : List ℕ)
    → take (length done) (done ++ drop (length done) old) ++ more
    ++ drop (length done + length more) (done ++ drop (length done) old)
    ≡ done ++ more ++ drop (length (done ++ more)) old
more_written done more old =
    ap (λ x. x ++ more ++ drop (length done + length more) (done ++ drop (length done) old))
    (take-append_seam done (drop (length done) old))
    ∙ ap (λ x. done ++ more ++ x)
    (drop-append-drop (length done) old done (length done + length more) (omega arith) refl
    ∙ ap (λ n. drop n old) (sym (length-append done more)))

module _ (old now text : List ℕ) (rest : List (List ℕ)) (at : ℕ) (i : IsCopied old now text rest at)
    (s : List ℕ) (more : List (List ℕ)) (next : rest ≡ chars s ∷ more) (utf8 : IsUtf8 s) where
  abbrev done : List ℕ
  done = encode_utf8_all i.before

  whole : text ≡ i.before ++ (chars s ++ concat more)
  whole = i.whole ∙ ap (λ r. i.before ++ concat r) next

  grown : encode_utf8_all (i.before ++ chars s) ≡ done ++ s
  grown = encodes-append i.before (chars s) ∙ ap (λ y. done ++ y) (encodes-chars s utf8)

  size : byte_len text ≡ length (done ++ s) + byte_len (concat more)
  size =
      ap byte_len (whole ∙ sym (append_assoc i.before (chars s) (concat more)))
      ∙ ap length (encodes-append (i.before ++ chars s) (concat more))
      ∙ length-append (encode_utf8_all (i.before ++ chars s)) (encode_utf8_all (concat more))
      ∙ ap (λ x. length x + byte_len (concat more)) grown

  -- there is room for the next chunk
  pub next_fits : byte_len text ≤ length old → at + length s ≤ length now
  next_fits room =
      let len : length now ≡ byte_len i.before + (length old - byte_len i.before) =
      ap length i.written ∙ length-append done (drop (byte_len i.before) old)
      ∙ ap (λ n. byte_len i.before + n) (length-drop (byte_len i.before) old) in
      let both : length (done ++ s) ≡ byte_len i.before + length s = length-append done s in
      omega (arith, i.place, size, len, both, room)

  -- and it was written
  pub next_copied : (new : List ℕ) → new ≡ take at now ++ s ++ drop (at + length s) now
      → IsCopied old new text more (at + length s)
  next_copied new e = record {
    before = i.before ++ chars s;
    whole = whole ∙ sym (append_assoc i.before (chars s) (concat more));
    place = ap (λ n. n + length s) i.place ∙ sym (ap length grown ∙ length-append done s);
    written =
        e ∙ ap (λ n. take n now ++ s ++ drop (n + length s) now) i.place
        ∙ ap (λ b. take (length done) b ++ s ++ drop (length done + length s) b) i.written
        ∙ more_written done s old ∙ ap (λ x. x ++ drop (length x) old) (sym grown);
  }

-- all of it
pub all_copied : (old now text : List ℕ) (rest : List (List ℕ)) (at : ℕ)
    → IsCopied old now text rest at → rest ≡ []
    → now ≡ encode_utf8_all text ++ drop (byte_len text) old
all_copied old now text rest at i none =
    i.written ∙ ap (λ t. encode_utf8_all t ++ drop (byte_len t) old)
    (sym (i.whole ∙ ap (λ r. i.before ++ concat r) none ∙ append-nil i.before))
