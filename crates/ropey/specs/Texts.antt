-- The texts that an iterator yields, joined, and the text of a reader's bytes.
use Rattle.std.specs.Prelude.{◌≡◌, ℕ, List, ◌++◌, map, Option, None, IfSome}
use Rattle.std.specs.Option.{option_to_list}
use Rattle.std.specs.List.{concat}
use Rattle.std.specs.Str.{chars, encode_utf8_all}
use Rattle.std.specs.Iterator.{YieldsThen}
use Rattle.rope_text.specs.declared.error.Error.{Error}
use Rattle.rope_text.specs.Text.{byte_len}
use Rattle.rope_text.specs.Edit.{size_error, IsRefusal}

-- the bytes, if known, are exactly the text in UTF-8
abbrev pub AreUtf8Of : Option (List ℕ) → List ℕ → Type 0
AreUtf8Of bytes text = IfSome bytes (λ known. encode_utf8_all text ≡ known)

-- the characters of texts, one text after the other
abbrev pub joined_texts : {A : Type 0} → (A → List ℕ) → List A → List ℕ
joined_texts bytes texts = concat (map (λ x. chars (bytes x)) texts)

module _ {S A : Type 0} (steps : S → Option A → S → Type 0) (bytes : A → List ℕ) where
  -- the iterator yields texts that join to this one, and then ends
  abbrev pub YieldsAll : S → S → List ℕ → Type 0
  YieldsAll from to text = (texts : List A)
      × YieldsThen steps from texts None to × (text ≡ joined_texts bytes texts)

  -- the iterator yields texts that fit in a rope, and then one more text or its end: the error is
  -- for that one, of the size of all of them or of memory
  abbrev pub StopsRefused : S → S → Error → Type 0
  StopsRefused from to error = (texts : List A) × (last : Option A)
      × YieldsThen steps from texts last to
      × (size_error (byte_len (joined_texts bytes texts)) ≡ None)
      × IsRefusal (size_error (byte_len (joined_texts bytes (texts ++ option_to_list last)))) error

module _ {U S A : Type 0} (becomes : U → S → Type 0) (steps : S → Option A → S → Type 0)
    (bytes : A → List ℕ) where
  -- the text is all that the source yields until it ends
  abbrev pub IsAllOf : U → List ℕ → Type 0
  IsAllOf source text = (from : S) × (to : S)
      × becomes source from × YieldsAll steps bytes from to text

  -- the error is for a text that the source yields, or the end, after texts that fit in a rope
  abbrev pub IsRefusedOf : U → Error → Type 0
  IsRefusedOf source error = (from : S) × (to : S)
      × becomes source from × StopsRefused steps bytes from to error
