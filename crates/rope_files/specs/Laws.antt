-- What files keep of their texts.
use Rattle.std.specs.Prelude.{◌≡◌, true, Bool, List, ℕ, Option, Some, Result, Ok, Err, IfOk, ⊤}
use Rattle.std.specs.Str.{all_scalars}
use Rattle.rope_files.specs.Encodings.{encode}
use Rattle.rope_files.specs.Reading.{ReadsAny, text_read}
use Rattle.rope_files.specs.declared.encoding.Encoding.{Encoding}
use Rattle.rope_files.specs.declared.error.ReadAnyError.{ReadAnyError}
use Rattle.rope_files.specs.declared.error.ReadAnyError.TheVariants.{Read, NoMark, InvalidUtf8, UnpairedSurrogate, HalfCodeUnit, Rope}
use Rattle.ropey.specs.View.{RopeView, IsRope}

-- no other text has these bytes in this encoding
abbrev pub TextsAreTold : Type 0
TextsAreTold = (encoding : Encoding) (text other : List ℕ) → all_scalars text ≡ true
    → all_scalars other ≡ true → encode encoding text ≡ encode encoding other → text ≡ other

-- a rope that is read of a file of this text, with its encoding declared, has this text
abbrev pub WrittenTextsAreRead : Type 0
WrittenTextsAreRead =
    (encoding : Encoding) (text : List ℕ) (left : Option (List ℕ)) (failed : Bool)
    (result : Result (RopeView × Encoding) ReadAnyError) → all_scalars text ≡ true
    → ReadsAny text_read (Some encoding) (Some (encode encoding text)) left failed result
    → IfOk result (λ file. IsRope file.0 → (file.0.text ≡ text) × (file.1 ≡ encoding))

-- the result is that the file has no mark, or that the bytes after it are no text
abbrev pub IsNoText : {R : Type 0} → Result R ReadAnyError → Type 0
IsNoText (Ok r) = ⊥
IsNoText (Err (Read e)) = ⊥
IsNoText (Err NoMark) = ⊤
IsNoText (Err InvalidUtf8) = ⊤
IsNoText (Err (UnpairedSurrogate at)) = ⊤
IsNoText (Err (HalfCodeUnit at)) = ⊤
IsNoText (Err (Rope e)) = ⊥

-- a file of a text, read with its encoding declared, is never refused for its mark or as no text: a
-- rope is returned unless the device fails, the text is too long or there is no memory
abbrev pub WrittenTextsAreTexts : Type 0
WrittenTextsAreTexts =
    (encoding : Encoding) (text : List ℕ) (left : Option (List ℕ)) (failed : Bool)
    (result : Result (RopeView × Encoding) ReadAnyError) → all_scalars text ≡ true
    → ReadsAny text_read (Some encoding) (Some (encode encoding text)) left failed result
    → IsNoText result → ⊥
