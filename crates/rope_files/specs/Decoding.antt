-- A decoding under way. Private working definitions: only clauses of private functions cite them.
use Rattle.std.specs.Prelude.{◌≡◌, ℕ, ◌+◌, ◌-◌, ◌*◌, ◌^◌, ◌≤◌, min, true, List, ◌++◌, length, take, drop, Some}
use Rattle.std.specs.Str.{all_scalars, encode_utf8_all}
use Rattle.rope_text.specs.Edit.{size_error, IsRefusal}
use Rattle.rope_text.specs.Text.{byte_len}
use Rattle.rope_files.specs.Layouts.{laid_out, IsUnpaired}
use Rattle.rope_files.specs.Reading.{IsOpen}
use Rattle.rope_files.specs.declared.error.ReadAnyError.{ReadAnyError}
use Rattle.rope_files.specs.declared.error.ReadAnyError.TheVariants.{Read, NoMark, InvalidUtf8, UnpairedSurrogate, HalfCodeUnit, Rope}
use Rattle.rope_files.specs.declared.layout.Layout.{Layout}

-- the first n bytes are a text, and this is its UTF-8
pub record IsDecoded (layout : Layout) (bytes : List ℕ) (n : ℕ) (utf8 : List ℕ) : Type 0 where
  pub text : List ℕ
  pub within : n ≤ length bytes
  pub laid : take n bytes ≡ laid_out layout text
  pub encoded : utf8 ≡ encode_utf8_all text
  pub scalars : all_scalars text ≡ true
  pub most : length utf8 ≤ 2 * n

-- the text in the first n of the held bytes was added, and what follows it was moved to the
-- buffer's front
pub record Settles (layout : Layout) (old new held buffer : List ℕ) (n : ℕ) : Type 0 where
  pub text : List ℕ
  pub within : n ≤ length held
  pub laid : take n held ≡ laid_out layout text
  pub added : new ≡ old ++ text
  pub rest : take (length held - n) buffer ≡ drop n held
  pub is_open : IsOpen (Some layout) (drop n held)
  pub scalars : all_scalars text ≡ true

-- a text at the front of the held bytes, and what follows it
pub record Parts (layout : Layout) (held text rest : List ℕ) : Type 0 where
  pub whole : held ≡ laid_out layout text ++ rest
  pub scalars : all_scalars text ≡ true

-- why the held bytes, whose first is that at this offset, weren't added to the text
abbrev pub IsSettleError : Layout → List ℕ → List ℕ → ℕ → ReadAnyError → Type 0
IsSettleError layout old held offset (Read e) = ⊥
IsSettleError layout old held offset NoMark = ⊥
IsSettleError layout old held offset InvalidUtf8 = ⊥
IsSettleError layout old held offset (UnpairedSurrogate at) = (text rest : List ℕ)
    × Parts layout held text rest × IsUnpaired layout rest
    × (at ≡ min (offset + length (laid_out layout text)) (2 ^ 64 - 1))
IsSettleError layout old held offset (HalfCodeUnit at) = ⊥
IsSettleError layout old held offset (Rope e) = (text rest : List ℕ) × Parts layout held text rest
    × IsRefusal (size_error (byte_len (old ++ text))) e

-- why `left` bytes at the end are no text
abbrev pub IsEndError : ℕ → ℕ → ReadAnyError → Type 0
IsEndError left offset (Read e) = ⊥
IsEndError left offset NoMark = ⊥
IsEndError left offset InvalidUtf8 = ⊥
IsEndError left offset (UnpairedSurrogate at) = (left ≡ 1 → ⊥) × (at ≡ offset)
IsEndError left offset (HalfCodeUnit at) = (left ≡ 1) × (at ≡ offset)
IsEndError left offset (Rope e) = ⊥
