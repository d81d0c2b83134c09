-- What C sees of arrays that were filled.
use Rattle.std.proofs.Common.{◌≡◌, ℕ, List, [], ◌∷◌, length, take, map, refl, sym, ap, ◌∙◌, Bor}
use Rattle.std.specs.Str.{chars, encode_utf8_all}
use Rattle.std.specs.Iterator.{YieldsFirstBy}
use Rattle.rope_text.specs.Text.{byte_len}
use Rattle.rope_text.specs.Content.{Content}
use Rattle.rope_text.specs.Sides.{Sides, ahead}
use Rattle.rope_slice.specs.declared.slice.RopeSlice.{RopeSlice}
use Rattle.rope_slice.specs.Slice.{content_of}
use Rattle.ropey_c.specs.Filling.{FillsBy}
use Rattle.ropey_c.specs.Pieces.{bytes_of, len_of, bytes_at, Fills}
use Rattle.ropey_c.specs.Slices.{shown, shown_as, Shows}
use Rattle.ropey_c.specs.declared.pieces.Piece.{Piece}
use Rattle.ropey_c.specs.declared.slices.Slice.{Slice}
use Rattle.ropey_c.proofs.Filling.{filled_count, filled_shows}

lens_of_map : (pieces : List Piece) → map length (map bytes_of pieces) ≡ map len_of pieces
lens_of_map [] = refl
lens_of_map (p ∷ ps) = ap (λ rest. len_of p ∷ rest) (lens_of_map ps)

lens_of_texts : (chunks : List (List ℕ))
    → map length (map encode_utf8_all chunks) ≡ map byte_len chunks
lens_of_texts [] = refl
lens_of_texts (c ∷ cs) = ap (λ rest. byte_len c ∷ rest) (lens_of_texts cs)

lens_of_bytes : (pieces : List Piece) (chunks : List (List ℕ))
    → map bytes_of pieces ≡ map encode_utf8_all chunks → map len_of pieces ≡ map byte_len chunks
lens_of_bytes pieces chunks same = sym (lens_of_map pieces) ∙ ap (map length) same
    ∙ lens_of_texts chunks

-- a piece of a text's bytes
abbrev pub IsPiece : Bor (List ℕ) → Piece → Type 0
IsPiece text piece = bytes_of piece ≡ bytes_at text

-- the pieces are those of the chunks ahead
pub chunks_filled : (s : Sides (List ℕ)) (old new : List Piece) (count : ℕ)
    → FillsBy (YieldsFirstBy (λ x. chars x.now) ahead) IsPiece s old new count
    → Fills (ahead s) old new count
chunks_filled s old new count f =
    let count_is = filled_count IsPiece (λ x. chars x.now) bytes_of encode_utf8_all
    (λ x y is. is) ahead s old new count f in
    let same = filled_shows IsPiece (λ x. chars x.now) bytes_of encode_utf8_all
    (λ x y is. is) ahead s old new count f in
    (count_is, same, lens_of_bytes (take count new) (take count (ahead s)) same, f.kept)

-- what C sees of a slice
abbrev pub IsShown : RopeSlice → Slice → Type 0
IsShown part slice = shown slice ≡ shown_as (content_of part)

-- the slices are those of the lines ahead
pub lines_shown : (s : Sides Content) (old new : List Slice) (count : ℕ)
    → FillsBy (YieldsFirstBy content_of ahead) IsShown s old new count
    → Shows (ahead s) old new count
lines_shown s old new count f = (
  filled_count IsShown content_of shown shown_as (λ x y is. is) ahead s old new count f,
  filled_shows IsShown content_of shown shown_as (λ x y is. is) ahead s old new count f,
  f.kept,
)
