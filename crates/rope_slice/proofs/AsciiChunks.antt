-- A chunk of an ASCII text is ASCII.
use Rattle.std.proofs.Common.{◌≡◌, ℕ, ◌∷◌, List, length, ap, arith, length-append}
use Rattle.std.proofs.lemmas.Str.{length-le-encodes}
use Rattle.std.specs.List.{concat}
use Rattle.rope_text.specs.Text.{byte_len}
use Rattle.rope_text.proofs.CuttingLaws.{concat-append}
use Rattle.rope_text.proofs.Measures.{IsMeasure-byte_len}
use Rattle.rope_slice.specs.Path.{Place, leaves}

pub ascii_here : (p : Place) (text : List ℕ) → concat (leaves p) ≡ text
    → byte_len text ≡ length text → byte_len p.here ≡ length p.here
ascii_here p text whole ascii =
    omega (
      arith,
      ascii,
      ap byte_len (concat-append p.before (p.here ∷ p.after)),
      ap length (concat-append p.before (p.here ∷ p.after)),
      ap byte_len whole,
      ap length whole,
      IsMeasure-byte_len.joined (concat p.before) (concat (p.here ∷ p.after)),
      IsMeasure-byte_len.joined p.here (concat p.after),
      length-append (concat p.before) (concat (p.here ∷ p.after)),
      length-append p.here (concat p.after),
      length-le-encodes (concat p.before),
      length-le-encodes p.here,
      length-le-encodes (concat p.after),
    )
