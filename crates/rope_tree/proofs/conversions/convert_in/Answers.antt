use Rattle.std.proofs.Common.{◌≡◌, true, refl, length, ap, arith}
use Rattle.std.specs.Str.{chars}
use Rattle.rope_text.specs.Text.{byte_len}
use Rattle.rope_leaf.specs.declared.search.Unit.{Unit}
use Rattle.rope_leaf.specs.declared.search.Unit.TheVariants.{Byte, Char, CodeUnit, LineBreak}
use Rattle.rope_tree.specs.Conversions.{are_converted, converted}
use Rattle.rope_tree.proofs.ConvertedLaws.{ascii_converted}
use Rattle.rope_tree.proofs.conversions.convert_in.Goals.{in_default-via-in-LineBreak+in_default, in_default-via-in-Byte+in-Char-1, in_default-via-in-Char+in-Byte-1, in_default-via-in-CodeUnit}
use Rattle.rope_tree.proofs.conversions.convert_in.Goals as goal

same : (c : goal.After-min) → (c.args.from ≡ LineBreak → ⊥)
    → (c.args.to ≡ LineBreak → c.args.from ≡ CodeUnit)
    → c.min.result ≡ converted c.args.from c.args.to c.args.breaks (chars c.args.text.now)
    c.args.idx
same c from_other to_other =
    let t = chars c.args.text.now in
    let bytes = ap (λ x. x.bytes) c.requires.info in
    let ascii : byte_len t ≡ length t = omega (arith, bytes, ap (λ x. x.chars) c.requires.info) in
    omega (
      arith,
      c.min.ensures,
      bytes,
      ascii_converted c.args.from c.args.to c.args.breaks t
          c.args.idx c.requires.units ascii from_other to_other,
    )

-- a line index is converted only to a byte index or a character index
only_starts : (from to : Unit) → are_converted from to ≡ true → from ≡ LineBreak → (to ≡ Byte → ⊥)
    → (to ≡ Char → ⊥) → ⊥
only_starts LineBreak Byte pair e byte char = byte refl
only_starts LineBreak Char pair e byte char = char refl
only_starts _ _ pair e byte char = cc

pub returns-in_default : goal.returns-in_default
returns-in_default c = elim c.in_default.branch [
  | in_default-via-in-LineBreak+in_default w ↦
      absurd (only_starts c.args.from c.args.to c.requires.units w.in_default.is-0
      w.in_default.not-Byte-1 w.in_default.not-Char-1)
  | in_default-via-in-Byte+in-Char-1 w ↦ same c (λ e. let h = w.in_default.is-0 in
      cc) (λ e. absurd (w.in_default.not-LineBreak-1 e))
  | in_default-via-in-Char+in-Byte-1 w ↦ same c (λ e. let h = w.in_default.is-0 in
      cc) (λ e. absurd (w.in_default.not-LineBreak-1 e))
  | in_default-via-in-CodeUnit w ↦ same c (λ e. let h = w.in_default.is-0 in
      cc) (λ e. w.in_default.is-0)
]
