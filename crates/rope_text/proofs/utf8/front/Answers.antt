use Rattle.std.proofs.Common.{ℕ, sym, subst, take, arith}
use Rattle.std.specs.Str.{IsUtf8}
use Rattle.std.proofs.lemmas.List.{length-take-le}
use Rattle.std.proofs.lemmas.Str.{utf8_valid_len_le}
use Rattle.rope_text.proofs.ReadLaws.{IsUtf8-text_front}
use Rattle.rope_text.proofs.utf8.front.Goals as goal

pub slice_bounds-from_utf8_unchecked-end : goal.slice_bounds-from_utf8_unchecked-end
slice_bounds-from_utf8_unchecked-end c =
    sym (length-take-le c.valid_len.result c.args.bytes.now
    (omega (arith, c.valid_len.ensures, utf8_valid_len_le c.args.bytes.now)))

pub from_utf8_unchecked-requires : goal.from_utf8_unchecked-requires
from_utf8_unchecked-requires c = let P : ℕ → Type 0 = λ n. IsUtf8 (take n c.args.bytes.now) in
    subst P (sym c.valid_len.ensures) (IsUtf8-text_front c.args.bytes.now)
