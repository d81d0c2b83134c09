use Rattle.std.proofs.Common.{◌≡◌, ℕ, ◌+◌, ◌-◌, ◌≤◌, ◌/◌, ◌^◌, List, length, drop, refl, min, arith}
use Rattle.rope_text.specs.declared.lanes.Mark.{Mark}
use Rattle.rope_text.specs.declared.lanes.Mark.TheVariants.{Char, Pair, Break}
use Rattle.rope_text.specs.declared.line_breaks.LineBreaks.{LineBreaks}
use Rattle.rope_text.specs.Bits.{ones_below}
use Rattle.rope_text.specs.Marks.{IsBlockMask, marks}
use Rattle.rope_text.specs.Scan.{IsFront}
use Rattle.rope_text.proofs.Backs.{in_block}
use Rattle.rope_text.proofs.BitLaws.{ones_more}
use Rattle.rope_text.proofs.Blocks.{marks_le}
use Rattle.rope_text.proofs.seek.go_in_last_block.Goals as goal

-- the last block, of `len` bytes, from the position on
record InLast (len from more first : ℕ) : Type 0 where
  start : from ≡ (len - 34) + (from - (len - 34))
  few : (from - (len - 34)) + more ≤ 32
  inside : (len - 34) + 32 ≤ len
  within : from - (len - 34) ≤ (from - (len - 34)) + more
  before : more ≤ first

in_last : (len from more first : ℕ) → len ≤ from + 34 → 34 ≤ len → from ≤ len - 2
    → more ≡ min first (32 - (from - (len - 34))) → InLast len from more first
in_last len from more first near long room least = record {
  start = omega (arith, near);
  few = omega (arith, near, long, room, least);
  inside = omega (arith, long);
  within = omega arith;
  before = omega (arith, least);
}

-- before the first mark there is none
none_before : (mask skip more first : ℕ) → more ≤ first → ones_below (mask / 2 ^ skip) first ≡ 0
    → ones_below mask (skip + more) ≡ ones_below mask skip + 0
none_before mask skip more first within none =
    omega (
      arith,
      none,
      ones_more (mask / 2 ^ skip) more (first - more) first (omega (arith, within)),
      ones_more mask skip more (skip + more) refl,
    )

-- a position later in a block, before which no break of the block begins
module _ (breaks : LineBreaks) (bytes : List ℕ) (chars from pairs at skip to : ℕ) where
  front_in_block : (breaks_mask chars_mask pairs_mask more_chars more_pairs : ℕ)
      → IsFront breaks bytes chars from pairs → IsBlockMask (Break breaks) bytes at breaks_mask
      → IsBlockMask Char bytes at chars_mask → IsBlockMask Pair bytes at pairs_mask
      → from ≡ at + skip → skip ≤ to → to ≤ 32 → at + 32 ≤ length bytes
      → ones_below breaks_mask to ≡ ones_below breaks_mask skip + 0
      → ones_below chars_mask to ≡ ones_below chars_mask skip + more_chars
      → ones_below pairs_mask to ≡ ones_below pairs_mask skip + more_pairs
      → IsFront breaks bytes (chars + more_chars) (at + to) (pairs + more_pairs)
  front_in_block b c p m n front begin begun paired start within few inside none more others =
      record {
        within = omega (arith, few, inside);
        none = omega (
          arith,
          front.none,
          in_block (Break breaks) bytes at to skip b 0 from (at + to) begin start refl within few
              none,
        );
        chars = omega (
          arith,
          front.chars,
          in_block Char bytes at to skip c m from (at + to) begun start refl within few more,
        );
        pairs = omega (
          arith,
          front.pairs,
          in_block Pair bytes at to skip p n from (at + to) paired start refl within few others,
        );
      }

-- a count goes on to no more than the bytes
count_fits : (mark : Mark) (bytes : List ℕ) (at from skip to mask n counted : ℕ)
    → IsBlockMask mark bytes at mask → from ≡ at + skip → skip ≤ to → to ≤ 32
    → ones_below mask to ≡ ones_below mask skip + n
    → marks mark bytes ≡ counted + marks mark (drop from bytes) → counted + n ≤ length bytes
count_fits mark bytes at from skip to mask n counted block start within few between before =
    omega (
      arith,
      before,
      marks_le mark bytes,
      in_block mark bytes at to skip mask n from (at + to) block start refl within few between,
    )

pub overflow_add-result : goal.overflow_add-result
overflow_add-result c =
    let s = c.args.bytes.now in
    let skip : ℕ = c.args.from.at - (length s - 34) in
    let more : ℕ = c.min.result in
    let last = in_last (length s) c.args.from.at more c.first_mark.result c.requires.near
    c.if-bytes-lt34.false c.if-from-bytes.false c.min.ensures in
    omega (
      arith,
      count_fits Char s (length s - 34) c.args.from.at skip (skip + more)
          c.known_mask-begins.result c.ones_between.result c.args.from.chars
          c.known_mask-begins.ensures last.start last.within last.few c.ones_between.ensures
          c.requires.front.chars,
    )

pub overflow_add-result-3 : goal.overflow_add-result-3
overflow_add-result-3 c =
    let s = c.args.bytes.now in
    let skip : ℕ = c.args.from.at - (length s - 34) in
    let more : ℕ = c.min.result in
    let last = in_last (length s) c.args.from.at more c.first_mark.result c.requires.near
    c.if-bytes-lt34.false c.if-from-bytes.false c.min.ensures in
    omega (
      arith,
      count_fits Pair s (length s - 34) c.args.from.at skip (skip + more)
          c.known_mask-pairs.result c.ones_between-2.result c.args.from.pairs
          c.known_mask-pairs.ensures last.start last.within last.few c.ones_between-2.ensures
          c.requires.front.pairs,
    )

pub returns : goal.returns
returns c =
    let s = c.args.bytes.now in
    let skip : ℕ = c.args.from.at - (length s - 34) in
    let more : ℕ = c.min.result in
    let last = in_last (length s) c.args.from.at more c.first_mark.result c.requires.near
    c.if-bytes-lt34.false c.if-from-bytes.false c.min.ensures in
    front_in_block c.args.breaks s c.args.from.chars c.args.from.at c.args.from.pairs
    (length s - 34) skip (skip + more) c.mask.result c.known_mask-begins.result
    c.known_mask-pairs.result c.ones_between.result c.ones_between-2.result c.requires.front
    c.mask.ensures c.known_mask-begins.ensures c.known_mask-pairs.ensures last.start last.within
    last.few last.inside (none_before c.mask.result skip more c.first_mark.result last.before
    c.first_mark.ensures.before) c.ones_between.ensures c.ones_between-2.ensures
