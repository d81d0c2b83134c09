use Rattle.std.proofs.Common.{◌≡◌, ◌==◌, true, false, arith}
use Rattle.std.proofs.lemmas.Bool.Decides.{nat_tests}
use Rattle.rope_leaf.proofs.Infos.{small_info}
use Rattle.rope_slice.specs.Slice.{text_of, chunks_of, breaks_of}
use Rattle.rope_slice.proofs.ChunkStarts.{size_is, starts_before, starts_past}
use Rattle.rope_slice.proofs.slice.RopeSlice.chunks_from.Goals as goal

pub count-requires : goal.count-requires
count-requires c =
    rw c.info-info.ensures.value
    (small_info (breaks_of c.args.self.now) (text_of c.args.self.now) c.info-info.ensures.kept.fits)

pub returns-then-is_past-clause-stands : goal.returns-then-is_past-clause-stands
returns-then-is_past-clause-stands c =
    let part = c.args.self.now in
    let e = c.holding-span.ensures in
    let i = c.info-info.ensures in
    let size =
    size_is (breaks_of part) c.holding-span.result.0 (text_of part) (chunks_of part) i.kept.cut
    e.text e.chunks c.info-info.result i.value c.args.idx c.args.unit c.requires.unit in
    let past : (c.args.idx == c.count.result) ≡ true = grind (arith, nat_tests) in
    rw past
    (starts_past (breaks_of part) c.holding-span.result.0 (text_of part) (chunks_of part) i.kept.cut
    e.text e.chunks c.info-info.result i.value c.args.idx c.args.unit c.requires.unit
    (omega (arith, c.count.ensures, size)) e.within)

pub returns-clause-stands : goal.returns-clause-stands
returns-clause-stands c =
    let part = c.args.self.now in
    let e = c.holding-span.ensures in
    let i = c.info-info.ensures in
    let size =
    size_is (breaks_of part) c.holding-span.result.0 (text_of part) (chunks_of part) i.kept.cut
    e.text e.chunks c.info-info.result i.value c.args.idx c.args.unit c.requires.unit in
    let before : (c.args.idx == c.count.result) ≡ false = grind (arith, nat_tests) in
    rw before
    (starts_before (breaks_of part) c.holding-span.result.0 (text_of part) (chunks_of part)
    i.kept.cut e.text e.chunks c.info-info.result i.value c.args.idx c.args.unit c.requires.unit
    c.holding-span.result.1.bytes c.holding-span.result.1.chars c.holding-span.result.1.break_count
    e.before (omega (arith, c.count.ensures, size, c.requires.within)) e.starts
    (e.inside (omega (arith, c.count.ensures, size, c.requires.within))))
