use Rattle.std.proofs.Common.{◌<◌, ◌^◌, length, arith, false, subst, Some, Err, inl, inr}
use Rattle.rope_files.specs.Reading.{ReadsAny, text_read}
use Rattle.rope_files.specs.declared.error.ReadAnyError.TheVariants as any
use Rattle.ropey_c.proofs.FileReads.{unpaired, half, too_long}
use Rattle.ropey_c.proofs.file_reading.read_laid.Goals as goal

pub returns-in-Err-UnpairedSurrogate : goal.returns-in-Err-UnpairedSurrogate
returns-in-Err-UnpairedSurrogate c =
    let answer = c.in-Err-UnpairedSurrogate.ensures.answer in
    let fits : length c.args.bytes.now < 2 ^ 64 = omega arith in
    unpaired c.args.encoding c.args.bytes.now answer.0 false fits c.in-Err-UnpairedSurrogate.at
    (subst (λ z. ReadsAny text_read (Some c.args.encoding) (Some c.args.bytes.now) (Some answer.0)
    false (Err z)) c.in-Err-UnpairedSurrogate.field-0-is answer.1)

pub returns-in-Err-HalfCodeUnit : goal.returns-in-Err-HalfCodeUnit
returns-in-Err-HalfCodeUnit c =
    let answer = c.in-Err-HalfCodeUnit.ensures.answer in
    let fits : length c.args.bytes.now < 2 ^ 64 = omega arith in
    half c.args.encoding c.args.bytes.now answer.0 false fits c.in-Err-HalfCodeUnit.at
    (subst (λ z. ReadsAny text_read (Some c.args.encoding) (Some c.args.bytes.now) (Some answer.0)
    false (Err z)) c.in-Err-HalfCodeUnit.field-0-is answer.1)

pub returns-in-Err-Rope : goal.returns-in-Err-Rope
returns-in-Err-Rope c =
    let answer = c.in-Err-Rope.ensures.answer in
    let fits : length c.args.bytes.now < 2 ^ 64 = omega arith in
    elim c.size_fault.ensures.either [
      | inl long ↦ rw long.0 (too_long c.args.encoding c.args.bytes.now answer.0 false fits
          (subst (λ z. ReadsAny text_read (Some c.args.encoding) (Some c.args.bytes.now)
          (Some answer.0) false (Err (any.Rope z))) long.1
          (subst (λ z. ReadsAny text_read (Some c.args.encoding) (Some c.args.bytes.now)
          (Some answer.0) false (Err z)) c.in-Err-Rope.field-0-is answer.1)))
      | inr memory ↦ rw memory tt
    ]
