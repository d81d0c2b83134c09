use Rattle.std.proofs.Common.{◌+◌, ◌++◌, length, take, drop, sym, ap, subst, ◌∙◌, arith}
use Rattle.std.proofs.lemmas.List.{length-take-le}
use Rattle.std.specs.Str.{chars}
use Rattle.rope_text.specs.Edit.{or_else, size_error, IsRefusal}
use Rattle.rope_text.specs.Text.{byte_len}
use Rattle.rope_files.proofs.Decodings.{decoded_parts, decoded_chars, decoded_size, moved_rest, size_small}
use Rattle.rope_files.proofs.decode.settle.Goals as goal

pub returns-in-Err-append-clause-refused : goal.returns-in-Err-append-clause-refused
returns-in-Err-append-clause-refused c =
    let held = take c.args.filled c.args.buffer.now in
    let old = c.args.builder.now.text in
    let d = c.in-Ok.ensures.ok.0 in (
      d.text,
      drop c.in-Ok.decoded held,
      decoded_parts c.args.layout held c.decode.new.piece.bytes c.in-Ok.decoded d,
      subst (λ o. IsRefusal o c.in-Err-append.error)
          (ap (λ o. or_else o (size_error (byte_len old + length c.as_str.result.now)))
          c.requires.fresh
          ∙ ap (λ s. size_error (byte_len old + length s)) c.as_str.ensures.value
          ∙ ap size_error (sym (decoded_size c.args.layout held c.decode.new.piece.bytes
          c.in-Ok.decoded d old))) c.in-Err-append.ensures.refused,
    )

pub returns-clause-ok : goal.returns-clause-ok
returns-clause-ok c =
    let held = take c.args.filled c.args.buffer.now in
    let n = c.in-Ok.decoded in
    let d = c.in-Ok.ensures.ok.0 in
    let size = length-take-le c.args.filled c.args.buffer.now c.requires.within in
    record {
      text = d.text;
      within = d.within;
      laid = d.laid;
      added = c.in-Ok-append.ensures.ok.1
          ∙ ap (λ xs. c.args.builder.now.text ++ xs)
          (ap chars c.as_str.ensures.value
          ∙ decoded_chars c.args.layout held c.decode.new.piece.bytes n d);
      rest = moved_rest c.args.buffer.now c.copy_within.new.self n c.args.filled
          (omega (arith, d.within, size)) c.requires.within c.copy_within.ensures.after;
      is_open = c.in-Ok.ensures.ok.1;
      scalars = d.scalars;
    }

pub returns-clause-fits : goal.returns-clause-fits
returns-clause-fits c =
    let held = take c.args.filled c.args.buffer.now in
    let old = c.args.builder.now.text in
    let n = c.in-Ok.decoded in
    let d = c.in-Ok.ensures.ok.0 in
    let added = c.in-Ok-append.ensures.ok.1
    ∙ ap (λ xs. old ++ xs) (ap chars c.as_str.ensures.value
    ∙ decoded_chars c.args.layout held c.decode.new.piece.bytes n d) in
    let none = ap (λ o. or_else o (size_error (byte_len old + length c.as_str.result.now)))
    (sym c.requires.fresh) ∙ c.in-Ok-append.ensures.ok.0 in
    omega (
      arith,
      size_small _ none,
      ap length c.as_str.ensures.value,
      ap byte_len added,
      decoded_size c.args.layout held c.decode.new.piece.bytes n d old,
    )
