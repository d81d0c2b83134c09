use Rattle.std.proofs.Common.{◌++◌, ap, ◌∙◌, arith, length, length-append}
use Rattle.std.specs.Str.{chars, encode_utf8_all}
use Rattle.std.proofs.lemmas.Str.{encodes-append, encodes-chars}
use Rattle.rope_tree.proofs.builder.Builder.try_append.Goals as goal

pub returns-clause-text : goal.returns-clause-text
returns-clause-text c =
    ap encode_utf8_all c.in_ok-append.ensures.ok
    ∙ encodes-append c.args.self.now.text (chars c.args.text.now)
    ∙ ap (λ bs. encode_utf8_all c.args.self.now.text ++ bs)
    (encodes-chars c.args.text.now c.utf8.text)

pub returns-clause-fits : goal.returns-clause-fits
returns-clause-fits c =
    omega (
      arith,
      ap length (returns-clause-text c),
      length-append (encode_utf8_all c.args.self.now.text) c.args.text.now,
    )
