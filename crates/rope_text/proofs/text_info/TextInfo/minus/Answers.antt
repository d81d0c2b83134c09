use Rattle.std.proofs.Common.{◌≡◌, ◌-◌, length, ap, ◌∙◌, arith}
use Rattle.rope_text.specs.Text.{byte_len, surrogate_count}
use Rattle.rope_text.specs.Breaks.{break_count}
use Rattle.rope_text.proofs.InfoLaws.{info_of-append_apart}
use Rattle.rope_text.proofs.text_info.TextInfo.minus.Goals as goal

pub returns-clause-rest : goal.returns-clause-rest
returns-clause-rest c breaks s t p q apart =
    let whole = p ∙ info_of-append_apart breaks s t apart in
    let self = c.args.self in
    let front = c.args.front in
    let bytes : self.bytes - front.bytes ≡ byte_len t =
    omega (arith, ap (λ i. i.bytes) whole, ap (λ i. i.bytes) q) in
    let chars : self.chars - front.chars ≡ length t =
    omega (arith, ap (λ i. i.chars) whole, ap (λ i. i.chars) q) in
    let pairs : self.utf16_surrogates - front.utf16_surrogates ≡ surrogate_count t =
    omega (arith, ap (λ i. i.utf16_surrogates) whole, ap (λ i. i.utf16_surrogates) q) in
    let count : self.break_count - front.break_count ≡ break_count breaks t =
    omega (arith, ap (λ i. i.break_count) whole, ap (λ i. i.break_count) q) in
    cc
