-- The totals from the index on are those of the other list.
use Rattle.std.proofs.Common.{◌≡◌, ℕ, ◌+◌, ◌-◌, ◌<◌, ◌≤◌, length, get_or, sym, ap, subst, ◌∙◌, arith}
use Rattle.rope_text.specs.declared.text_info.TextInfo.{TextInfo}
use Rattle.rope_text.specs.TextInfo.{info_sum, HasPart}
use Rattle.rope_leaf.specs.Narrow.{FitsWith}
use Rattle.rope_leaf.proofs.CountsKept.{many}
use Rattle.rope_leaf.proofs.search.count_rows.CountRows.append.Goals.{After-put_rows}
use Rattle.rope_leaf.proofs.search.count_rows.CountRows.append.Goals as goal

n : (c : After-put_rows) → c.self.inside.len ≡ length c.args.self.now
n c = many c.self.inside c.args.self.now c.self.view_is

moved : (c : After-put_rows) (j : ℕ) (d : TextInfo) → length c.args.self.now ≤ j
    → j < length c.put_rows.new.self
    → (j - length c.args.self.now < c.args.count)
    × (get_or c.put_rows.new.self j d ≡ get_or c.args.others.now
    (c.args.from + (j - length c.args.self.now)) d)
moved c j d late lt =
    let m : length c.args.self.now + (j - length c.args.self.now) ≡ j = omega arith in
    let few : j - length c.args.self.now < c.args.count = omega (arith, c.put_rows.ensures.len) in (
      few,
      ap (λ k. get_or c.put_rows.new.self k d) (sym m)
          ∙ c.put_rows.ensures.following (j - length c.args.self.now) d few,
    )

pub retotal-requires : goal.retotal-requires
retotal-requires c =
    let e = (goal.at.retotal-requires c).After-put_rows in
    record {
      within = omega (arith, c.requires.some, c.put_rows.ensures.len, n e);
      part = λ j d late lt. (let m = moved e j d (omega (arith, late, n e)) lt in
          subst (λ t. HasPart t c.args.old) (sym m.1)
          (c.requires.part (j - length c.args.self.now) d m.0));
      fits = λ _ j d late lt. (let m = moved e j d (omega (arith, late, n e)) lt in
          subst (λ t. FitsWith t c.args.old c.args.new) (sym m.1)
          (c.requires.fits (j - length c.args.self.now) d m.0));
    }

pub returns-clause-before : goal.returns-clause-before
returns-clause-before c = λ j d lt.
    c.retotal.ensures.before j d (omega (arith, n (goal.at.returns-clause-before c).After-put_rows))
    ∙ c.put_rows.ensures.before j d lt

pub returns-clause-following : goal.returns-clause-following
returns-clause-following c = λ j d lt.
    c.retotal.ensures.after (length c.args.self.now + j) d
    (omega (arith, n (goal.at.returns-clause-following c).After-put_rows))
    (omega (arith, c.put_rows.ensures.len))
    ∙ ap (λ t. info_sum t c.args.new) (c.put_rows.ensures.following j d lt)
