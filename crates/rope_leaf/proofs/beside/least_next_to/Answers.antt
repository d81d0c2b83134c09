-- The totals give the length of a leaf; of other nodes nothing is needed.
use Rattle.std.proofs.Common.{◌≡◌, ◌+◌, take, ap, ◌∙◌, arith}
use Rattle.rope_text.specs.Text.{byte_len}
use Rattle.rope_leaf.specs.Tree.{joined, height_of, breaks_of}
use Rattle.rope_leaf.proofs.BesideLaws.{half_next_after, half_next_ahead, leaf_next_after, leaf_next_ahead}
use Rattle.rope_leaf.proofs.Descents.{front_is}
use Rattle.rope_leaf.proofs.beside.least_next_to.Goals as goal

pub returns-then-height-gt1-clause-following : goal.returns-then-height-gt1-clause-following
returns-then-height-gt1-clause-following c =
    λ ts b. half_next_after (breaks_of ts) (height_of ts) ts c.args.place b.children
    (omega (arith, c.requires, b.totals_right.as_many))

pub returns-then-height-gt1-clause-ahead : goal.returns-then-height-gt1-clause-ahead
returns-then-height-gt1-clause-ahead c =
    λ ts b. half_next_ahead (breaks_of ts) (height_of ts) ts c.args.place b.children
    (omega (arith, c.requires, b.totals_right.as_many))

pub returns-clause-following : goal.returns-clause-following
returns-clause-following c = λ ts b.
    let k = c.args.place in
    let f = c.total_before-before in
    let start : f.result.bytes ≡ byte_len (joined (take k ts)) =
    ap (λ x. x.bytes) (front_is (breaks_of ts) c.args.totals.now ts k f.result b.totals_right
    (omega (arith, c.requires)) f.ensures.first f.ensures.later) in
    let end : c.get.result.bytes ≡ byte_len (joined (take (k + 1) ts)) =
    ap (λ x. x.bytes) (c.get.ensures c.get.result
    ∙ b.totals_right.total_at k c.get.result (omega (arith, c.requires, b.totals_right.as_many))) in
    leaf_next_after (breaks_of ts) (height_of ts) ts k b.children
    (omega (arith, c.requires, b.totals_right.as_many))
    (omega (arith, b.above, c.if-height-gt1.false)) f.result.bytes c.get.result.bytes c.min.result
    start end (omega arith)

pub returns-clause-ahead : goal.returns-clause-ahead
returns-clause-ahead c = λ ts b.
    let k = c.args.place in
    let f = c.total_before-before in
    let start : f.result.bytes ≡ byte_len (joined (take k ts)) =
    ap (λ x. x.bytes) (front_is (breaks_of ts) c.args.totals.now ts k f.result b.totals_right
    (omega (arith, c.requires)) f.ensures.first f.ensures.later) in
    let end : c.get.result.bytes ≡ byte_len (joined (take (k + 1) ts)) =
    ap (λ x. x.bytes) (c.get.ensures c.get.result
    ∙ b.totals_right.total_at k c.get.result (omega (arith, c.requires, b.totals_right.as_many))) in
    leaf_next_ahead (breaks_of ts) (height_of ts) ts k b.children
    (omega (arith, c.requires, b.totals_right.as_many))
    (omega (arith, b.above, c.if-height-gt1.false)) f.result.bytes c.get.result.bytes c.min.result
    start end (omega arith)
