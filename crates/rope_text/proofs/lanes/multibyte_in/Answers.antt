use Rattle.std.proofs.Common.{◌≡◌, ℕ, ◌+◌, ◌-◌, ◌<◌, rules, Bool, cond, count_by, take, eqb, bit_and, sym, ap, ap₂, ◌∙◌, arith}
use Rattle.std.proofs.lemmas.List.FromFn.{length-range_with_len}
use Rattle.rope_text.specs.declared.line_breaks.LineBreaks.TheVariants.{Unicode}
use Rattle.rope_text.specs.Bits.{ones_below}
use Rattle.rope_text.specs.Runs.{multibyte_begin, multibyte_here, multibyte_of, places}
use Rattle.rope_text.proofs.LaneSums.{IsLowest, places_are, lowest, multibyte_step, multibyte_end, multibyte_few, multibyte_none, is_unicode}
use Rattle.rope_text.proofs.Marks.{compared, computed, counted, loaded}
use Rattle.rope_text.proofs.lanes.multibyte_in.Goals as goal
use Rattle.rope_text.proofs.lanes.multibyte_in.Goals.{After-first_mark-skip, then-is_multibyte_break, else-is_multibyte_break}

pub loop-begins-init : goal.loop-begins-init
loop-begins-init c =
    let s = c.args.bytes.now in
    let i = c.args.at in
    let long = length-range_with_len i 64 in record {
      within = omega arith;
      marked = λ n.
          counted n (omega (arith, long))
          (compared eqb 194 64 long (computed bit_and 223 64 long (loaded s i 64 (omega arith))))
          ∙ ap (λ l. count_by (multibyte_begin s) (take n l)) (places_are i 64)
          ∙ ap (λ k. count_by (multibyte_begin s) (take n (places i k)))
          (let all : 64 ≡ (i + 64) - i = omega arith in all);
      counted =
          omega (
            arith,
            ap (multibyte_of Unicode s i) (let all : (i + 64) - i ≡ 64 = omega arith in
                all),
          );
    }

low : (c : After-first_mark-skip)
    → IsLowest c.loop-begins.begins c.first_mark-skip.result (multibyte_begin c.args.bytes.now)
    c.loop-begins.i ((c.args.at + 64) - c.loop-begins.i)
low c =
    let some : 0 < ones_below c.loop-begins.begins 64 = search rules in
    lowest _ _ _ _ _ c.loop-begins.invariant.marked c.first_mark-skip.ensures.before
    (c.first_mark-skip.ensures.after (c.first_mark-skip.ensures.some some))

pub bounds-bytes-i : goal.bounds-bytes-i
bounds-bytes-i c =
    omega (
      arith,
      (low (goal.at.bounds-bytes-i c).After-first_mark-skip).inside,
      c.loop-begins.invariant.within,
      c.requires,
    )

pub bounds-bytes-i-in-loop-begins : goal.bounds-bytes-i-in-loop-begins
bounds-bytes-i-in-loop-begins c =
    omega (
      arith,
      (low (goal.at.bounds-bytes-i-in-loop-begins c).After-first_mark-skip).inside,
      c.loop-begins.invariant.within,
      c.requires,
    )

pub bounds-bytes-i-in-loop-begins-2 : goal.bounds-bytes-i-in-loop-begins-2
bounds-bytes-i-in-loop-begins-2 c =
    omega (
      arith,
      (low (goal.at.bounds-bytes-i-in-loop-begins-2 c).After-first_mark-skip).inside,
      c.loop-begins.invariant.within,
      c.requires,
    )

pub loop-begins-smaller : goal.loop-begins-smaller
loop-begins-smaller c =
    omega (
      arith,
      (low (goal.at.loop-begins-smaller c).After-first_mark-skip).inside,
      c.loop-begins.invariant.within,
      c.requires,
    )

pub overflow_add-total : goal.overflow_add-total
overflow_add-total c =
    omega (
      arith,
      c.loop-begins.invariant.counted,
      multibyte_few Unicode c.args.bytes.now c.args.at 64,
    )

pub loop-begins-preserved : goal.loop-begins-preserved
loop-begins-preserved c =
    let s = c.args.bytes.now in
    let l = c.loop-begins in
    let k = c.first_mark-skip.result in
    let n : ℕ = (c.args.at + 64) - l.i in
    let low = low (goal.at.loop-begins-preserved c).After-first_mark-skip in
    let next : l.i + (k + 1) ≡ (l.i + k) + 1 = omega arith in
    let left : n - (k + 1) ≡ (c.args.at + 64) - ((l.i + k) + 1) = omega arith in
    let step = multibyte_step s l.begins k l.i n low in
    let rest : multibyte_of Unicode s (l.i + (k + 1)) (n - (k + 1))
    ≡ multibyte_of Unicode s ((l.i + k) + 1) ((c.args.at + 64) - ((l.i + k) + 1)) =
    ap₂ (multibyte_of Unicode s) next left in
    let test : c.is_multibyte_break.result ≡ multibyte_here Unicode s (l.i + k) =
    c.is_multibyte_break.ensures in
    record {
      within = omega (arith, low.inside);
      marked = λ m. low.rest m
          ∙ ap₂ (λ a b. count_by (multibyte_begin s) (take m (places a b))) next left;
      counted = elim c.if-is_multibyte_break.branch [
        | then-is_multibyte_break w ↦
            let yes : cond {A = ℕ} (multibyte_here Unicode s (l.i + k)) 1 0 ≡ 1 =
            ap (λ (t : Bool). cond {A = ℕ} t 1 0) (sym test ∙ w.if-is_multibyte_break.true) in
            omega (arith, yes, step, rest, l.invariant.counted, w.total-is)
        | else-is_multibyte_break w ↦
            let no : cond {A = ℕ} (multibyte_here Unicode s (l.i + k)) 1 0 ≡ 0 =
            ap (λ (t : Bool). cond {A = ℕ} t 1 0) (sym test ∙ w.if-is_multibyte_break.false) in
            omega (arith, no, step, rest, l.invariant.counted, w.total-is)
      ];
    }

pub returns : goal.returns
returns c =
    let l = c.loop-begins in
    let set = is_unicode c.args.breaks (omega (arith, c.ahead.ensures, c.if-ahead-lt2.false)) in
    omega (
      arith,
      ap (λ b. multibyte_of b c.args.bytes.now c.args.at 64) set,
      l.invariant.counted,
      multibyte_end c.args.bytes.now l.begins l.i ((c.args.at + 64) - l.i) l.invariant.marked
          (omega (arith, c.loop-begins-test.false)),
    )

pub returns-then-ahead-lt2 : goal.returns-then-ahead-lt2
returns-then-ahead-lt2 c =
    sym (multibyte_none c.args.breaks c.args.bytes.now c.args.at 64
    (omega (arith, c.ahead.ensures, c.if-ahead-lt2.true)))
