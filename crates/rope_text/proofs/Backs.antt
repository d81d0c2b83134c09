-- Ways back over the bytes of a text: by a byte, by a block, and one after another.
use Rattle.std.proofs.Common.{◌≡◌, ℕ, ◌+◌, ◌≤◌, ◌<◌, Bool, true, false, cond, List, length, drop, get_or, count_by, ap, ◌∙◌, arith}
use Rattle.rope_text.specs.declared.back.Back.{Back}
use Rattle.rope_text.specs.declared.line_breaks.LineBreaks.{LineBreaks}
use Rattle.rope_text.specs.declared.lanes.Mark.{Mark}
use Rattle.rope_text.specs.declared.lanes.Mark.TheVariants.{Break}
use Rattle.rope_text.specs.Bits.{ones_below}
use Rattle.rope_text.specs.Bytes.{begins_char, begins_pair}
use Rattle.rope_text.specs.ByteBreaks.{breaks_at, byte_break_count}
use Rattle.rope_text.specs.Marks.{IsBlockMask, marks}
use Rattle.rope_text.specs.Scan.{GoesBack}
use Rattle.rope_text.proofs.BitLaws.{found_mark, no_marks, one_at_most}
use Rattle.rope_text.proofs.Blocks.{count_by-drop, byte_break_count-drop}

pub never : {A : Type 0} → false ≡ true → A
never e = absurd (omega (arith, ap (λ (t : Bool). cond {A = ℕ} t 1 0) e))

pub stays : (breaks : LineBreaks) (bytes : List ℕ) (at : Back) → GoesBack breaks bytes at at false
stays breaks bytes at = record {
  back = omega arith;
  few_chars = omega arith;
  few_pairs = omega arith;
  chars = omega arith;
  pairs = omega arith;
  passed = omega arith;
  found = λ e. never e;
}

pub goes_on : (breaks : LineBreaks) (bytes : List ℕ) (from mid to : Back) (is_found : Bool)
    → GoesBack breaks bytes from mid false → GoesBack breaks bytes mid to is_found
    → GoesBack breaks bytes from to is_found
goes_on breaks bytes from mid to is_found first next = record {
  back = omega (arith, first.back, next.back);
  few_chars = omega (arith, first.few_chars, next.few_chars);
  few_pairs = omega (arith, first.few_pairs, next.few_pairs);
  chars = omega (arith, first.chars, next.chars);
  pairs = omega (arith, first.pairs, next.pairs);
  passed = omega (arith, first.passed, next.passed);
  found = λ e. (let h = next.found e in
      record { before = omega (arith, h.before, first.back); begins = h.begins; all = h.all });
}

pub by_byte : (breaks : LineBreaks) (bytes : List ℕ) (from to : Back) (is_found : Bool)
    → to.at + 1 ≡ from.at → from.at ≤ length bytes
    → to.chars ≡ from.chars + cond (begins_char (get_or bytes to.at 0)) 1 0
    → to.pairs ≡ from.pairs + cond (begins_pair (get_or bytes to.at 0)) 1 0
    → cond (breaks_at breaks bytes to.at) 1 0 + to.left ≡ from.left + cond is_found 1 0
    → (is_found ≡ true → (breaks_at breaks bytes to.at ≡ true) × (to.left ≡ 0))
    → GoesBack breaks bytes from to is_found
by_byte breaks bytes from to is_found next inside chars pairs passed found =
    let within : to.at < length bytes = omega (arith, next, inside) in record {
      back = omega (arith, next);
      few_chars = omega (arith, next, chars, one_at_most (begins_char (get_or bytes to.at 0)));
      few_pairs = omega (arith, next, pairs, one_at_most (begins_pair (get_or bytes to.at 0)));
      chars = omega (
        arith,
        chars,
        count_by-drop begins_char bytes to.at within,
        ap (λ n. count_by begins_char (drop n bytes)) next,
      );
      pairs = omega (
        arith,
        pairs,
        count_by-drop begins_pair bytes to.at within,
        ap (λ n. count_by begins_pair (drop n bytes)) next,
      );
      passed = omega (
        arith,
        passed,
        byte_break_count-drop breaks bytes to.at within,
        ap (λ n. byte_break_count breaks (drop n bytes)) next,
      );
      found = λ e. record { before = omega (arith, next); begins = (found e).0; all = (found e).1 };
    }

-- the marks of a block from one of its bytes on
pub in_block : (mark : Mark) (bytes : List ℕ) (at len place mask n here end : ℕ)
    → IsBlockMask mark bytes at mask → here ≡ at + place → end ≡ at + len → place ≤ len → len ≤ 32
    → ones_below mask len ≡ ones_below mask place + n
    → marks mark (drop here bytes) ≡ n + marks mark (drop end bytes)
in_block mark bytes at len place mask n here end block here_is end_is within few between =
    let front = block place (omega (arith, within, few)) in
    let all = block len few in
    omega (
      arith,
      front,
      all,
      between,
      ap (λ k. marks mark (drop k bytes)) here_is,
      ap (λ k. marks mark (drop k bytes)) end_is,
    )

-- the break that was found in a block
pub block_break : (breaks : LineBreaks) (bytes : List ℕ) (at place mask : ℕ)
    → IsBlockMask (Break breaks) bytes at mask → place < 32 → at + place < length bytes
    → ones_below mask (place + 1) ≡ ones_below mask place + 1
    → breaks_at breaks bytes (at + place) ≡ true
block_break breaks bytes at place mask block few inside one =
    let next : at + (place + 1) ≡ (at + place) + 1 = omega arith in
    let more = block (place + 1) (omega (arith, few))
    ∙ ap (λ j. ones_below mask (place + 1) + byte_break_count breaks (drop j bytes)) next in
    (found_mark mask (ones_below mask place) place _ _ _ (breaks_at breaks bytes (at + place))
    (block place (omega (arith, few))) more (byte_break_count-drop breaks bytes (at + place) inside)
    (omega (arith, no_marks place)) (omega (arith, one, no_marks (place + 1)))).1
