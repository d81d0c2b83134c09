-- A range of bytes, as the first bytes of what is left from its start on.
use Rattle.std.proofs.Common.{◌≡◌, ℕ, ◌+◌, ◌-◌, ◌≤◌, true, false, List, Option, Some, None, IsSome, is_some, length, take, drop, sym, ap, subst, ◌∙◌, arith}
use Rattle.std.proofs.lemmas.List.{take_all, length-drop}
use Rattle.std.specs.List.{slice_range}
use Rattle.rope_text.specs.Content.{Content}
use Rattle.rope_text.specs.Conversions.{byte_to_char}
use Rattle.rope_text.specs.Edit.{is_char_boundary, byte_range_error}
use Rattle.rope_text.specs.LineParts.{part_between}
use Rattle.rope_text.specs.Text.{byte_len}
use Rattle.rope_text.proofs.ByteSlices.{is_range, range_error-none, end_is_boundary, start_is_boundary, boundary_is, boundary_out, boundary_in, char_at, size_of}
use Rattle.rope_text.proofs.ConversionLaws.{byte_to_char-byte_len, byte_to_char-char_to_byte, byte_to_char-le-length}
use Rattle.rope_slice.specs.Sliced.{IsSlice}
use Rattle.ropey_c.proofs.Before.{slice_is, part_of_rest}

pub none_is_no_some : {A : Type 0} (x : Option A) → x ≡ None → IsSome x → ⊥
none_is_no_some x none some = let e : is_some x ≡ false = ap is_some none in absurd (cc)

module _ (whole rest : Content) (start end len : ℕ) (ordered : start ≤ end)
    (within : end ≤ byte_len whole.text) (len_is : len ≡ byte_len whole.text) where
  pub rest_has_range : is_char_boundary whole.text start ≡ true
      → byte_range_error whole.text (Some start) (Some len) ≡ None
  rest_has_range h =
      range_error-none whole.text start len (record {
        ordered = omega (arith, ordered, within, len_is);
        within = omega (arith, len_is);
        starts = h;
        ends = subst (λ (n : ℕ). is_char_boundary whole.text n ≡ true) (sym len_is)
            (end_is_boundary whole.text);
      })

  module _ (fine : byte_range_error whole.text (Some start) (Some len) ≡ None)
      (s : IsSlice whole (byte_to_char whole.text start) (byte_to_char whole.text len) rest) where
    pub begins : is_char_boundary whole.text start ≡ true
    begins = (is_range whole.text start len fine).starts

    from_is : byte_len (take (byte_to_char whole.text start) whole.text) ≡ start
    from_is = boundary_is whole.text start begins

    from_within : byte_to_char whole.text start ≤ length whole.text
    from_within = byte_to_char-le-length whole.text start

    rest_is : rest ≡ part_between whole (byte_to_char whole.text start) (length whole.text)
    rest_is = slice_is whole rest (byte_to_char whole.text start) (byte_to_char whole.text len) s
        ∙ ap (part_between whole (byte_to_char whole.text start))
        (ap (byte_to_char whole.text) len_is ∙ byte_to_char-byte_len whole.text)

    text_is : rest.text ≡ slice_range whole.text (byte_to_char whole.text start) (length whole.text)
    text_is = ap (λ c. c.text) rest_is

    rest_size : byte_len whole.text ≡ start + byte_len
        (slice_range whole.text (byte_to_char whole.text start) (length whole.text))
    rest_size = ap byte_len (sym (take_all (length whole.text) whole.text (omega arith)))
        ∙ size_of whole.text (byte_to_char whole.text start) (length whole.text) start from_within
        (omega arith) from_is

    room : end - start ≤ byte_len
        (slice_range whole.text (byte_to_char whole.text start) (length whole.text))
    room = omega (arith, rest_size, within)

    end_is : start + (end - start) ≡ end
    end_is = omega (arith, ordered)

    pub rest_is_drop : rest.text ≡ drop (byte_to_char whole.text start) whole.text
    rest_is_drop =
        text_is ∙ take_all (length whole.text - byte_to_char whole.text start)
        (drop (byte_to_char whole.text start) whole.text)
        (omega (arith, length-drop (byte_to_char whole.text start) whole.text))

    pub chars_before : length whole.text - length rest.text ≡ byte_to_char whole.text start
    chars_before =
        omega (
          arith,
          ap length rest_is_drop,
          length-drop (byte_to_char whole.text start)
              whole.text,
          from_within,
        )

    pub part_has_range : is_char_boundary whole.text end ≡ true
        → byte_range_error rest.text (Some 0) (Some (end - start)) ≡ None
    part_has_range h =
        let inside =
        boundary_in whole.text (byte_to_char whole.text start) (length whole.text) start from_within
        (omega arith) from_is (end - start) room
        (subst (λ (n : ℕ). is_char_boundary whole.text n ≡ true) (sym end_is) h) in
        subst (λ (t : List ℕ). byte_range_error t (Some 0) (Some (end - start)) ≡ None)
        (sym text_is)
        (range_error-none (slice_range whole.text (byte_to_char whole.text start)
        (length whole.text)) 0 (end - start)
        (record {
          ordered = omega arith;
          within = room;
          starts = start_is_boundary _;
          ends = inside;
        }))

    pub ends : byte_range_error rest.text (Some 0) (Some (end - start)) ≡ None
        → is_char_boundary whole.text end ≡ true
    ends none =
        let r = is_range (slice_range whole.text (byte_to_char whole.text start)
        (length whole.text)) 0 (end - start)
        (subst (λ (t : List ℕ). byte_range_error t (Some 0) (Some (end - start)) ≡ None) text_is
        none) in
        subst (λ (n : ℕ). is_char_boundary whole.text n ≡ true) end_is
        (boundary_out whole.text (byte_to_char whole.text start) (length whole.text) start
        from_within (omega arith) from_is (end - start) room r.ends)

    pub part_is : (part : Content)
        → IsSlice rest (byte_to_char rest.text 0) (byte_to_char rest.text (end - start)) part
        → part ≡ part_between whole (byte_to_char whole.text start) (byte_to_char whole.text end)
    part_is part p =
        let a = byte_to_char whole.text start in
        let b = byte_to_char whole.text end in
        let none : byte_to_char rest.text 0 ≡ 0 =
        byte_to_char-char_to_byte rest.text 0 (omega arith) in
        let last : b ≡ a + byte_to_char rest.text (end - start) =
        ap (byte_to_char whole.text) (sym end_is)
        ∙ char_at whole.text a (length whole.text) start from_within (omega arith) from_is
        (end - start) room
        ∙ ap (λ t. a + byte_to_char t (end - start)) (sym text_is) in
        let few : byte_to_char rest.text (end - start) ≡ b - a = omega (arith, last) in
        part_of_rest whole part a b (length whole.text) (omega (arith, last))
        (byte_to_char-le-length whole.text end)
        (subst (λ (n : ℕ). IsSlice (part_between whole a (length whole.text)) 0 n part) few
        (subst (λ (n : ℕ). IsSlice (part_between whole a (length whole.text)) n
        (byte_to_char rest.text (end - start)) part) none
        (subst (λ (c : Content). IsSlice c (byte_to_char rest.text 0)
        (byte_to_char rest.text (end - start)) part) rest_is p)))
