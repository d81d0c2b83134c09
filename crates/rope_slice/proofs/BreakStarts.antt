-- The chunk of an excerpt in which the break before a line ends.
use Rattle.std.proofs.Common.{◌≡◌, ℕ, ◌+◌, ◌-◌, ◌<◌, ◌≤◌, List, length, sym, ap, ◌∙◌, subst, arith}
use Rattle.std.specs.List.{concat, slice_range}
use Rattle.rope_text.specs.declared.text_info.TextInfo.{TextInfo}
use Rattle.rope_text.specs.Breaks.{break_count}
use Rattle.rope_text.specs.TextInfo.{info_of}
use Rattle.rope_text.specs.Cutting.{clip}
use Rattle.rope_text.specs.Lookup.{chunk_index_at_line_break}
use Rattle.rope_text.proofs.ClipLaws.{concat-clip}
use Rattle.rope_leaf.specs.declared.search.Unit.TheVariants.{LineBreak}
use Rattle.rope_leaf.specs.Tree.{Tree, IsTree, text}
use Rattle.rope_slice.specs.Edge.{IsExcerpt}
use Rattle.rope_slice.specs.Path.{Place, leaves, HoldsPlace}
use Rattle.rope_slice.specs.Span.{IsSpanFrom, clipped_at, clipped_place}
use Rattle.rope_slice.specs.Starts.{IsAtBreak}
use Rattle.rope_slice.proofs.ChunkStarts.{index_of_char}
use Rattle.rope_slice.proofs.Kept.{excerpt_kept}
use Rattle.rope_slice.proofs.LeafParts.{EndsBreak, ends_break, leaf_in}
use Rattle.rope_slice.proofs.LeafStarts.{found_at, is_span, clipped_is, chunks_are, are_before, chars_upto, bytes_upto, solid}
use Rattle.rope_slice.proofs.Measured.{measured}
use Rattle.rope_slice.proofs.Spans.{some_leaf}

module _ (t : Tree) (start end : TextInfo) (tree : IsTree t)
    (s : IsExcerpt t.breaks (text t) start end) (line : ℕ) (later : 0 < line)
    (within : line ≤ break_count t.breaks (slice_range (text t) start.chars end.chars)) where
  -- the break is one of the tree's text
  pub break_within : start.break_count + line - 1 < break_count t.breaks (text t)
  break_within =
      let m = measured t.breaks (text t) start end s in
      omega (arith, m.count, m.all_breaks)

  module _ (p : Place) (front : TextInfo) (e : leaves p ≡ t.leaves)
      (h : HoldsPlace LineBreak t.breaks (start.break_count + line - 1) p.before p.here front) where
    ends : EndsBreak t start end p.here front line
    ends =
        let m = measured t.breaks (text t) start end s in
        ends_break line (start.break_count + line - 1) t start end p.here front tree s
        (found_at LineBreak (start.break_count + line - 1) t p front e h) later (omega arith)
        (omega (arith, m.count))

    pub span_at_break : IsSpanFrom p start.bytes end.bytes
    span_at_break = is_span t start end p front tree s e h.info_is ends.starts ends.ends

    -- the index of the chunk
    index : chunk_index_at_line_break t.breaks (clip t.leaves start.chars end.chars) line
        ≡ length (clipped_place p start.chars end.chars).before
    index =
        let q : Place = clipped_place p start.chars end.chars in
        let nonempty = (excerpt_kept t start end tree s).cut.nonempty in
        let a = are_before t start end p front tree s e h.info_is ends.starts ends.ends in
        let upto = chars_upto t start end p front tree s e h.info_is ends.starts ends.ends in
        let here =
        some_leaf p (solid t start end p front tree s e h.info_is ends.starts ends.ends) in
        let chars = ap (λ x. x.chars) h.info_is in
        ends.index nonempty
        ∙ index_of_char q (clip t.leaves start.chars end.chars)
        (chunks_are t start end p front tree s e h.info_is ends.starts ends.ends) nonempty
        (front.chars - start.chars) (omega (arith, a.chars_are))
        (omega (arith, a.chars_are, upto, s.some, ends.starts, ends.ends, chars))

    pub is_at_break : (leaf : List ℕ) (inside : TextInfo) → leaf ≡ p.here
        → inside ≡ info_of t.breaks p.here
        → IsAtBreak line t start end (clipped_at p start.bytes end.bytes) leaf inside front
    is_at_break leaf inside leaf_is inside_is =
        let f = found_at LineBreak (start.break_count + line - 1) t p front e h in
        let part =
        leaf_in t start end p.here front tree s f.index f.within f.leaf_is f.before_is ends.starts
        ends.ends in
        let chunks = chunks_are t start end p front tree s e h.info_is ends.starts ends.ends in
        let bytes = ap (λ x. x.bytes) h.info_is in
        subst (λ (q : Place). IsAtBreak line t start end q leaf inside front)
        (sym (clipped_is t start end p front tree s e h.info_is ends.starts ends.ends))
        (rw leaf_is record {
          found = f;
          inside_is = inside_is;
          text = ap concat chunks ∙ concat-clip t.leaves start.chars end.chars;
          chunks = chunks;
          before = are_before t start end p front tree s e h.info_is ends.starts ends.ends;
          in_order = part.in_order;
          upto = omega (
            arith,
            bytes,
            bytes_upto t start end p front tree s e h.info_is ends.starts ends.ends,
          );
          index = index;
        })
