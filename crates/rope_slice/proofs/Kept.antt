-- The invariant of every slice: of a plain text, and of an excerpt of a tree's.
use Rattle.std.proofs.Common.{◌≡◌, ℕ, ◌-◌, ◌^◌, ◌<◌, true, List, [], ◌∷◌, length, drop, refl, arith, All}
use Rattle.std.specs.List.{concat, slice_range}
use Rattle.std.specs.Str.{all_scalars, chars}
use Rattle.std.proofs.lemmas.List.{append-nil}
use Rattle.std.proofs.lemmas.List.Elements.{All-nil, All-cons, All-head, All-tail}
use Rattle.std.proofs.Math.Bool.{and-false}
use Rattle.std.proofs.str.Laws.{scalars-append}
use Rattle.rope_text.specs.declared.line_breaks.LineBreaks.{LineBreaks}
use Rattle.rope_text.specs.declared.text_info.TextInfo.{TextInfo}
use Rattle.rope_text.specs.Text.{byte_len}
use Rattle.rope_text.specs.Breaks.{ends_in_cr}
use Rattle.rope_text.specs.Cutting.{IsCutting, KeepsCrlf, clip, single_chunk}
use Rattle.rope_text.proofs.CuttingLaws.{IsCutting-clip}
use Rattle.rope_text.proofs.ChunkLaws.{KeepsCrlf-clip}
use Rattle.rope_text.proofs.ClipLaws.{concat-clip}
use Rattle.rope_text.proofs.TextParts.{all_scalars-take, all_scalars-drop}
use Rattle.rope_leaf.specs.Leaves.{IsLeafText}
use Rattle.rope_leaf.specs.Tree.{Tree, text, IsTree}
use Rattle.rope_leaf.proofs.LeafLaws.{nonempty_leaves}
use Rattle.rope_slice.specs.Edge.{IsExcerpt}
use Rattle.rope_slice.specs.Kept.{IsPart}
use Rattle.rope_slice.specs.Slice.{text_of, chunks_of}
use Rattle.rope_slice.specs.declared.slice.RopeSlice.{RopeSlice}
use Rattle.rope_slice.specs.declared.slice.RopeSlice.TheVariants.{InTree, Alone}
use Rattle.rope_slice.proofs.Measured.{measured}

single_cut : (text : List ℕ) → IsCutting text (single_chunk text)
single_cut [] = record { joined = refl; nonempty = All-nil (λ chunk. 0 < length chunk) }
single_cut (c ∷ text) = record {
  joined = append-nil (c ∷ text);
  nonempty =
      All-cons (λ chunk. 0 < length chunk) (c ∷ text) [] (omega arith)
      (All-nil (λ chunk. 0 < length chunk));
}

single_whole : (text : List ℕ) → KeepsCrlf (single_chunk text)
single_whole [] = tt
single_whole (c ∷ text) = (and-false (ends_in_cr (c ∷ text)), tt)

pub plain_kept : (breaks : LineBreaks) (text : List ℕ) → all_scalars text ≡ true
    → byte_len text < 2 ^ 63
    → IsPart (record { text = text; chunks = single_chunk text; breaks = breaks })
plain_kept breaks text scalars fits = record {
  cut = single_cut text;
  whole = single_whole text;
  scalars = scalars;
  fits = fits;
}

-- the chunks of a slice are its text
pub chunks_join : (s : RopeSlice) → concat (chunks_of s) ≡ text_of s
chunks_join (InTree e) = concat-clip e.node.now.leaves e.start.chars e.end.chars
chunks_join (Alone p) = (single_cut (chars p.text.now)).joined

-- the text of a tree's leaves is one of scalar values
pub scalars-concat : (leaves : List (List ℕ)) → All IsLeafText leaves
    → all_scalars (concat leaves) ≡ true
scalars-concat [] a = refl
scalars-concat (leaf ∷ leaves) a =
    scalars-append leaf (concat leaves) (All-head IsLeafText leaf leaves a).scalars
    (scalars-concat leaves (All-tail IsLeafText leaf leaves a))

pub excerpt_kept : (t : Tree) (start end : TextInfo) → IsTree t
    → IsExcerpt t.breaks (text t) start end
    → IsPart (record {
      text = slice_range (text t) start.chars end.chars;
      chunks = clip t.leaves start.chars end.chars;
      breaks = t.breaks;
    })
excerpt_kept t start end tree s =
    let m = measured t.breaks (text t) start end s in
    record {
      cut = IsCutting-clip (text t) t.leaves start.chars end.chars
          (record { joined = refl; nonempty = nonempty_leaves t.leaves tree.leaves.each });
      whole = KeepsCrlf-clip t.leaves start.chars end.chars tree.leaves.whole;
      scalars =
          all_scalars-take (end.chars - start.chars) (drop start.chars (text t))
          (all_scalars-drop start.chars (text t) (scalars-concat t.leaves tree.leaves.each));
      fits = omega (arith, tree.fits);
    }
