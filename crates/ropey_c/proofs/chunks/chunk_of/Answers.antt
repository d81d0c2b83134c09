use Rattle.std.proofs.Common.{sym, refl, ap, ◌∙◌, length}
use Rattle.std.proofs.lemmas.Str.{encodes-chars}
use Rattle.rope_text.proofs.Walks.{byte_len-chars}
use Rattle.ropey_c.proofs.chunks.chunk_of.Goals as goal

pub returns : goal.returns
returns c =
    let same = c.as_bytes.ensures.value in
    record {
      shown = same ∙ sym (encodes-chars c.args.text.now c.utf8.text);
      len = ap length same ∙ sym (byte_len-chars c.args.text.now c.utf8.text);
      bytes_before = refl;
      chars_before = refl;
      line_breaks_before = refl;
    }
