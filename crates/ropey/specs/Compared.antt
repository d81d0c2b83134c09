-- Comparisons and hashes of ropes.
use Rattle.std.specs.Prelude.{ℕ, List}
use Rattle.std.specs.Hash.{HashWrites}
use Rattle.std.specs.Str.{encode_utf8_all}
use Rattle.rope_text.specs.Compare.{hash_writes}
use Rattle.ropey.specs.View.{RopeView}

-- the bytes of a rope, and its writes to a hasher
abbrev pub bytes_of : RopeView → List ℕ
bytes_of r = encode_utf8_all r.text

abbrev pub writes_of : RopeView → HashWrites
writes_of r = hash_writes r.text
