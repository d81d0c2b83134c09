use Rattle.std.specs.Str.{encode_utf8_all}
use Rattle.rope_files.proofs.Writings.{front_front, front_after}
use Rattle.rope_files.proofs.writing.write_utf8.Goals as goal

pub returns-in_err-write_bytes-clause-front : goal.returns-in_err-write_bytes-clause-front
returns-in_err-write_bytes-clause-front g c = front_front _ _ c.args.mark.now
    (encode_utf8_all c.args.rope.now.text) c.in_err-write_bytes.ensures.front

pub returns-clause-front : goal.returns-clause-front
returns-clause-front g c = front_after _ _ _ c.args.mark.now (encode_utf8_all c.args.rope.now.text)
    c.in_ok-write_bytes.ensures.ok c.write_watched.ensures.front
