use Rattle.rope_text.proofs.Walks.{byte_len-chars}
use Rattle.ropey_c.proofs.Bytes.{room_told}
use Rattle.ropey_c.proofs.replace.has_room.Goals as goal

pub returns : goal.returns
returns c =
    room_told _ _ _ _ c.len_without.ensures.fits c.len_without.ensures.value
    (byte_len-chars c.args.text.now c.utf8.text)
