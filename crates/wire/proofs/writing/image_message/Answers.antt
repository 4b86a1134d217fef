use Rattle.wire.proofs.writing.image_message.Goals as goal

pub returns : goal.returns
returns c = rw (c.image_bytes-b.ensures, c.image_bytes-a.ensures)
