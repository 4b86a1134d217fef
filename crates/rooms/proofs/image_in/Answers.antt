-- `rooms::image_in` meets its contract: byte by byte. Assumes nothing.
use Rattle.rooms.proofs.image_in.Goals as goal

pub returns : goal.returns
returns c = rw (c.image_bytes-b.ensures, c.image_bytes-a.ensures)
