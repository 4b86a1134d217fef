-- `plain_station::Plain::packed` meets its contract: part by part. Assumes nothing.
use Rattle.plain_station.specs.Plain.{packed_of}
use Rattle.plain_station.proofs.Plain.packed.Goals as goal

pub returns : goal.returns
unfolding packed_of
returns c = rw (c.image.ensures, c.byte_of.ensures, c.number.ensures)
