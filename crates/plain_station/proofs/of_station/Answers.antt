-- `plain_station::of_station` meets its contract: part by part. Assumes nothing.
use Rattle.plain_station.specs.Plain.{plain_of}
use Rattle.plain_station.proofs.of_station.Goals as goal

pub returns : goal.returns
unfolding plain_of
returns c = rw (c.of_image.ensures, c.parts_of.ensures, c.marks_of.ensures)
