-- `plain_station::marks_of` meets its contract: bit by bit. Assumes nothing.
use Rattle.std.proofs.Common.{◌≡◌, ◌/◌, arith}
use Rattle.plain.specs.Plain.{listed}
use Rattle.plain_station.proofs.marks_of.Goals as goal

pub returns : goal.returns
unfolding listed
returns c = let z : c.args.byte / 1 ≡ c.args.byte = omega arith in rw z
