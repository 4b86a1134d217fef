-- `plain::Floor::walk` meets its contract: the rows, and last the raised lift. Assumes nothing.
use mathlib.Core.Path.{refl}
use Rattle.plain.specs.Plain.{plain_bits}
use Rattle.plain.proofs.Walking.{last_room, whole_walk}
use Rattle.plain.proofs.Imaging.{car_bit}
use Rattle.plain.proofs.Floor.walk.Goals as goal

pub noted-requires : goal.noted-requires
noted-requires c = last_room (plain_bits c.args.self) c.all_rows.ensures

pub returns : goal.returns
returns c = whole_walk (plain_bits c.args.self) c.all_rows.ensures (car_bit c.args.self refl) c.noted.ensures
