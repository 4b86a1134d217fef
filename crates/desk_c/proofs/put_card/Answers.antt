-- `desk_c::put_card` meets its contract: the number's four bytes. Assumes nothing.
use native.Mathlib.Omega.{arith}
use Rattle.rooms.proofs.Rooms.{as_writes}
use Rattle.desk_c.proofs.put_card.Goals as goal

pub returns : goal.returns
returns c = as_writes _ _ _ c.four_bytes.ensures (omega arith) c.say.ensures c.tell.ensures
