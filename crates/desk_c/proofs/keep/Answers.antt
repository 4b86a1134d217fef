-- `desk_c::keep` meets its contract: by the desk in bytes. Assumes nothing.
use native.Mathlib.Omega.{arith}
use Rattle.desk_c.proofs.Rooms.{as_shows}
use Rattle.desk_c.proofs.keep.Goals as goal

pub returns : goal.returns
returns c = as_shows _ _ _ c.stored.ensures (omega arith) c.told.ensures c.tell.ensures
