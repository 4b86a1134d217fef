-- `rooms::keep` meets its contract: by the station in bytes. Assumes nothing.
use native.Mathlib.Omega.{arith}
use Rattle.rooms.proofs.Rooms.{outcome_kept_lem}
use Rattle.rooms.proofs.keep.Goals as goal

pub returns : goal.returns
returns c = outcome_kept_lem _ _ c.station_bytes.ensures (omega arith) c.say.ensures c.tell.ensures
