-- `plain::places::shuttle` meets its contract. Assumes nothing.
use Prim.Native.Nat.{◌+◌, ◌*◌, ◌-◌}
use native.Mathlib.Omega.{arith}
use Rattle.plain.proofs.Standing.{slot_bit}
use Rattle.plain.proofs.places.shuttle.Goals as goal

pub returns : goal.returns
returns c = let a = c.args in
    slot_bit a.f (a.orientation * 6 + a.side * 3 + a.row - 1) (39 + a.orientation * 6 + a.side * 3 + a.row) (omega arith) (omega arith)
