-- `checksum::over_rest` meets its contract: what is left of the bytes makes the whole (proofs/Running.antt). Assumes nothing.
use mathlib.Core.Path.{refl}
use native.Mathlib.Omega.{arith}
use Rattle.checksum.proofs.Running.{byte_more, byte_done}
use Rattle.checksum.proofs.over_rest.Goals as goal

pub loop-i-init : goal.loop-i-init
loop-i-init c = record { within = c.requires; makes = refl }

pub overflow_cast-bytes : goal.overflow_cast-bytes
overflow_cast-bytes c = omega (arith, c.shared_slice_known-in-loop-i-1.given c.loop-i.i)

pub loop-i-preserved : goal.loop-i-preserved
loop-i-preserved c =
    byte_more c.args.t.now c.loop-i.invariant c.loop-i-test.true c.over_byte-state.ensures

pub returns : goal.returns
returns c = byte_done c.args.t.now c.loop-i.invariant c.loop-i-test.false
