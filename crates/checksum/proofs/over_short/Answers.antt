-- `checksum::over_short` meets its contract: what is left of the bytes makes the whole (proofs/Running.antt). Assumes nothing.
use mathlib.Core.Path.{refl}
use native.Mathlib.Omega.{arith}
use borrow.Author.Rules.{rules}
use Rattle.checksum.proofs.Running.{bits_more, bits_done}
use Rattle.checksum.proofs.over_short.Goals as goal

pub loop-byte-init : goal.loop-byte-init
loop-byte-init c = record { within = omega arith; makes = refl }

pub loop-byte-preserved : goal.loop-byte-preserved
loop-byte-preserved c =
    bits_more c.loop-byte.invariant c.loop-byte-test.true (search rules) c.eight-state.ensures

pub returns : goal.returns
returns c = bits_done c.loop-byte.invariant c.loop-byte-test.false
