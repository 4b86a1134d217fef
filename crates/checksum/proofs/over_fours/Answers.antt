-- `checksum::over_fours` meets its contract: what is left of the bytes makes the whole (proofs/Running.antt). Assumes nothing.
use mathlib.Core.Path.{◌≡◌, refl}
use Prim.Native.Nat.{◌+◌, ◌*◌, ◌/◌}
use lib.ListN.{length}
use native.Mathlib.Omega.{arith}
use Rattle.checksum.proofs.Running.{fours_more, fours_done}
use Rattle.checksum.proofs.over_fours.Goals as goal

pub loop-k-init : goal.loop-k-init
loop-k-init c = record { within = omega arith; makes = refl }

pub loop-k-preserved : goal.loop-k-preserved
loop-k-preserved c =
    let k = c.loop-k.k in
    let more = fours_more c.args.t.now c.loop-k.invariant (omega (arith, c.loop-k-test.true)) c.four_at.ensures c.over_four-state.ensures in
    let next : 4 * k + 4 ≡ 4 * (k + 1) = omega arith in
    rw next at more

pub over_rest-requires : goal.over_rest-requires
over_rest-requires c = omega arith

pub returns : goal.returns
returns c =
    let all : length c.args.bytes.now / 4 ≡ c.loop-k.k = omega (arith, c.loop-k.invariant.within) in
    fours_done c.args.t.now c.loop-k.invariant (omega (arith, c.loop-k.invariant.within)) (rw all at c.over_rest.ensures)
