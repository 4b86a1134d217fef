use native.Mathlib.Omega.{arith}
use Rattle.codec.proofs.Copying.{none_copied, one_copied, all_copied}
use Rattle.codec.proofs.copy.Goals as goal

pub loop-i-init : goal.loop-i-init
loop-i-init c = (omega arith, none_copied c.args.src.now c.args.room.now)

pub loop-i-preserved : goal.loop-i-preserved
loop-i-preserved c = (omega arith, one_copied c.args.src.now c.args.room.now c.loop-i.room c.loop-i.i c.if-room-n.false c.loop-i-test.true c.loop-i.invariant.1)

pub returns : goal.returns
returns c = all_copied c.args.src.now c.args.room.now c.loop-i.room c.loop-i.i c.if-room-n.false c.loop-i.invariant.0 c.loop-i-test.false c.loop-i.invariant.1
