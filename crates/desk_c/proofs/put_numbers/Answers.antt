-- `desk_c::put_numbers` meets its contract: number by number. Assumes nothing.
use borrow.Author.Rules.{rules}
use Prim.Native.Nat.{◌*◌}
use native.Mathlib.Omega.{arith}
use Rattle.codec.proofs.Fours.{four_laid, writing_starts, writing_turns, writing_ends}
use Rattle.desk_c.proofs.put_numbers.Goals as goal

pub loop-place-init : goal.loop-place-init
loop-place-init c = writing_starts 42 c.args.run.now c.args.numbers.now

pub slice_bounds-copy-end-in-loop-place : goal.slice_bounds-copy-end-in-loop-place
slice_bounds-copy-end-in-loop-place c = omega (arith, c.loop-place.invariant.same, c.requires)

pub loop-place-preserved : goal.loop-place-preserved
loop-place-preserved c = writing_turns 42 c.args.run.now c.args.numbers.now c.loop-place.run _ c.loop-place.place (omega arith) (omega (arith, c.loop-place.invariant.same, c.requires)) c.loop-place.invariant (four_laid c.loop-place.run c.four_bytes-four.result c.copy.new.room (4 * c.loop-place.place) _ (omega (arith, c.loop-place.invariant.same, c.requires)) c.four_bytes-four.ensures (c.copy.ensures.all (search rules)).1)

pub shape_of-run : goal.shape_of-run
shape_of-run c = omega (arith, c.loop-place.invariant.same)

pub returns : goal.returns
returns c = writing_ends 42 c.args.run.now c.args.numbers.now c.loop-place.run c.loop-place.place (omega arith) c.loop-place.invariant
