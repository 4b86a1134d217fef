use borrow.Author.Rules.{rules}
use Prim.Native.Nat.{◌*◌}
use native.Mathlib.Omega.{arith}
use Rattle.report_c.specs.Entries.{totals_bytes}
use Rattle.codec.proofs.Fours.{four_laid, writing_starts, writing_turns, writing_ends}
use Rattle.report_c.proofs.keep.Goals as goal

pub loop-place-init : goal.loop-place-init
loop-place-init c = writing_starts 52 c.args.room.now c.args.counts.now

pub slice_bounds-copy-end-in-loop-place : goal.slice_bounds-copy-end-in-loop-place
slice_bounds-copy-end-in-loop-place c = omega (arith, c.loop-place.invariant.same, c.requires)

pub loop-place-preserved : goal.loop-place-preserved
loop-place-preserved c = writing_turns 52 c.args.room.now c.args.counts.now c.loop-place.room _ c.loop-place.place (omega arith) (omega (arith, c.loop-place.invariant.same, c.requires)) c.loop-place.invariant (four_laid c.loop-place.room c.four_bytes-four.result c.copy.new.room (4 * c.loop-place.place) _ (omega (arith, c.loop-place.invariant.same, c.requires)) c.four_bytes-four.ensures (c.copy.ensures.all (search rules)).1)

pub shape_of-room : goal.shape_of-room
shape_of-room c = omega (arith, c.loop-place.invariant.same)

pub returns : goal.returns
unfolding totals_bytes
returns c = writing_ends 52 c.args.room.now c.args.counts.now c.loop-place.room c.loop-place.place (omega arith) c.loop-place.invariant
