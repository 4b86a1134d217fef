-- `plain::walks::row_1` meets its contract: the loop walks the row (proofs/Walking.antt). Assumes nothing.
use mathlib.Core.Path.{refl}
use native.Mathlib.Omega.{arith}
use Rattle.plain.specs.Walks.{walk_of}
use Rattle.plain.specs.Plain.{plain_bits}
use Rattle.plain.proofs.Walking.{row_starts, row_room, row_turns, row_ends}
use Rattle.plain.proofs.walks.row_1.Goals as goal

pub loop-k-init : goal.loop-k-init
unfolding walk_of
loop-k-init c = row_starts (plain_bits c.args.f) refl

pub noted-w-requires : goal.noted-w-requires
noted-w-requires c = row_room c.loop-k.invariant

pub loop-k-preserved : goal.loop-k-preserved
loop-k-preserved c = row_turns c.loop-k.half c.occupied-here.result c.loop-k.invariant (omega arith) c.occupied-here.ensures c.noted-w.ensures

pub returns : goal.returns
returns c = row_ends c.loop-k.invariant (omega arith)
