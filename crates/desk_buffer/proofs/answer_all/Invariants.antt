use Prim.Native.Nat.{◌<◌, ◌^◌}
use Rattle.desk_buffer.proofs.Serving.{DeskMidway}
use Prim.Native.Nat.{◌-◌}
use lib.ListN.{length}
use Rattle.desk_buffer.proofs.answer_all.Given as goal

abbrev pub invariant-loop-d : goal.invariant-loop-d
invariant-loop-d l = DeskMidway l.input l.initial.out l.initial.sent l.initial.d l.out l.sent l.d l.at l.made l.passed × (length l.initial.out < 2 ^ 64) × (length l.input < 2 ^ 64)

abbrev pub decreases-loop-d : goal.decreases-loop-d
decreases-loop-d l = length l.input - l.at
