use Rattle.panel.proofs.Ends.{Ending}
use Rattle.panel.specs.Private.{end_of}
use Prim.Native.Nat.{◌≤◌}
use Rattle.panel.proofs.deciding.end.Given as goal

abbrev pub invariant-loop-j : goal.invariant-loop-j
invariant-loop-j l = Ending l.span l.up (end_of l.span l.toward l.n) l.j l.left l.marked × (l.j ≤ 40)
