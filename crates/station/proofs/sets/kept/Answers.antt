-- `station::sets::kept` meets its contract, case by case. Assumes nothing.
use Rattle.std.proofs.Common.{le-ltb, lt-ltb}
use Rattle.station.specs.Turns.{kept_set}
use Rattle.station.proofs.sets.kept.Goals as goal

pub returns-then-before-after : goal.returns-then-before-after
unfolding kept_set
returns-then-before-after c = rw (lt-ltb _ _ c.if-before-after.true)

pub returns-then-after-before : goal.returns-then-after-before
unfolding kept_set
returns-then-after-before c = rw (le-ltb _ _ c.if-before-after.false, lt-ltb _ _ c.if-after-before.true)

pub returns : goal.returns
unfolding kept_set
returns c = rw (le-ltb _ _ c.if-before-after.false, le-ltb _ _ c.if-after-before.false)
