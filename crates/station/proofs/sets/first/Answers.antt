-- `station::sets::first` meets its contract: what its test asks is what the definition asks. Assumes nothing.
use Rattle.std.proofs.Common.{◌&&◌, eqb}
use Rattle.station.proofs.Loops.{where_true, where_false}
use Rattle.station.proofs.sets.first.Goals as goal

pub returns-then-here-found : goal.returns-then-here-found
returns-then-here-found c = let a = c.args in where_true (a.here && eqb a.found a.n) a.i a.found c.if-here-found.true

pub returns : goal.returns
returns c = let a = c.args in where_false (a.here && eqb a.found a.n) a.i a.found c.if-here-found.false
