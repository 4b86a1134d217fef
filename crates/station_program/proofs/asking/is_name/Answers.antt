-- `station_program::asking::is_name` meets its contract. Assumes nothing.
use borrow.Author.Tests.{ne_eqb}
use Rattle.station_program.proofs.asking.is_name.Goals as goal

pub returns-then-word-eq0 : goal.returns-then-word-eq0
returns-then-word-eq0 c = rw c.if-word-eq0.true

pub returns : goal.returns
returns c = rw (ne_eqb _ _ c.if-word-eq0.false)
