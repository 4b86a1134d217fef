-- `station_program::session` meets its contract: less than a message is held, and all that was answered is in the journal. Assumes nothing.
use Rattle.std.proofs.Common.{rules}
use Rattle.station_program.proofs.session.Goals as goal

pub loop-preserved : goal.loop-preserved
loop-preserved c = let g = c.in_ok-b.ensures.0 c.if-b.false in (search rules, search rules, g.0, g.1)
