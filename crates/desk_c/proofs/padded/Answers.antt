-- `desk_c::padded` meets its contract: zeros past the run. Assumes nothing.
use borrow.Author.Rules.{rules}
use Rattle.desk_c.proofs.Rooms.{zero_filled}
use Rattle.desk_c.proofs.padded.Goals as goal

pub returns : goal.returns
returns c = zero_filled c.args.run.now _ (c.copy.ensures.all (search rules)).1
