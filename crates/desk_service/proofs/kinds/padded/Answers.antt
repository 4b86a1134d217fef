-- `desk_service::kinds::padded` meets its contract: zeros past the run. Assumes nothing.
use borrow.Author.Rules.{rules}
use Rattle.desk_service.proofs.Cards.{zero_filled}
use Rattle.desk_service.proofs.kinds.padded.Goals as goal

pub returns : goal.returns
returns c = zero_filled c.args.run.now _ (c.copy.ensures.all (search rules)).1
