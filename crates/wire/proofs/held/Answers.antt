use Rattle.wire.proofs.Parts.{zero_filled}
use borrow.Author.Rules.{rules}
use Rattle.wire.proofs.held.Goals as goal

pub returns : goal.returns
returns c = zero_filled c.args.s.now _ (c.copy.ensures.all (search rules)).1
