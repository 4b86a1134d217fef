use borrow.Author.Rules.{rules}
use Rattle.totals.specs.Private.{raised}
use Rattle.totals.proofs.raise.Goals as goal

pub returns : goal.returns
unfolding raised
returns c = search rules
