use Rattle.bits.proofs.Masks.{none_places}
use borrow.Author.Rules.{rules}
use Rattle.bits.proofs.free.Goals as goal

pub returns : goal.returns
returns c = none_places c.args.r c.args.mask (search rules)
