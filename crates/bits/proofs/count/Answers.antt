use Rattle.bits.proofs.Masks.{ones_places}
use borrow.Author.Rules.{rules}
use Rattle.bits.proofs.count.Goals as goal

pub returns : goal.returns
returns c = ones_places c.args.r c.args.mask (search rules)
