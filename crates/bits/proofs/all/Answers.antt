use Rattle.bits.proofs.Masks.{all_places}
use borrow.Author.Rules.{rules}
use Rattle.bits.proofs.all.Goals as goal

pub returns : goal.returns
returns c = all_places c.args.r c.args.mask (search rules)
