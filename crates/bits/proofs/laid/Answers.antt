-- `bits::laid` meets its contract (proofs/Laying.antt). Assumes nothing.
use borrow.Author.Rules.{rules}
use Rattle.bits.proofs.Laying.{laid_law}
use Rattle.bits.proofs.laid.Goals as goal

pub returns : goal.returns
returns c = laid_law c.args.r c.args.touched c.args.new (search rules) (search rules) (search rules)
