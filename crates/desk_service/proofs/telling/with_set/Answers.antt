use Rattle.desk_service.proofs.Lined.{eight_laid}
use borrow.Author.Rules.{rules}
use Rattle.desk_service.proofs.telling.with_set.Goals as goal

pub returns : goal.returns
returns c = eight_laid c.args.set c.copy.new.room (search rules) (c.copy.ensures.all (search rules)).1
