use Rattle.desk_service.proofs.Lined.{five_laid}
use borrow.Author.Rules.{rules}
use Rattle.desk_service.proofs.telling.with_lines.Goals as goal

pub returns : goal.returns
returns c = five_laid c.args.lines c.copy.new.room (search rules) (c.copy.ensures.all (search rules)).1
