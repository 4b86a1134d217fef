-- `desk::Desk::list` meets its contract: the lines of all elements. Assumes nothing.
use borrow.Author.Rules.{rules}
use Rattle.desk.specs.Lines.{element_line}
use Rattle.desk.proofs.Laying.{list_found}
use Rattle.desk.proofs.Desk.list.Goals as goal

pub returns : goal.returns
returns c = list_found _ c.no_lines.ensures (c.gathered.ensures (element_line c.args.self) (λ j h l p. search rules))
