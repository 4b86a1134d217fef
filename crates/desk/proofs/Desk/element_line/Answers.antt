use Rattle.desk.proofs.Laying.{element_found}
use Rattle.desk.proofs.Desk.element_line.Goals as goal

pub returns : goal.returns
returns c = element_found _ _ c.where_line.ensures c.placed.ensures c.place_of.ensures
