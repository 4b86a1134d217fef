-- `week::count_message` meets its contract: what happens, counted in totals that are lent. Assumes nothing.
use Rattle.week.proofs.Counting.{held_by}
use Rattle.week.proofs.count_message.Goals as goal

pub returns : goal.returns
returns c = held_by _ c.happened.ensures c.brought_up-c.ensures
