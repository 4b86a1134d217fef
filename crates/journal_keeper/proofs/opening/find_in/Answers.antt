-- `journal_keeper::opening::find_in` meets its contract. Assumes nothing.
use Rattle.journal_keeper.proofs.opening.find_in.Goals as goal

pub read_all-requires : goal.read_all-requires
read_all-requires c = λ l. c.in_ok-start.ensures l.0
