-- `journal_keeper::opening::go_on` meets its contract. Assumes nothing.
use Rattle.std.proofs.Common.{sym, arith, length-take-le}
use Rattle.journal_keeper.proofs.opening.go_on.Goals as goal

pub slice_bounds-to_append-end-2 : goal.slice_bounds-to_append-end-2
slice_bounds-to_append-end-2 c = sym (length-take-le _ _ (omega (arith, c.cut_rest.auto.name, c.if-name-n.false)))
