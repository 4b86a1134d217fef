-- `week::count_end` meets its contract: no bytes, or a message that was cut short. Assumes nothing.
use mathlib.Core.Path.{sym}
use borrow.Author.Tests.{eqb-true, eqb-false}
use Rattle.week.proofs.Counting.{none_left, some_left}
use Rattle.week.proofs.count_end.Goals as goal

pub returns-then-is_empty : goal.returns-then-is_empty
returns-then-is_empty c = none_left _ c.args.s c.args.held.now (eqb-true _ 0 (sym c.if-is_empty.ensures))

pub returns : goal.returns
returns c = some_left _ c.args.s c.args.held.now (eqb-false _ 0 (sym c.if-is_empty.ensures)) c.count_message.ensures
