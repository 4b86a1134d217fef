-- `plain_moves::shuttles::first_cell` meets its contract: each arm is one row of the definition. Assumes nothing.
use native.Mathlib.Omega.{arith}
use borrow.Author.Tests.{ne_eqb}
use Rattle.plain_moves.specs.Private.{position_first_cell}
use Rattle.plain_moves.proofs.shuttles.first_cell.Goals as goal

pub returns-in-1 : goal.returns-in-1
unfolding position_first_cell
returns-in-1 c = rw c.in-1.is

pub returns-in-2 : goal.returns-in-2
unfolding position_first_cell
returns-in-2 c = rw c.in-2.is

pub returns-in_default : goal.returns-in_default
unfolding position_first_cell
returns-in_default c = let row = c.args.row in simp (ne_eqb row 1 (λ e. omega arith), ne_eqb row 2 (λ e. omega arith))
