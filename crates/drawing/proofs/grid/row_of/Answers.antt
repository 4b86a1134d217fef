use native.Mathlib.Omega.{arith}
use borrow.Author.Tests.{lt-ltb, le-ltb}
use Rattle.drawing.specs.Private.{row_of_cell}
use Rattle.drawing.proofs.grid.row_of.Goals as goal

pub returns-in-0-to-19 : goal.returns-in-0-to-19
unfolding row_of_cell
returns-in-0-to-19 c = simp (lt-ltb c.args.k 20 (omega arith))

pub returns-in-20-to-29 : goal.returns-in-20-to-29
unfolding row_of_cell
returns-in-20-to-29 c = simp (le-ltb c.args.k 20 (omega arith), lt-ltb c.args.k 30 (omega arith))

pub returns-in_default : goal.returns-in_default
unfolding row_of_cell
returns-in_default c = simp (le-ltb c.args.k 20 (omega arith), le-ltb c.args.k 30 (omega arith))
