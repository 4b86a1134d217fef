-- `plain::places::at_position` meets its contract, row by row. Assumes nothing.
use mathlib.Core.Path.{◌∙◌}
use native.Mathlib.Omega.{arith}
use borrow.Author.Tests.{ne_eqb}
use Rattle.plain.proofs.places.at_position.Goals as goal

pub returns-in-1 : goal.returns-in-1
returns-in-1 c = c.among.ensures ∙ rw c.in-1.is

pub returns-in-2 : goal.returns-in-2
returns-in-2 c = c.among-in-2.ensures ∙ rw c.in-2.is

pub returns-in_default : goal.returns-in_default
returns-in_default c = let row = c.args.row in c.among-in_default.ensures ∙ simp (ne_eqb row 1 (λ e. omega arith), ne_eqb row 2 (λ e. omega arith))
