use native.Mathlib.Omega.{arith}
use borrow.Author.Tests.{lt-ltb, le-ltb}
use Rattle.drawing.specs.Private.{place_in_row}
use Rattle.drawing.proofs.grid.place_of.Goals as goal

pub returns-in-0-to-19 : goal.returns-in-0-to-19
unfolding place_in_row
returns-in-0-to-19 c = simp (lt-ltb c.args.k 20 (omega arith))

pub returns-in-20-to-29 : goal.returns-in-20-to-29
unfolding place_in_row
returns-in-20-to-29 c = simp (le-ltb c.args.k 20 (omega arith), lt-ltb c.args.k 30 (omega arith))

pub returns-in-30-to-39 : goal.returns-in-30-to-39
unfolding place_in_row
returns-in-30-to-39 c =
    simp (
      le-ltb c.args.k 20 (omega arith),
      le-ltb c.args.k 30 (omega arith),
      lt-ltb
          c.args.k 40 (omega arith),
    )

pub returns-in_default : goal.returns-in_default
unfolding place_in_row
returns-in_default c =
    simp (
      le-ltb c.args.k 20 (omega arith),
      le-ltb c.args.k 30 (omega arith),
      le-ltb
          c.args.k 40 (omega arith),
    )
