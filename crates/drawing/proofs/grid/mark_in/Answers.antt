use mathlib.Core.Path.{◌∙◌}
use native.Mathlib.Omega.{arith}
use borrow.Author.Tests.{lt-ltb, le-ltb}
use Rattle.drawing.specs.Private.{mark_in}
use Rattle.drawing.proofs.grid.mark_in.Goals as goal

pub returns-in-0-to-19 : goal.returns-in-0-to-19
unfolding mark_in
returns-in-0-to-19 c = c.byte.ensures ∙ simp (lt-ltb c.args.k 20 (omega arith))

pub returns-in-20-to-29 : goal.returns-in-20-to-29
unfolding mark_in
returns-in-20-to-29 c = c.byte-in-20-to-29.ensures ∙ simp (le-ltb c.args.k 20 (omega arith), lt-ltb c.args.k 30 (omega arith))

pub returns-in-30-to-39 : goal.returns-in-30-to-39
unfolding mark_in
returns-in-30-to-39 c =
    c.byte-in-30-to-39.ensures ∙ simp (
      le-ltb c.args.k 20
          (omega arith),
      le-ltb c.args.k 30
          (omega arith),
      lt-ltb c.args.k 40 (omega arith),
    )

pub returns-in_default : goal.returns-in_default
unfolding mark_in
returns-in_default c =
    simp (
      le-ltb c.args.k 20 (omega arith),
      le-ltb
          c.args.k 30 (omega arith),
      le-ltb c.args.k 40 (omega arith),
    )
