-- `plain_moves::lifts::height_of` meets its contract: each number is one case (proofs/Lifting.antt). Assumes nothing.
use mathlib.Core.Path.{◌≡◌}
use native.Mathlib.Omega.{arith}
use lib.Dec.{leb→le}
use Rattle.plain_moves.proofs.Lifting.{height_number}
use Rattle.plain_moves.proofs.lifts.height_of.Goals as goal

pub returns-in-0 : goal.returns-in-0
returns-in-0 c = height_number {m = 0} c.in-0.is

pub returns-in-1 : goal.returns-in-1
returns-in-1 c = height_number {m = 1} c.in-1.is

pub returns-in_default : goal.returns-in_default
returns-in_default c = let n = c.args.n in let two : n ≡ 2 = omega (arith, leb→le n 2 c.requires) in height_number {m = 2} two
