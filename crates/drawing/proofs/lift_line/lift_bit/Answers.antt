use mathlib.Core.Path.{sym, ◌∙◌}
use Rattle.bits.proofs.Digits.{bit_zero}
use Rattle.drawing.specs.Private.{lift_bit}
use Rattle.std.proofs.lemmas.Grind.{common_steps}
use native.Mathlib.Omega.{arith}
use Rattle.drawing.proofs.lift_line.lift_bit.Goals as goal

pub returns-in-52 : goal.returns-in-52
unfolding lift_bit
returns-in-52 c = simp c.in-52.is

pub returns-in-53 : goal.returns-in-53
unfolding lift_bit
returns-in-53 c = sym (bit_zero c.args.lift.height) ∙ simp c.in-53.is

pub returns-in-54 : goal.returns-in-54
unfolding lift_bit
returns-in-54 c = simp c.in-54.is

pub returns-in-55 : goal.returns-in-55
unfolding lift_bit
returns-in-55 c = simp c.in-55.is

pub returns-in-56 : goal.returns-in-56
unfolding lift_bit
returns-in-56 c = simp c.in-56.is

pub returns-in_default : goal.returns-in_default
unfolding lift_bit
returns-in_default c = grind (arith, common_steps)
