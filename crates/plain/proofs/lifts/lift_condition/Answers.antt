-- `plain::lifts::lift_condition` meets its contract, condition by condition. Assumes nothing.
use mathlib.Core.Path.{refl, ap}
use mathlib.Core.Bool.{not}
use native.Mathlib.Omega.{arith}
use lib.Dec.{leb→le}
use Rattle.answers.specs.declared.Reason.TheVariants.{SameHeight, OddCount}
use Rattle.rules.specs.declared.Instruction.TheVariants.{Lift}
use Rattle.rules.specs.Rules.{clauses}
use Rattle.plain.specs.Plain.{plain_bits}
use Rattle.plain.proofs.Telling.{told, past}
use Rattle.plain.proofs.lifts.lift_condition.Goals as goal

pub lift_at-requires : goal.lift_at-requires
lift_at-requires c = omega (arith, leb→le c.args.height 2 c.requires)

pub returns-in-0 : goal.returns-in-0
returns-in-0 c = let a = c.args in
    told (clauses (Lift a.height)) (plain_bits a.f) 0 c.in-0.is _ SameHeight c.told.ensures (ap not c.lift_at.ensures) refl

pub returns-in-1 : goal.returns-in-1
returns-in-1 c = let a = c.args in
    told (clauses (Lift a.height)) (plain_bits a.f) 1 c.in-1.is _ OddCount c.told-in-1.ensures c.may_leave.ensures refl

pub returns-in_default : goal.returns-in_default
returns-in_default c = let a = c.args in past (clauses (Lift a.height)) (plain_bits a.f) a.c (omega arith)
