-- `plain::lifts::rotate_condition` meets its contract, condition by condition. Assumes nothing.
use mathlib.Core.Path.{refl, sym, ap, ap₂, ◌∙◌}
use Prim.Native.Nat.{ℕ, ◌+◌}
use native.Mathlib.Omega.{arith}
use lib.Dec.{eqb}
use Rattle.bits.proofs.Counts.{count_append}
use Rattle.bits.specs.Places.{from}
use Rattle.answers.specs.declared.Reason.TheVariants.{NotAtRotation, CellsNotFree}
use Rattle.rules.specs.declared.Instruction.TheVariants.{Rotate}
use Rattle.rules.specs.Rules.{clauses}
use Rattle.plain.specs.Plain.{plain_bits}
use Rattle.plain.proofs.Telling.{told, past}
use Rattle.plain.proofs.Standing.{few}
use Rattle.plain.proofs.lifts.rotate_condition.Goals as goal

pub overflow_add-among : goal.overflow_add-among
overflow_add-among c = omega (arith, c.among.ensures, c.among-in-1.ensures, few (plain_bits c.args.f) 8 3, few (plain_bits c.args.f) 13 3)

pub returns-in-0 : goal.returns-in-0
returns-in-0 c = told (clauses Rotate) (plain_bits c.args.f) 0 c.in-0.is _ NotAtRotation c.told.ensures c.lift_at.ensures refl

pub returns-in-1 : goal.returns-in-1
returns-in-1 c = told (clauses Rotate) (plain_bits c.args.f) 1 c.in-1.is _ CellsNotFree c.told-in-1.ensures
    (ap (λ (n : ℕ). eqb n 0) (ap₂ ◌+◌ c.among.ensures c.among-in-1.ensures ∙ sym
    (count_append (from 8 3) (from 13 3) (plain_bits c.args.f)))) refl

pub returns-in_default : goal.returns-in_default
returns-in_default c = past (clauses Rotate) (plain_bits c.args.f) c.args.c (omega arith)
