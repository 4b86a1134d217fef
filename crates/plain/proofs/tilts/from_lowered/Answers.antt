-- `plain::tilts::from_lowered` meets its contract, condition by condition. Assumes nothing.
use mathlib.Core.Path.{refl, ap}
use Prim.Native.Nat.{ℕ}
use native.Mathlib.Omega.{arith}
use lib.Dec.{eqb}
use Rattle.answers.specs.declared.Reason.TheVariants.{NotAvailable, CellsNotFree}
use Rattle.floor.specs.Floor.{lowered}
use Rattle.rules.specs.declared.Instruction.TheVariants.{Tilt}
use Rattle.rules.specs.Rules.{clauses}
use Rattle.plain.specs.Plain.{plain_bits}
use Rattle.plain.proofs.Telling.{told, past}
use Rattle.plain.proofs.tilts.from_lowered.Goals as goal

pub returns-in-0 : goal.returns-in-0
returns-in-0 c = let a = c.args in
    told (clauses (Tilt a.side a.row lowered)) (plain_bits a.f) 0 c.in-0.is _ NotAvailable c.told.ensures c.all_lowered.ensures refl

pub returns-in-1 : goal.returns-in-1
returns-in-1 c = let a = c.args in
    told (clauses (Tilt a.side a.row lowered)) (plain_bits a.f) 1 c.in-1.is _ CellsNotFree c.told-in-1.ensures
    (ap (λ (n : ℕ). eqb n 0) c.at_position.ensures) refl

pub returns-in_default : goal.returns-in_default
returns-in_default c = let a = c.args in past (clauses (Tilt a.side a.row lowered)) (plain_bits a.f) a.c (omega arith)
