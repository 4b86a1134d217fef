-- `plain::tilts::from_tilted` meets its contract, condition by condition. Assumes nothing.
use mathlib.Core.Path.{refl, sym, ap, ◌∙◌}
use mathlib.Core.Bool.{not, and-true}
use native.Mathlib.Omega.{arith}
use Rattle.answers.specs.declared.Reason.TheVariants.{NotAvailable, NotFree}
use Rattle.floor.specs.Floor.{lowered, tilted, slot}
use Rattle.rules.specs.declared.Instruction.TheVariants.{Tilt}
use Rattle.rules.specs.Rules.{clauses}
use Rattle.plain.specs.Plain.{plain_bits}
use Rattle.plain.proofs.Telling.{told, past}
use Rattle.plain.proofs.Asking.{one_free}
use Rattle.plain.proofs.tilts.from_tilted.Goals as goal

pub returns-in-0 : goal.returns-in-0
returns-in-0 c = let a = c.args in
    told (clauses (Tilt a.side a.row tilted)) (plain_bits a.f) 0 c.in-0.is _ NotAvailable c.told.ensures
    (c.shuttle.ensures ∙ sym (and-true (plain_bits a.f (slot a.side tilted a.row)))) refl

pub returns-in-1 : goal.returns-in-1
returns-in-1 c = let a = c.args in
    told (clauses (Tilt a.side a.row tilted)) (plain_bits a.f) 1 c.in-1.is _ NotFree c.told-in-1.ensures
    (ap not c.shuttle-in-1.ensures ∙ one_free (plain_bits a.f (slot a.side lowered a.row))) refl

pub returns-in_default : goal.returns-in_default
returns-in_default c = let a = c.args in past (clauses (Tilt a.side a.row tilted)) (plain_bits a.f) a.c (omega arith)
