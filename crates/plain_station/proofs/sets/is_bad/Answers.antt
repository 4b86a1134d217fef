-- `plain_station::sets::is_bad` meets its contract: by what the bytes say. Assumes nothing.
use Rattle.rules.specs.declared.Instruction.{Instruction}
use Rattle.rules.specs.Verdicts.{on_code}
use Rattle.std.specs.declared.option.Option.{Option}
use Rattle.std.proofs.Common.{true, false, not, sym, ap, ◌∙◌}
use Rattle.plain_station.proofs.Reading.{bad_is}
use Rattle.plain_station.proofs.sets.is_bad.Goals as goal

pub returns-in-Some : goal.returns-in-Some
returns-in-Some c = ap (λ (y : Option Instruction). not (on_code (λ x. true) false y)) (sym c.in-Some.is) ∙ bad_is _ _ c.instruction.ensures

pub returns-in-None : goal.returns-in-None
returns-in-None c = ap (λ (y : Option Instruction). not (on_code (λ x. true) false y)) (sym c.in-None.is) ∙ bad_is _ _ c.instruction.ensures
