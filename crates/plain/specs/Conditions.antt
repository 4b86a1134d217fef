-- What is said of an instruction on a record, condition by condition. Assumes nothing.
use Rattle.std.specs.Prelude.{cond, List, [], ◌∷◌, ℕ, zero, suc}
use Rattle.std.specs.declared.option.Option.{Option}
use Rattle.std.specs.declared.option.Option.TheVariants.{Some, None}
use Rattle.bits.specs.Bits.{Bits}
use Rattle.floor.specs.Tests.{holds}
use Rattle.rules.specs.declared.Instruction.{Instruction}
use Rattle.rules.specs.declared.Refusal.{Refusal}
use Rattle.std.specs.declared.result.Result.TheVariants.{Err}
use Rattle.rules.specs.Rules.{well_formed, Clause, ◌else◌, clauses}
use Rattle.rules.specs.Verdicts.{Verdict, judged}
use Rattle.plain.specs.declared.Condition.{Condition}

-- condition c of a list, from 0; past the last there is none
abbrev pub condition_in : List Clause → ℕ → Bits → Option Condition
condition_in [] c f = None
condition_in ((t else why) ∷ cs) zero f = Some (record { holds = holds t f; why = why })
condition_in ((t else why) ∷ cs) (suc c) f = condition_in cs c f

-- condition c of an instruction, in the paper's order; an ill-formed one has none
unfoldable pub condition_of : Instruction → ℕ → Bits → Option Condition
condition_of i c f = condition_in (cond (well_formed i) (clauses i) []) c f

-- whether an instruction is allowed on a record, and why not
unfoldable pub verdict_on : Instruction → Bits → Verdict
verdict_on i f = cond (well_formed i) (judged (clauses i) f) (Err Refusal.IllFormed)
