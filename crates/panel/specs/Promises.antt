-- What is promised of the panel: the conditions that it explains give the verdict, and the parts that it names decide them. Each is proved
-- in proofs/. Assumes nothing.
use Rattle.std.specs.Prelude.{◌≡◌, ◌↔◌, Bool, true, false, cond, ◌&&◌, [], ℕ, ◌<◌, ltb}
use Rattle.std.specs.declared.option.Option.{Option}
use Rattle.std.specs.declared.option.Option.TheVariants.{Some, None}
use Rattle.bits.specs.Bits.{Bits}
use Rattle.bits.specs.Places.{elem}
use Rattle.floor.specs.Floor.{raised_car, lift}
use Rattle.answers.specs.declared.Reason.{Reason}
use Rattle.rules.specs.declared.Instruction.{Instruction}
use Rattle.rules.specs.declared.Refusal.TheVariants.{NotAllowed}
use Rattle.std.specs.declared.result.Result.TheVariants.{Ok, Err}
use Rattle.rules.specs.Rules.{well_formed}
use Rattle.plain.specs.Conditions.{verdict_on}
use Rattle.plain_moves.specs.declared.Parts.{Parts}
use Rattle.plain_moves.specs.Moves.{parts_bits, parts_at}
use Rattle.panel.specs.declared.Explanation.{Explanation}
use Rattle.panel.specs.Panel.{explained}

-- whether what is shown holds, and the parts that decide it: where there is no condition nothing fails, and nothing decides
abbrev pub shown_holds : Option Explanation → Bool
shown_holds None = true
shown_holds (Some x) = x.condition.holds

abbrev pub shown_parts : Option Explanation → Parts
shown_parts None = parts_at []
shown_parts (Some x) = x.parts

-- condition c of an instruction is the first that doesn't hold on a record, and has this reason
pub record FirstShownFails (i : Instruction) (f : Bits) (why : Reason) (c : ℕ) : Type 0 where
  pub shown : Explanation
  pub there : explained i c f ≡ Some shown
  pub fails : shown.condition.holds ≡ false
  pub told : shown.condition.why ≡ why
  pub before : (j : ℕ) → j < c → shown_holds (explained i j f) ≡ true

-- an instruction is refused with a reason exactly if the first condition that fails has this reason
abbrev pub RefusalExplained : Type 0
RefusalExplained = (i : Instruction) (f : Bits) (why : Reason) → (verdict_on i f ≡ Err (NotAllowed why)) ↔ ((c : ℕ) × FirstShownFails i f why c)

-- a well-formed one is allowed exactly if each of its conditions holds
abbrev pub AllowedExplained : Type 0
AllowedExplained =
    (i : Instruction) (f : Bits) → well_formed i ≡ true → (verdict_on i f ≡ Ok tt) ↔ ((c : ℕ) → shown_holds (explained i c f) ≡ true)

-- whether a bit of a record is one of some parts: a cell's, a slot's, or one of the lift's three
abbrev pub among : Parts → Bits
among p k = cond (ltb k raised_car) (parts_bits p k) (elem k lift && p.lift)

-- the parts of a condition decide it: on two records that agree there it holds on both or on neither
abbrev pub PartsDecide : Type 0
PartsDecide =
    (i : Instruction) (c : ℕ) (f g : Bits)
    → ((k : ℕ) → among (shown_parts (explained i c f)) k ≡ true → f k ≡ g k)
    → shown_holds (explained i c f) ≡ shown_holds (explained i c g)
