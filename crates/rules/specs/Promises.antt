-- What is promised of instructions and car events: in bytes, that what was written reads back and each has one form; of the verdict on
-- an instruction, that it allows exactly what the rules allow and gives exactly the reason of the first condition that fails. Proved in
-- proofs/Promises.antt and proofs/Reasons.antt. Assumes nothing.
use Rattle.std.specs.Prelude.{◌≡◌, ◌↔◌, true, false, List, ◌∷◌, ◌++◌, map, ℕ, take}
use Rattle.bits.specs.Bits.{Bits, bit}
use Rattle.floor.specs.Tests.{Test, holds, all_hold}
use Rattle.answers.specs.declared.Reason.{Reason}
use Rattle.rules.specs.declared.Refusal.TheVariants.{NotAllowed}
use Rattle.std.specs.declared.result.Result.TheVariants.{Ok, Err}
use Rattle.rules.specs.declared.Instruction.{Instruction}
use Rattle.rules.specs.declared.Code.{Code}
use Rattle.std.specs.declared.option.Option.TheVariants.{Some}
use Rattle.rules.specs.declared.Event.{Event}
use Rattle.std.specs.declared.option.Option.{Option}
use Rattle.rules.specs.Rules.{well_formed, Clause, ◌else◌, test, clauses, allowed}
use Rattle.rules.specs.Verdicts.{verdict_of}
use Rattle.rules.specs.Codes.{code_of, bytes_of, read_code, read_bytes, event_code, read_event}

-- a well-formed instruction is read back from its five bytes
abbrev pub CodeReadsBack : Type 0
CodeReadsBack = (i : Instruction) → well_formed i ≡ true → read_code (code_of i) ≡ Some i

-- five bytes that read as an instruction are exactly its five bytes, and it is well formed
abbrev pub CodeOneForm : Type 0
CodeOneForm = (x : Code) (i : Instruction) → read_code x ≡ Some i → (x ≡ code_of i) × (well_formed i ≡ true)

-- a well-formed instruction is read back from the start of a run of bytes, whatever stands after its five
abbrev pub BytesReadBack : Type 0
BytesReadBack = (i : Instruction) (t : List ℕ) → well_formed i ≡ true → read_bytes (bytes_of i ++ t) ≡ Some i

-- a run of bytes that reads as an instruction starts with exactly its five bytes, and it is well formed
abbrev pub BytesOneForm : Type 0
BytesOneForm = (s : List ℕ) (i : Instruction) → read_bytes s ≡ Some i → (take 5 s ≡ bytes_of i) × (well_formed i ≡ true)

-- a car event is read back from its byte
abbrev pub EventReadsBack : Type 0
EventReadsBack = (e : Event) → read_event (event_code e) ≡ Option.Some e

-- a byte that reads as a car event is exactly that event's
abbrev pub EventOneForm : Type 0
EventOneForm = (b : ℕ) (e : Event) → read_event b ≡ Option.Some e → b ≡ event_code e

-- ---- verdicts

-- of these conditions the first that fails has this reason: those before it hold
pub record FirstFails (cs : List Clause) (f : Bits) (why : Reason) : Type 0 where
  pub before : List Clause
  pub condition : Test
  pub after : List Clause
  pub stands : cs ≡ before ++ (condition else why) ∷ after
  pub hold : all_hold (map test before) f ≡ true
  pub fails : holds condition f ≡ false

-- a verdict allows exactly what the rules allow
abbrev pub AllowedExactly : Type 0
AllowedExactly = (i : Instruction) (r : ℕ) → (verdict_of i r ≡ Ok tt) ↔ (allowed i (bit r) ≡ true)

-- a verdict gives a reason exactly where the instruction is well formed and the first of its conditions that fails has that reason
abbrev pub ReasonFirst : Type 0
ReasonFirst = (i : Instruction) (r : ℕ) (why : Reason) → (verdict_of i r ≡ Err (NotAllowed why)) ↔ ((well_formed i ≡ true) × FirstFails (clauses i) (bit r) why)
