-- What the code answers about an instruction, good or bad, on a record: the verdict, the next record, the area, the overlap of two.
-- Assumes nothing.
use Rattle.std.specs.Prelude.{Bool, true, false, cond, ◌&&◌, List, [], ◌∷◌, ℕ}
use Rattle.bits.specs.Bits.{Bits, bit, image}
use Rattle.floor.specs.Tests.{holds}
use Rattle.answers.specs.declared.Answer.{Answer}
use Rattle.rules.specs.declared.Instruction.{Instruction}
use Rattle.rules.specs.declared.Event.{Event}
use Rattle.rules.specs.declared.Code.{Code}
use Rattle.std.specs.declared.option.Option.{Option}
use Rattle.std.specs.declared.option.Option.TheVariants.{Some, None}
use Rattle.rules.specs.declared.Refusal.{Refusal}
use Rattle.rules.specs.declared.Undriven.{Undriven}
use Rattle.std.specs.declared.result.Result.{Result}
use Rattle.std.specs.declared.result.Result.TheVariants.{Ok, Err}
use Rattle.rules.specs.declared.Sharing.{Sharing}
use Rattle.rules.specs.Rules.{well_formed, area, overlap, Clause, ◌else◌, clauses, next_record}
use Rattle.rules.specs.Events.{in_turn, possible, places_open, after_event}
use Rattle.rules.specs.Codes.{read_code}

-- what is said of an instruction on a record: it is allowed, or why not
abbrev pub Verdict : Type 0
Verdict = Result (Unit {0}) Refusal

-- what a record says of conditions: all hold, or the reason of the first that fails
abbrev pub judged : List Clause → Bits → Verdict
judged [] f = Ok tt
judged ((t else why) ∷ cs) f = cond (holds t f) (judged cs f) (Err (Refusal.NotAllowed why))

-- whether an instruction is allowed on the record with this image, and why not
unfoldable pub verdict_of : Instruction → ℕ → Verdict
verdict_of i r = cond (well_formed i) (judged (clauses i) (bit r)) (Err Refusal.IllFormed)

-- whether a verdict allows
abbrev pub is_allowed : Verdict → Bool
is_allowed (Ok done) = true
is_allowed (Err refusal) = false

-- a next record where the verdict allows it, else why not
abbrev pub moved_by : Verdict → ℕ → Result ℕ Refusal
moved_by (Ok done) x = Ok x
moved_by (Err refusal) x = Err refusal

-- the image after it, where it is allowed
unfoldable pub moved_of : Instruction → ℕ → Result ℕ Refusal
moved_of i r = moved_by (verdict_of i r) (image (next_record i (bit r)))

-- what is answered for a verdict on the instruction at this place
abbrev pub answer_for : Verdict → ℕ → Answer
answer_for (Ok done) p = Answer.Taken
answer_for (Err (Refusal.NotAllowed why)) p = Answer.NotAllowed why p
answer_for (Err Refusal.IllFormed) p = Answer.BadField p

-- its area as a mask
unfoldable pub mask_of : Instruction → Option ℕ
mask_of i = cond (well_formed i) (Option.Some (image (area i))) Option.None

-- whether two overlap
unfoldable pub sharing_of : Instruction → Instruction → Sharing
sharing_of i j = cond (well_formed i && well_formed j) (cond (overlap i j) Sharing.Overlap Sharing.Apart) Sharing.IllFormed

-- the image after a car event, where it comes in turn, is possible and leaves the places open that are kept so
unfoldable pub driven_of : Event → ℕ → Result ℕ Undriven
driven_of e r =
    cond (in_turn e (bit r))
    (cond (possible e (bit r))
    (cond (places_open e (bit r)) (Ok (image (after_event e (bit r)))) (Err Undriven.KeptOpen))
    (Err Undriven.Impossible))
    (Err Undriven.OutOfTurn)

-- ---- the same of five bytes: bad ones say nothing that is well formed

abbrev pub on_code : {A : Type 0} → (Instruction → A) → A → (Option Instruction) → A
on_code f bad (Some i) = f i
on_code f bad None = bad

unfoldable pub code_verdict : Code → ℕ → Verdict
code_verdict x r = on_code (λ i. verdict_of i r) (Err Refusal.IllFormed) (read_code x)

unfoldable pub code_moved : Code → ℕ → Result ℕ Refusal
code_moved x r = on_code (λ i. moved_of i r) (Err Refusal.IllFormed) (read_code x)

unfoldable pub code_mask : Code → Option ℕ
code_mask x = on_code mask_of Option.None (read_code x)

unfoldable pub code_sharing : Code → Code → Sharing
code_sharing x y = on_code (λ i. on_code (sharing_of i) Sharing.IllFormed (read_code y)) Sharing.IllFormed (read_code x)
