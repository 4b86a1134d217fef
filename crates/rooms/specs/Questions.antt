-- What is asked of an instruction, given by its five bytes, on a record: whether it is allowed, and the record after it. Assumes nothing.
use Rattle.std.specs.Prelude.{cond, List, ℕ, ltb, length}
use Rattle.codec.specs.Bytes.{little_endian}
use Rattle.rules.specs.declared.Refusal.{Refusal}
use Rattle.rules.specs.declared.Refusal.TheVariants.{IllFormed}
use Rattle.std.specs.declared.result.Result.{Result}
use Rattle.std.specs.declared.result.Result.TheVariants.{Ok, Err}
use Rattle.rules.specs.Codes.{read_bytes, code_from}
use Rattle.rules.specs.Verdicts.{on_code, moved_of}
use Rattle.answers.specs.declared.Answer.{Answer}
use Rattle.answers.specs.declared.Answer.TheVariants.{Taken, TooFewBytes, BadField, NotAllowed, OutOfTurn}
use Rattle.answers.specs.Answers.{nowhere}
use Rattle.station.specs.Held.{crosses}
use Rattle.rooms.specs.Rooms.{Entry, no_room, writes}

-- the record after an instruction, given by its five bytes, where it is allowed on the record r
unfoldable pub moved : ℕ → List ℕ → Result ℕ Refusal
moved r five = on_code (λ i. moved_of i r) (Err IllFormed) (read_bytes five)

-- what is answered of it: it is allowed; why not; 4 where the bytes say no instruction
abbrev pub answer_to : Result ℕ Refusal → Answer
answer_to (Ok r) = Taken
answer_to (Err (Refusal.NotAllowed why)) = NotAllowed why nowhere
answer_to (Err IllFormed) = BadField nowhere

-- what a request of the one instruction that the first five bytes say is told on the record r: 1 where they are fewer, 31 where it has the
-- lift in its area while a drive is under way, and whether it is allowed
unfoldable pub request_answer : ℕ → List ℕ → Answer
request_answer r five = cond (ltb (length five) 5) TooFewBytes (cond (crosses (code_from five) r) OutOfTurn (answer_to (moved r five)))

-- the record after it, if it is allowed
abbrev pub record_in : Result ℕ Refusal → ℕ
record_in (Ok r) = r
record_in (Err (Refusal.NotAllowed why)) = 0
record_in (Err IllFormed) = 0

-- the next record is asked for: 17, then as above
unfoldable pub nexting : ℕ → List ℕ → List ℕ → Entry
nexting r five room =
    cond (ltb (length room) 8) (no_room room) (writes (request_answer r five) (little_endian 8 (record_in (moved r five))) room)
