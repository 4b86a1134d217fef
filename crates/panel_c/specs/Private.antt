-- What the contracts of private functions cite; no public one rests on it. Assumes nothing.
use Rattle.std.specs.Prelude.{cond, ◌&&◌, ◌||◌, ℕ}
use Rattle.bits.specs.Bits.{image}
use Rattle.rules.specs.declared.Instruction.{Instruction}
use Rattle.rules.specs.Verdicts.{answer_for}
use Rattle.answers.specs.declared.Answer.{Answer}
use Rattle.answers.specs.declared.Answer.TheVariants.{OutOfTurn}
use Rattle.answers.specs.Answers.{nowhere}
use Rattle.plain.specs.declared.Floor.{Floor}
use Rattle.plain.specs.Plain.{plain_bits}
use Rattle.plain.specs.Conditions.{verdict_on}
use Rattle.plain_moves.specs.Moves.{moved_floor, area_parts}

-- what a request of one instruction is told on a floor: 31 where it has the lift in its area under a driver, then the verdict
unfoldable pub floor_answer : Floor → Instruction → Answer
floor_answer f i = cond ((f.coming || f.going) && (area_parts i).lift) OutOfTurn (answer_for (verdict_on i (plain_bits f)) nowhere)

-- the record after it
unfoldable pub floor_next : Floor → Instruction → ℕ
floor_next f i = image (plain_bits (moved_floor i f))
