-- What five bytes come to on a record: area, and whether they say an instruction that is allowed, at once; and the next record where it is known that the instruction is allowed.
-- Assumes nothing.
use Rattle.std.specs.Prelude.{Bool, true, false, cond, ℕ}
use Rattle.bits.specs.Bits.{bit, image}
use Rattle.bits.specs.Places.{adjacent}
use Rattle.rules.specs.declared.Instruction.{Instruction}
use Rattle.rules.specs.declared.Instruction.TheVariants.{Belts, Shuttles, Tilt, Lift, Rotate}
use Rattle.rules.specs.declared.Code.{Code}
use Rattle.rules.specs.Named.{cells, rows_of}
use Rattle.rules.specs.Rules.{area, next_record}
use Rattle.rules.specs.Codes.{read_code}
use Rattle.rules.specs.declared.Refusal.{Refusal}
use Rattle.std.specs.declared.result.Result.TheVariants.{Ok, Err}
use Rattle.rules.specs.Verdicts.{Verdict, on_code, code_verdict, is_allowed}
use Rattle.engine.specs.declared.Judged.{Judged}

-- what an area and a verdict tell: ill-formed bytes say no instruction
abbrev pub is_read : Verdict → Bool
is_read (Ok done) = true
is_read (Err (Refusal.NotAllowed why)) = true
is_read (Err Refusal.IllFormed) = false

abbrev pub judged_as : ℕ → Verdict → Judged
judged_as a v = record { area = a; good = is_read v; allowed = is_allowed v }

-- the area as a mask, none for bytes that say no instruction, and the verdict on the record with this image
unfoldable pub judge : Code → ℕ → Judged
judge x r = judged_as (on_code (λ i. image (area i)) 0 (read_code x)) (code_verdict x r)

-- the belts or rows that an instruction names leave no gap
abbrev pub unbroken : Instruction → Bool
unbroken (Belts row mask toward size) = adjacent (cells row mask)
unbroken (Shuttles side mask orientation toward) = adjacent (rows_of mask)
unbroken (Tilt side row orientation) = true
unbroken (Lift height) = true
unbroken Rotate = true

-- the image after an instruction without a gap, whether the record allows it or not; with a gap, and of bad bytes, the image as it was
unfoldable pub code_next : Code → ℕ → ℕ
code_next x r = on_code (λ i. cond (unbroken i) (image (next_record i (bit r))) r) r (read_code x)
