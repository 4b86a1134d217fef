-- What the questions for building sets answer: an instruction's area, and whether two instructions may stand in one set. They ask for no
-- record: areas are the same on each. Assumes nothing.
use Rattle.std.specs.Prelude.{cond, ◌||◌, List, ℕ, ltb, length}
use Rattle.codec.specs.Bytes.{little_endian}
use Rattle.std.specs.declared.option.Option.{Option}
use Rattle.std.specs.declared.option.Option.TheVariants.{Some}
use Rattle.rules.specs.declared.Sharing.{Sharing}
use Rattle.rules.specs.declared.Sharing.TheVariants.{Apart}
use Rattle.rules.specs.Codes.{read_bytes}
use Rattle.rules.specs.Verdicts.{on_code, mask_of, sharing_of}
use Rattle.answers.specs.declared.Answer.{Answer}
use Rattle.answers.specs.declared.Answer.TheVariants.{Taken, TooFewBytes, BadField, Overlap}
use Rattle.answers.specs.Answers.{nowhere}
use Rattle.rooms.specs.Rooms.{Entry, no_room, writes}

-- ---- an instruction's area

-- the area of the instruction that five bytes say, in the record's own bits
unfoldable pub area_in : List ℕ → Option ℕ
area_in five = on_code mask_of Option.None (read_bytes five)

-- what is answered with it: 4 where the bytes say no instruction
abbrev pub area_said : (Option ℕ) → Answer
area_said (Some x) = Taken
area_said Option.None = BadField nowhere

-- its bits as a number
abbrev pub area_bits : (Option ℕ) → ℕ
area_bits (Some x) = x
area_bits Option.None = 0

-- what is answered of five bytes: 1 where they are fewer, else as above
unfoldable pub area_answer : List ℕ → Answer
area_answer five = cond (ltb (length five) 5) TooFewBytes (area_said (area_in five))

-- the area is asked for: 17, then as above
unfoldable pub area_into : List ℕ → List ℕ → Entry
area_into five room = cond (ltb (length room) 8) (no_room room) (writes (area_answer five) (little_endian 8 (area_bits (area_in five))) room)

-- ---- whether two may stand in one set

-- of two instructions that are read: 8 with the second's place where they overlap
abbrev pub sharing_said : Sharing → Answer
sharing_said Sharing.Overlap = Overlap 1
sharing_said Apart = Taken
sharing_said Sharing.IllFormed = BadField 0

-- what a request of these two, in this order, is told so far as they alone decide: 1 where either has too few bytes, 4 with the place of
-- the first that says no instruction, 8 where they overlap
unfoldable pub pair_answer : List ℕ → List ℕ → Answer
pair_answer one other =
    cond (ltb (length one) 5 || ltb (length other) 5) TooFewBytes
    (on_code (λ i. on_code (λ j. sharing_said (sharing_of i j)) (BadField 1) (read_bytes other)) (BadField 0) (read_bytes one))
