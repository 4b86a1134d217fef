-- What the entries of the service panel answer, and what they leave in the room that is lent to them. The plain station's entries have no
-- definitions of their own: they answer what station_c's answer, in the words of rooms' specs/Rooms.antt. Assumes nothing.
use Rattle.std.specs.Prelude.{cond, List, ◌∷◌, ◌++◌, ℕ, ◌+◌, ◌*◌, ltb, length, drop, replicate}
use Rattle.std.specs.declared.option.Option.{Option}
use Rattle.std.specs.declared.option.Option.TheVariants.{Some, None}
use Rattle.bits.specs.Bits.{bit, digit, image}
use Rattle.floor.specs.Sound.{sound}
use Rattle.codec.specs.Bytes.{little_endian}
use Rattle.rules.specs.Codes.{read_bytes}
use Rattle.rules.specs.Verdicts.{on_code}
use Rattle.answers.specs.declared.Reason.TheVariants.{NothingNamed}
use Rattle.answers.specs.declared.Answer.{Answer}
use Rattle.answers.specs.declared.Answer.TheVariants.{Taken, TooFewBytes, BadField, Unsound}
use Rattle.answers.specs.Answers.{reason_number, nowhere}
use Rattle.rooms.specs.Rooms.{returned, Entry, writes, no_room}
use Rattle.rooms.specs.Questions.{nexting}
use Rattle.plain.specs.Walks.{walked, walk_of}
use Rattle.plain_moves.specs.Moves.{parts_bits}
use Rattle.panel.specs.declared.Explanation.{Explanation}
use Rattle.panel.specs.Panel.{explained}

-- an answer, and nothing is written
abbrev pub refuses : Answer → List ℕ → Entry
refuses a room = record { says = returned a; leaves = room }

-- a condition explained, in eleven bytes: whether there is one of this number, whether it holds, the number that is told where it is the
-- first to fail, and the parts that decide it, as the number that shows what is set apart has them. Where there is none nothing fails
unfoldable pub condition_bytes : Option Explanation → List ℕ
condition_bytes None = 0 ∷ 1 ∷ reason_number NothingNamed ∷ replicate 8 0
condition_bytes (Some x) = 1 ∷ digit x.condition.holds ∷ reason_number x.condition.why ∷ little_endian 8 (image (parts_bits x.parts))

-- condition c of the instruction that five bytes say, on the record r: 17, 1, 4, 15, or its eleven bytes
unfoldable pub explaining : ℕ → List ℕ → ℕ → List ℕ → Entry
explaining r five c room =
    cond (ltb (length room) 11) (no_room room)
    (cond (ltb (length five) 5) (refuses TooFewBytes room)
    (on_code (λ i. cond (sound r) (writes Taken (condition_bytes (explained i c (bit r))) room) (refuses Unsound room))
    (refuses (BadField nowhere) room)
    (read_bytes five)))

-- the record after it: 17, 1, 15, then what the packed engine's entry answers, 31, 4, 20 to 28, or the record's eight bytes
unfoldable pub next_into : ℕ → List ℕ → List ℕ → Entry
next_into r five room =
    cond (ltb (length room) 8) (no_room room)
    (cond (ltb (length five) 5) (refuses TooFewBytes room)
    (cond (sound r) (nexting r five room) (refuses Unsound room)))

-- the cars of the record r in the order of a walk, each by the place where it begins, zeros past them: 17, 15, or these 31 bytes; how many
-- cars there are stands in the answer where a request has its issue
unfoldable pub walking : ℕ → List ℕ → Entry
walking r room =
    let cars = walked (bit r) in
    cond (ltb (length room) 31) (no_room room)
    (cond (sound r) (record { says = returned Taken + 65536 * length cars; leaves = (walk_of cars).starts ++ drop 31 room }) (refuses Unsound room))
