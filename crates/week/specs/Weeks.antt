-- What the report counts of each message that a station answers, and the week of a whole input. Assumes nothing.
use Rattle.std.specs.Prelude.{Bool, false, cond, ◌&&◌, List, [], ◌∷◌, ℕ, zero, suc, eqb, ltb, length, drop}
use Rattle.bits.specs.Bits.{bit}
use Rattle.floor.specs.Floor.{drive_in, drive_out}
use Rattle.floor.specs.Sound.{total, cars_in}
use Rattle.station.specs.declared.Station.{Station}
use Rattle.station.specs.Station.{start_of}
use Rattle.station.specs.Held.{code_at}
use Rattle.wire.specs.declared.What.{What}
use Rattle.wire.specs.declared.What.TheVariants.{Request, Event, Result, Image, Ask, Answer, Held}
use Rattle.wire.specs.Reads.{length_at, kind_at, frame_of, read_asked}
use Rattle.service.specs.Service.{respond, no_bytes, go_on}
use Rattle.totals.specs.declared.Happened.{Happened}
use Rattle.totals.specs.declared.Tally.{Tally}
use Rattle.totals.specs.Totals.{blank, counted_all}

-- the kind of the first message of some bytes, once its two bytes are there and whatever follows them; 0 where the length before it is
-- wrong, or where it is none of 1 to 5
unfoldable pub kind_read : List ℕ → ℕ
kind_read s =
    cond (ltb (length s) 4) 0
    (cond (ltb (length_at s) 2) 0
    (cond (ltb 43 (length_at s)) 0
    (cond (ltb 5 (kind_at s)) 0 (kind_at s))))

-- the number of an answer of kind 128; 255 where the image is the answer
abbrev pub number_answered : What → ℕ
number_answered (Answer number place issue) = number
number_answered (Held bits apart) = 255
number_answered Request = 255
number_answered (Event way) = 255
number_answered (Result issue number ending) = 255
number_answered (Image bits apart) = 255
number_answered Ask = 255

-- the op of the instruction whose result a message brings, by the set that the station holds; 0 where it brings none
abbrev pub op_in : Station → What → ℕ
op_in s (Result issue number ending) = (code_at s.set number).op
op_in s Request = 0
op_in s (Event way) = 0
op_in s (Image bits apart) = 0
op_in s Ask = 0
op_in s (Answer number place issue) = 0
op_in s (Held bits apart) = 0

-- whether it brings the result 1, done: what is stuck counts as failed
abbrev pub is_done : What → Bool
is_done (Result issue number ending) = eqb ending 1
is_done Request = false
is_done (Event way) = false
is_done (Image bits apart) = false
is_done Ask = false
is_done (Answer number place issue) = false
is_done (Held bits apart) = false

-- the drive under way on the record with this image: 1 in, 2 out, 0 none
abbrev pub drive_on : ℕ → ℕ
drive_on r = cond (bit r drive_in) 1 (cond (bit r drive_out) 2 0)

-- the drive that event 3 ends as done; 0 where a message is no such event
abbrev pub drive_done : ℕ → What → ℕ
drive_done r (Event way) = cond (eqb way 3) (drive_on r) 0
drive_done r Request = 0
drive_done r (Result issue number ending) = 0
drive_done r (Image bits apart) = 0
drive_done r Ask = 0
drive_done r (Answer number place issue) = 0
drive_done r (Held bits apart) = 0

-- what the first message of some bytes does on a station: results and drives count if it is taken, by the station before it, and the cars
-- are those after it
unfoldable pub happened : Station → List ℕ → Happened
happened s bytes =
    let w = (read_asked bytes).message.what in
    let r = respond s bytes in
    let taken = eqb (number_answered r.answer) 0 in
    record {
      kind = kind_read bytes;
      answer = number_answered r.answer;
      op = cond taken (op_in s w) 0;
      done = taken && is_done w;
      drive = cond taken (drive_done s.bits w) 0;
      cars = cars_in (total r.station.bits);
    }

-- what happens on a station, message after message as it answers them: one for each answer, a message that is cut short and one of a wrong
-- length too, and nothing after these. Each message takes a byte at least
unfoldable pub happenings_for : ℕ → Station → List ℕ → List Happened
happenings_for zero s input = []
happenings_for (suc k) s input =
    cond (no_bytes input) []
    (happened s input ∷ go_on (frame_of input) (λ n. happenings_for k (respond s input).station (drop n input)))

abbrev pub happenings : Station → List ℕ → List Happened
happenings s input = happenings_for (length input) s input

-- the week of a whole input: all of it counted from the start on
abbrev pub week_of : List ℕ → Tally
week_of input = counted_all blank (happenings start_of input)
