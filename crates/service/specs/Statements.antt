-- What is promised of every message, and of a whole input. Proved in proofs/. Assumes nothing.
use Rattle.std.specs.Prelude.{◌≡◌, ◌⊎◌, true, List, [], ℕ, ◌≤◌}
use Rattle.bits.specs.Places.{join}
use Rattle.answers.specs.Answers.{OfTable, nowhere}
use Rattle.station.specs.declared.Station.{Station}
use Rattle.station.specs.Station.{fit}
use Rattle.wire.specs.declared.What.{What}
use Rattle.wire.specs.declared.What.TheVariants.{Request, Event, Result, Image, Ask, Held}
use Rattle.wire.specs.Kinds.{in_range}
use Rattle.service.specs.Service.{respond, respond_known, answers_on}
use Rattle.service.specs.Runs.{fed}

-- no input gives no output
abbrev pub NoInput : Type 0
NoInput = (s : Station) → answers_on s [] ≡ []

-- however the input is cut into pieces, it is answered with the same bytes. One piece: a run and the end of the input are the definition
abbrev pub CutAnywhere : Type 0
CutAnywhere = (s : Station) (pieces : List (List ℕ)) → fed s pieces ≡ answers_on s (join pieces)

-- the fields of every reply are in their ranges, so that each can be written and reads back
abbrev pub RepliesInRange : Type 0
RepliesInRange = (s : Station) (bytes : List ℕ) → in_range (respond s bytes).answer ≡ true

-- an image, or an answer: its number one of the table's, its place 0 to 7 or none
abbrev pub Answers : What → Type 0
Answers (What.Answer number place issue) = OfTable number × ((place ≤ 7) ⊎ (place ≡ nowhere))
Answers (Held bits apart) = Unit {0}
Answers Request = ⊥
Answers (Event way) = ⊥
Answers (Result issue number ending) = ⊥
Answers (Image bits apart) = ⊥
Answers Ask = ⊥

-- every message is answered with an image, or with a number of the table and a place 0 to 7 or 255
abbrev pub AlwaysAnswered : Type 0
AlwaysAnswered = (s : Station) (bytes : List ℕ) → Answers (respond s bytes).answer

-- where what is known of fitness is so, a message is answered as if it were tested
abbrev pub KnownSame : Type 0
KnownSame = (s : Station) (bytes : List ℕ) → respond_known (fit s) s bytes ≡ respond s bytes

-- a message that is refused leaves the station as it was
abbrev pub RefusedKeeps : Type 0
RefusedKeeps = (s : Station) (bytes : List ℕ) (number place issue : ℕ)
    → (respond s bytes).answer ≡ What.Answer number place issue → (number ≡ 0 → ⊥) → (respond s bytes).station ≡ s

-- no message is answered with 17, which is for lent room
abbrev pub NeverSeventeen : Type 0
NeverSeventeen = (s : Station) (bytes : List ℕ) (place issue : ℕ) → (respond s bytes).answer ≡ What.Answer 17 place issue → ⊥
