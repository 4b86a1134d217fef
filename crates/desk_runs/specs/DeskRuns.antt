-- What is promised of bytes that a desk is sent: every message is a call of the desk, or a question; so what is promised of calls holds of
-- whatever is sent. Proved in proofs/. Assumes nothing.
use Rattle.std.specs.Prelude.{◌≡◌, ◌⊎◌, true, List, ℕ, ◌≤◌, length}
use Rattle.bits.specs.Bits.{bit}
use Rattle.floor.specs.Sound.{Sound}
use Rattle.cards.specs.Cards.{Cards}
use Rattle.cards.specs.Held.{numbers_in}
use Rattle.station.specs.declared.Station.{Station}
use Rattle.station.specs.Station.{present_issue}
use Rattle.station_laws.specs.Jams.{Picks}
use Rattle.station_laws.specs.Orders.{Fate}
use Rattle.station_laws.specs.Runs as station
use Rattle.wire.specs.Reads.{length_at, kind_at}
use Rattle.service.specs.Service.{respond, answers_on}
use Rattle.desk.specs.declared.Desk.{Desk}
use Rattle.desk.specs.Desk.{desk_fit}
use Rattle.desk_laws.specs.Runs.{request, desk_answer_number, desk_after, calls_desk, DeskBegins, below, stuck_at, finished_record, finished_cards}
use Rattle.desk_laws.specs.Orders.{DeskOrder}
use Rattle.desk_service.specs.declared.DeskTold.TheVariants as told
use Rattle.desk_service.specs.DeskService.{DeskSaid, briefly, in_lines, in_set, respond_desk}
use Rattle.desk_runs.specs.Answering.{answers_by, station_answering, desk_answers_on, desk_after_input}
use Rattle.desk_runs.specs.DeskHeard.{desk_heard, desk_reply_to, desk_heard_in, desk_calls_in, desk_replies_in}

-- the station's answers to a whole input are those of this definition
abbrev pub StationAnswering : Type 0
StationAnswering = (s : Station) (input : List ℕ) → answers_on s input ≡ answers_by station_answering (length input) s input

-- on every desk, any bytes are answered as the call or the question that they make, and leave its desk; or the reader refuses and it stays
abbrev pub DeskMessageIsCall : Type 0
DeskMessageIsCall = (d : Desk) (bytes : List ℕ) → respond_desk d bytes ≡ desk_reply_to d (desk_heard bytes)

-- a message that is refused leaves the desk as it was
abbrev pub DeskRefusedKeeps : Type 0
DeskRefusedKeeps =
    (d : Desk) (bytes : List ℕ) (number place issue : ℕ)
    → (respond_desk d bytes).told ≡ briefly (told.Answer number place issue) → (number ≡ 0 → ⊥) → (respond_desk d bytes).desk ≡ d

-- an input is a list of calls and questions: its answers are theirs, with the reader's refusals between them, and the desk is the one that
-- the calls leave
abbrev pub DeskRunsAreCalls : Type 0
DeskRunsAreCalls =
    (d : Desk) (input : List ℕ)
    → (desk_answers_on d input ≡ desk_replies_in d (desk_heard_in input)) × (desk_after_input d input ≡ calls_desk d (desk_calls_in (desk_heard_in input)))

-- whatever bytes a desk is sent: for every choice of which stuck instructions did in fact finish, the record is sound, and the numbers are
-- exactly those of its cars, each once
abbrev pub DeskAlwaysSent : Type 0
DeskAlwaysSent =
    (d : Desk) → DeskBegins d → (input : List ℕ)
    → let l = desk_calls_in (desk_heard_in input) in
    (desk_after_input d input ≡ calls_desk d l)
    × ((p : List ℕ) → Picks (length (stuck_at d l)) p → Sound (bit (finished_record d l p)) × Cards (bit (finished_record d l p)) (numbers_in (finished_cards d l p)))

-- after any bytes a desk's station is the one that the calls below make: those that the desk did not refuse by itself
abbrev pub StationSent : Type 0
StationSent =
    (d : Desk) → DeskBegins d → (input : List ℕ)
    → (desk_after_input d input).station ≡ station.calls d.station (below d (desk_calls_in (desk_heard_in input)))

-- of an accepted set, after any bytes: whichever instructions fail, succeed or stick, two inputs that bring their results in any two orders,
-- with the same car events and numbers, leave the same desk
abbrev pub DeskAnyOrderSent : Type 0
DeskAnyOrderSent =
    (d : Desk) → DeskBegins d → (before : List ℕ) (n : ℕ) (set : List ℕ) → desk_answer_number (desk_after_input d before) (request n set) ≡ 0
    → (fate : ℕ → Fate) (drives : List (ℕ × ℕ)) (one other : List ℕ)
    → let s = desk_after (desk_after_input d before) (request n set) in
    DeskOrder (present_issue s.station) n fate drives (desk_calls_in (desk_heard_in one))
    → DeskOrder (present_issue s.station) n fate drives (desk_calls_in (desk_heard_in other))
    → desk_after_input s one ≡ desk_after_input s other

-- the desk's own numbers: 37, 38 and 39
abbrev pub ToldItself : DeskSaid → Type 0
ToldItself (briefly (told.Answer number place issue)) = (37 ≤ number) × (number ≤ 39)
ToldItself (briefly (told.Held bits apart)) = ⊥
ToldItself (briefly (told.Place place flag next)) = ⊥
ToldItself (briefly (told.Card card)) = ⊥
ToldItself (in_lines kind xs) = ⊥
ToldItself (in_set o) = ⊥

-- the station's messages mean the same to a fit desk: they leave the station that they leave of a station; or the desk refuses by itself,
-- with 37 to 39, and is as it was
abbrev pub StationMeansSame : Type 0
StationMeansSame =
    (d : Desk) (bytes : List ℕ) → desk_fit d ≡ true → length_at bytes ≤ 43 → kind_at bytes ≤ 5
    → ((respond_desk d bytes).desk.station ≡ (respond d.station bytes).station) ⊎ (ToldItself (respond_desk d bytes).told × ((respond_desk d bytes).desk ≡ d))
