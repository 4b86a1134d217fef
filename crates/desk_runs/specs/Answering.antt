-- A whole input, answered message after message: by anything that tells how far a message goes, and what the first message of some bytes
-- leaves and is told. The station is one, a desk another. Assumes nothing.
use Rattle.std.specs.Prelude.{cond, List, [], ◌++◌, ℕ, zero, suc, length, drop}
use Rattle.station.specs.declared.Station.{Station}
use Rattle.wire.specs.declared.Frame.{Frame}
use Rattle.wire.specs.declared.Frame.TheVariants.{Cut, Wrong, Whole}
use Rattle.wire.specs.Reads.{frame_of}
use Rattle.service.specs.Service.{respond, answer_bytes, no_bytes, go_on}
use Rattle.desk.specs.declared.Desk.{Desk}
use Rattle.desk_wire.specs.DeskReads.{frame_up_to, most_length}
use Rattle.desk_service.specs.DeskService.{respond_desk, told_bytes}

-- what answers, with its state
pub record Answering (S : Type 0) : Type 0 where
  pub frame : List ℕ → Frame
  pub after : S → List ℕ → S
  pub tells : S → List ℕ → List ℕ

-- all answers; where the input ends between messages there is none. Each message takes a byte at least
unfoldable pub answers_by : {S : Type 0} → Answering S → ℕ → S → List ℕ → List ℕ
answers_by p zero s input = []
answers_by p (suc k) s input =
    cond (no_bytes input) [] (p.tells s input ++ go_on (p.frame input) (λ n. answers_by p k (p.after s input) (drop n input)))

-- the state goes on with the rest, but not after 1, nor after a length out of range
abbrev pub state_on : {S : Type 0} → Frame → S → (ℕ → S) → S
state_on Cut s rest = s
state_on Wrong s rest = s
state_on (Whole n) s rest = rest n

-- the state after all messages
unfoldable pub state_by : {S : Type 0} → Answering S → ℕ → S → List ℕ → S
state_by p zero s input = s
state_by p (suc k) s input =
    cond (no_bytes input) s (state_on (p.frame input) (p.after s input) (λ n. state_by p k (p.after s input) (drop n input)))

-- the station
abbrev pub station_answering : Answering Station
station_answering = record { frame = frame_of; after = λ s bytes. (respond s bytes).station; tells = λ s bytes. answer_bytes (respond s bytes).answer }

-- a desk
abbrev pub desk_answering : Answering Desk
desk_answering = record { frame = frame_up_to most_length; after = λ d bytes. (respond_desk d bytes).desk; tells = λ d bytes. told_bytes (respond_desk d bytes).told }

-- all that a desk answers to a whole input, and the desk after it
abbrev pub desk_answers_on : Desk → List ℕ → List ℕ
desk_answers_on d input = answers_by desk_answering (length input) d input

abbrev pub desk_after_input : Desk → List ℕ → Desk
desk_after_input d input = state_by desk_answering (length input) d input
