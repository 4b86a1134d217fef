-- What holds of a station and its journal between two turns. Assumes nothing.
use Rattle.std.specs.Prelude.{◌≡◌, true, false, List, ℕ, ◌≤◌, ◌<◌, length}
use Rattle.station.specs.declared.Station.{Station}
use Rattle.service.specs.Runs.{enough}
use Rattle.std.specs.declared.option.Option.TheVariants.{Some}
use Rattle.std.specs.declared.result.Result.TheVariants.{Ok}
use Rattle.streams.specs.Input.{Fills}
use Rattle.service.specs.Turns.{Turning, turning}
use Rattle.journal_file.specs.Appends.{most_carried}
use Rattle.journal_file.specs.Cards.{no_numbers}
use Rattle.journal_keeper.specs.declared.Journal.{Journal}
use Rattle.journal_keeper.specs.Keeping.{JournalMakes}
use Rattle.station_program.specs.declared.Between.{Between}

-- the journal makes the station, and has no cards: they are a desk's, and would stay where the cars move
abbrev pub StationMakes : Journal → Type 0
StationMakes j = JournalMakes no_numbers j

-- a turn that doesn't stop holds less than a message, and all that was answered is in the journal
abbrev pub Goes : Between → Type 0
Goes t = t.stop ≡ false → (t.have < 45) × StationMakes t.journal

-- and it was a turn: the station, what is held, the buffer and the answers are those that one leaves, and the
-- program goes on only where the turn does, so not after a length that is out of range
abbrev pub AsTurn : Turning → Between → List ℕ → List ℕ → Type 0
AsTurn w t buf out =
    (t.journal.station ≡ w.says.station)
    × (t.have ≡ w.says.have)
    × (t.stop ≡ false → w.says.stop ≡ false)
    × (buf ≡ w.buffer)
    × (out ≡ w.answers)

-- a turn over what was read: some bytes came behind those that were held, and it was a turn over all of them
pub record TurnedOver (s : Station) (have : ℕ) (before room : List ℕ) (t : Between) (buf out : List ℕ) : Type 0 where
  pub end : ℕ
  pub read : List ℕ
  pub fills : Fills before have (Ok (Some end)) read
  pub turned : AsTurn (turning s read end room) t buf out

-- a buffer that is longer than a message, room for all answers to it, and no more in it than an append carries
abbrev pub RoomForAnswers : List ℕ → List ℕ → Type 0
RoomForAnswers buf out = (45 ≤ length buf) × (enough (length buf) ≤ length out) × (length buf ≤ most_carried)
