-- What a turn of the report's program leaves: its totals, its station and its buffer, by what a read brought. And when totals are a week, so
-- that they may be printed. Assumes nothing.
use Rattle.std.specs.Prelude.{◌≡◌, true, false, List, ℕ, ◌<◌, take}
use Rattle.std.specs.declared.option.Option.{Option}
use Rattle.bits.specs.Places.{join}
use Rattle.station.specs.declared.Station.{Station}
use Rattle.std.specs.declared.option.Option.TheVariants.{Some, None}
use Rattle.std.specs.declared.result.Result.TheVariants.{Ok, Err}
use Rattle.streams.specs.Input.{Input, Fills}
use Rattle.service.specs.Turns.{holding_front}
use Rattle.totals.specs.declared.Totals.{Totals}
use Rattle.totals.specs.Totals.{totals_of}
use Rattle.week.specs.Weeks.{week_of}
use Rattle.week.specs.Counts.{count_on, count_end}
use Rattle.report_program.specs.declared.Between.{Between}

-- ---- a turn

-- what a turn says, and what it leaves of the totals and in the buffer
pub record ReportTurn : Type 0 where
  pub says : Between
  pub totals : Totals
  pub buffer : List ℕ

-- all whole messages among the first `end` bytes are counted, and what they don't take is held at the buffer's front
unfoldable pub count_turn : Totals → Station → List ℕ → ℕ → ReportTurn
count_turn t s buf end =
    let w = count_on t s (take end buf) in
    let h = holding_front w.says.used end buf in
    record {
      says = record { station = w.says.station; have = h.says; full = w.says.full; stop = w.says.stop; failed = false };
      totals = w.leaves;
      buffer = h.leaves;
    }

-- at the input's end, bytes that are held count as a message that was cut short
unfoldable pub close_turn : Totals → Station → List ℕ → ℕ → ReportTurn
close_turn t s buf have =
    let c = count_end t s (take have buf) in
    record { says = record { station = s; have = 0; full = c.full; stop = true; failed = false }; totals = c.totals; buffer = buf }

-- where the read failed, nothing is counted, and nothing is to be printed
abbrev pub failed_turn : Station → Between
failed_turn s = record { station = s; have = 0; full = None; stop = true; failed = true }

-- a turn by what the read brought
abbrev pub turn_by : Totals → Station → ℕ → Input → List ℕ → ReportTurn
turn_by t s have (Ok (Some end)) buf = count_turn t s buf end
turn_by t s have (Ok None) buf = close_turn t s buf have
turn_by t s have (Err e) buf = record { says = failed_turn s; totals = t; buffer = buf }

-- what a turn says is said, and what it leaves is left
abbrev pub TurnIs : ReportTurn → Between → List ℕ → List ℕ → Type 0
TurnIs w r counts buf = (r ≡ w.says) × (counts ≡ w.totals.counts) × (buf ≡ w.buffer)

-- a turn over what was read: something came behind the bytes that were held, or nothing, and it was a turn by that
pub record TurnByRead (t : Totals) (b : Between) (before : List ℕ) (r : Between) (counts buf : List ℕ) : Type 0 where
  pub input : Input
  pub read : List ℕ
  pub fills : Fills before b.have input read
  pub turns : TurnIs (turn_by t b.station b.have input read) r counts buf

-- a turn that doesn't stop holds less than a message
abbrev pub Short : Between → Type 0
Short r = r.stop ≡ false → r.have < 45

-- ---- a session

-- the totals are the week of some bytes, which came in these pieces
pub record Week (counts : List ℕ) (full : Option ℕ) : Type 0 where
  pub pieces : List (List ℕ)
  pub counted : record { totals = totals_of counts; full = full } ≡ week_of (join pieces)

-- a session that has read to the end has the week of what it read
abbrev pub HasWeek : Between → List ℕ → Type 0
HasWeek r counts = r.stop ≡ true → r.failed ≡ false → Week counts r.full
