-- What is promised of the week of any input. Proved in proofs/Promises.antt. Assumes nothing.
use Rattle.std.specs.Prelude.{◌≡◌, List, [], ℕ, ◌<◌, get_or}
use Rattle.std.specs.declared.option.Option.TheVariants.{None}
use Rattle.bits.specs.Places.{join}
use Rattle.station.specs.declared.Station.{Station}
use Rattle.station.specs.Station.{start_of}
use Rattle.totals.specs.declared.Totals.{Totals}
use Rattle.totals.specs.Totals.{name_at, blank, counted_all}
use Rattle.totals.specs.Promises.{tally, largest, Stops}
use Rattle.week.specs.Weeks.{happenings, week_of}
use Rattle.week.specs.Counts.{uncounted, count_fed}

-- no input: every total is 0
abbrev pub NoInputNoWeek : Type 0
NoInputNoWeek = week_of [] ≡ uncounted blank

-- however the input is cut into pieces, it is counted the same, from the start on as on any station and in any totals
abbrev pub WeekCutAnywhere : Type 0
WeekCutAnywhere =
    (t : Totals) (s : Station) (pieces : List (List ℕ)) → count_fed t s [] pieces ≡ counted_all t (happenings s (join pieces))

-- where no total is full, each but the last is the number of messages that count under its name
abbrev pub WeekTotalsRight : Type 0
WeekTotalsRight = (input : List ℕ) → (week_of input).full ≡ None → (p : ℕ) → p < 51
    → get_or (week_of input).totals.counts p 0 ≡ tally (name_at p) (happenings start_of input)

-- where no total is full, the last is the largest number of cars after any message
abbrev pub WeekMostCars : Type 0
WeekMostCars =
    (input : List ℕ) → (week_of input).full ≡ None → get_or (week_of input).totals.counts 51 0 ≡ largest (happenings start_of input)

-- where a total is full, the week stops at the first message that would make a number pass the most, and the first such name is told
abbrev pub WeekFullStops : Type 0
WeekFullStops = (input : List ℕ) → ((week_of input).full ≡ None → ⊥) → Stops (happenings start_of input) (week_of input)
