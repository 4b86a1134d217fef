-- What the contracts of private functions cite; no public one rests on it. Assumes nothing.
use Rattle.std.specs.Prelude.{Bool, false, cond, ◌&&◌, List, ℕ, eqb, ltb, leb, get_or, length}
use Rattle.station.specs.declared.Station.{Station}
use Rattle.station.specs.Held.{code_at}
use Rattle.wire.specs.Reads.{length_at, kind_at}
use Rattle.service.specs.Service.{respond}
use Rattle.week.specs.declared.Tells.{Tells}
use Rattle.week.specs.declared.Step.{Step}
use Rattle.week.specs.Weeks.{drive_on, happened}

-- what a message that is taken tells, by its kind and its bytes
unfoldable pub told_by : Station → ℕ → List ℕ → Tells
told_by s kind m =
    cond (eqb kind 2) (record { op = 0; done = false; drive = cond (eqb (get_or m 4 0) 3) (drive_on s.bits) 0 })
    (cond (eqb kind 3) (record { op = (code_at s.set (get_or m 6 0)).op; done = eqb (get_or m 7 0) 1; drive = 0 })
    (record { op = 0; done = false; drive = 0 }))

-- the first message of some bytes is a result, whole and with an ending that is known
unfoldable pub brings_result : List ℕ → Bool
brings_result m = cond (ltb (length m) 8) false (eqb (length_at m) 6 && eqb (kind_at m) 3 && leb (get_or m 7 0) 2)

-- what happens, and the next station
abbrev pub message_step : Station → List ℕ → Step
message_step s m = record { happened = happened s m; station = (respond s m).station }
