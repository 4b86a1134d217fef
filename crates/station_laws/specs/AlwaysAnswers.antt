-- Demand 1, it always answers: statements about the calls that the code's contracts cite. Proved in proofs/Demands.antt.
-- Assumes nothing.
use Rattle.std.specs.Prelude.{◌≡◌}
use Rattle.answers.specs.Answers.{OfTable}
use Rattle.station.specs.declared.Station.{Station}
use Rattle.station_laws.specs.Runs.{Call, answer_number, station_after}

-- a call that is rejected leaves the station as it was, whatever station and call
abbrev pub RefusedUntouched : Type 0
RefusedUntouched = (s : Station) (c : Call) → (answer_number s c ≡ 0 → ⊥) → station_after s c ≡ s

-- every call, on any station, is answered with a number of the table
abbrev pub CallsInTable : Type 0
CallsInTable = (s : Station) (c : Call) → OfTable (answer_number s c)
