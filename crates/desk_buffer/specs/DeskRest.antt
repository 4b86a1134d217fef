-- What is promised of the rest of a run on a desk. Proved in proofs/. Assumes nothing.
use Rattle.std.specs.Prelude.{◌≡◌, false, List, ℕ, ◌<◌, length, drop}
use Rattle.desk.specs.declared.Desk.{Desk}
use Rattle.desk_buffer.specs.DeskServing.{desk_run}

-- a run that neither stops nor ends for want of room leaves less than a message of the greatest length
abbrev pub DeskRestIsShort : Type 0
DeskRestIsShort =
    (room : ℕ) (d : Desk) (input : List ℕ)
    → let r = desk_run room d input in
    r.stop ≡ false → r.full ≡ false → length (drop r.used input) < 145
