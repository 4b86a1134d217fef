-- What the station inside a desk is sent makes it: of a run in lent room, the messages that it writes for the station take the desk's station
-- to that of the next desk. So they are a journal of the station. Proved in proofs/. Assumes nothing.
use Rattle.std.specs.Prelude.{◌≡◌, true, List, ℕ}
use Rattle.codec.specs.Bytes.{Bytes}
use Rattle.journal.specs.Journal.{Follows}
use Rattle.desk.specs.declared.Desk.{Desk}
use Rattle.desk.specs.Desk.{desk_fit}
use Rattle.desk_buffer.specs.DeskServing.{desk_run}

-- what is written for the station makes it
abbrev pub DeskSends : Type 0
DeskSends =
    (room : ℕ) (d : Desk) (input : List ℕ) → desk_fit d ≡ true → Bytes input
    → let r = desk_run room d input in
    Follows d.station r.sent r.desk.station
