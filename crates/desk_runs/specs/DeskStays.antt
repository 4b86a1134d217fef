-- What is promised of a run in lent room, as the desk's program makes it: it leaves a fit desk fit, whatever bytes come and wherever the room
-- ends. So a program that begins with a fit desk has one at every message. Proved in proofs/. Assumes nothing.
use Rattle.std.specs.Prelude.{◌≡◌, true, List, ℕ}
use Rattle.desk.specs.declared.Desk.{Desk}
use Rattle.desk.specs.Desk.{desk_fit}
use Rattle.desk_buffer.specs.DeskServing.{desk_run}

-- a run leaves a fit desk fit
abbrev pub DeskStaysFit : Type 0
DeskStaysFit = (room : ℕ) (d : Desk) (input : List ℕ) → desk_fit d ≡ true → desk_fit (desk_run room d input).desk ≡ true
