-- What the contracts of private functions cite; no public one rests on it. Assumes nothing.
use Rattle.std.specs.Prelude.{List, ◌++◌, ℕ, ◌*◌, ◌-◌, length, take, replicate}
use Rattle.codec.specs.Fours.{fours_in}
use Rattle.desk_wire.specs.DeskKinds.{most_cards}

-- the 31 numbers that a run of bytes begins with, zeros where it ends before
unfoldable pub cards_read : List ℕ → List ℕ
cards_read run = fours_in most_cards (run ++ replicate (4 * most_cards - length run) 0)
