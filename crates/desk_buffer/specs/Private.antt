-- What the contracts of private functions cite; no public one rests on it. Assumes nothing.
use Rattle.std.specs.Prelude.{◌≡◌, List, ◌++◌, ℕ, length, drop}
use Rattle.desk_buffer.specs.declared.Step.{Step}
use Rattle.desk_buffer.specs.DeskServing.{DeskRan}

-- these bytes at the start of a room, and how many they are
abbrev pub LeavesBytes : List ℕ → ℕ → List ℕ → List ℕ → Type 0
LeavesBytes bytes n room last = (n ≡ length bytes) × (last ≡ bytes ++ drop (length bytes) room)

-- what one message leaves, as said
abbrev pub step_said : DeskRan → Step
step_said r =
    record {
      desk = r.desk;
      used = r.used;
      made = length r.bytes;
      passed = length r.sent;
      on = r.on;
      stop = r.stop;
      full = r.full;
    }

-- it is said, and its answer is left in the room
abbrev pub DeskSteps : DeskRan → Step → List ℕ → List ℕ → Type 0
DeskSteps w r out last = (r ≡ step_said w) × (last ≡ w.bytes ++ drop (length w.bytes) out)

-- and so is what the station is sent, in a room of its own
abbrev pub DeskPasses : DeskRan → Step → List ℕ → List ℕ → List ℕ → List ℕ → Type 0
DeskPasses w r out last sent gone = DeskSteps w r out last × (gone ≡ w.sent ++ drop (length w.sent) sent)
