-- What is promised of a garage that keeps places open. Proved in proofs/Filling.antt. Assumes nothing.
use Rattle.std.specs.Prelude.{◌≡◌, ◌↔◌, true, false, List, [], ◌∷◌, ◌++◌, ℕ, ◌+◌, ◌≤◌, ◌<◌, length}
use Rattle.bits.specs.Bits.{bit, digit}
use Rattle.floor.specs.Floor.{drive_in}
use Rattle.floor.specs.Cars.{Car, Layout}
use Rattle.rules.specs.declared.Event.TheVariants.{BeginIn}
use Rattle.rules.specs.Events.{possible}
use Rattle.rules.specs.Codes.{event_code}
use Rattle.answers.specs.declared.Answer.TheVariants.{KeptOpen}
use Rattle.answers.specs.Answers.{number_of}
use Rattle.station.specs.declared.Station.{Station}
use Rattle.station.specs.Held.{lift_in, lift_apart}
use Rattle.station.specs.Station.{fit}
use Rattle.station_laws.specs.Runs as run
use Rattle.station_laws.specs.Runs.{Call, answer_number, calls, NoImages, drove}
use Rattle.station_laws.specs.Jams.{finished, Chosen}

-- a drive-in whose begin is taken found fewer than 27 cars
abbrev pub RoomLeft : Type 0
RoomLeft = (s : Station) → answer_number s (run.event (event_code BeginIn)) ≡ 0 → (found : List Car) → Layout (bit s.bits) found → length found < 27

-- the begin of a drive-in is answered 33 exactly if it could be taken but for that, and there are 27 cars or more
abbrev pub KeptExactly : Type 0
KeptExactly =
    (s : Station) (found : List Car) → Layout (bit s.bits) found
    → (answer_number s (run.event (event_code BeginIn)) ≡ number_of KeptOpen)
    ↔ ((fit s ≡ true) × (lift_in s.set s.count ≡ false) × (lift_apart s.apart ≡ false) × (possible BeginIn (bit s.bits) ≡ true)
    × (27 ≤ length found))

-- no event but the begin of a drive-in is answered 33: an end is never asked how many cars there are
abbrev pub EndsUntested : Type 0
EndsUntested = (s : Station) (e : ℕ) → answer_number s (run.event e) ≡ number_of KeptOpen → e ≡ event_code BeginIn

-- whatever calls came before, images too, and whichever stuck instructions did in fact finish: after a drive-in that ends and is done there
-- are at most 29 cars, so none ever makes a thirtieth
abbrev pub NeverThirty : Type 0
NeverThirty =
    (s : Station) (l : List Call) (c : Call) → drove 1 (calls s l) c ≡ 1
    → (p : List ℕ) → Chosen s (l ++ (c ∷ [])) p
    → (end : List Car) → Layout (bit (finished s (l ++ (c ∷ [])) p)) end → length end ≤ 29

-- where at most 27 cars are in or on their way in, so it stays over any calls but an image, whichever stuck instructions did in fact finish
abbrev pub StaysOpen : Type 0
StaysOpen =
    (s : Station) (l : List Call) → NoImages l → (p : List ℕ) → Chosen s l p
    → (start end : List Car) → Layout (bit s.bits) start → Layout (bit (finished s l p)) end
    → length start + digit (bit s.bits drive_in) ≤ 27 → length end + digit (bit (calls s l).bits drive_in) ≤ 27
