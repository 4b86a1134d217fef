-- The car events of document 02, which split those of document 01 into a begin and an end: when each comes in turn, when it is possible,
-- whether the garage keeps places open with it, and the record after it. Assumes nothing.
use Rattle.std.specs.Prelude.{Bool, true, false, List, [], ◌∷◌, ℕ, ltb}
use Rattle.bits.specs.Bits.{Bits}
use Rattle.floor.specs.Floor.{raised_car, street, drive_in, drive_out}
use Rattle.floor.specs.Cars.{cars}
use Rattle.floor.specs.Tests.{Test, fact, set, free, no, holds, all_hold, height_is, under_way, Change, ◌≔◌, changed}
use Rattle.rules.specs.declared.Event.{Event}
use Rattle.rules.specs.declared.Event.TheVariants.{BeginIn, BeginOut, EndDone, EndNotDone}

-- a begin comes in turn while no drive is under way, an end while one is
abbrev pub turn : Event → Test
turn BeginIn = no under_way
turn BeginOut = no under_way
turn EndDone = under_way
turn EndNotDone = under_way

-- a drive-in begins with the lift at street and empty, a drive-out at street and occupied; an end has no condition of its own
abbrev pub begin_conditions : Event → List Test
begin_conditions BeginIn = height_is street ∷ free (raised_car ∷ []) ∷ []
begin_conditions BeginOut = height_is street ∷ set (raised_car ∷ []) ∷ []
begin_conditions EndDone = []
begin_conditions EndNotDone = []

-- its turn, and its own conditions
abbrev pub event_conditions : Event → List Test
event_conditions e = turn e ∷ begin_conditions e

-- with a begin the drive is under way, with any end none is; at an end that is done the car that was driven in is there, the one that was
-- driven out isn't
abbrev pub event_changes : Event → List Change
event_changes BeginIn = drive_in ≔ fact true ∷ []
event_changes BeginOut = drive_out ≔ fact true ∷ []
event_changes EndDone = raised_car ≔ set (drive_in ∷ []) ∷ drive_in ≔ fact false ∷ drive_out ≔ fact false ∷ []
event_changes EndNotDone = drive_in ≔ fact false ∷ drive_out ≔ fact false ∷ []

unfoldable pub in_turn : Event → Bits → Bool
in_turn e f = holds (turn e) f

unfoldable pub possible : Event → Bits → Bool
possible e f = all_hold (event_conditions e) f

-- with so many cars the garage is filled as far as it may be: the places that are left are kept open
abbrev pub filled : ℕ
filled = 27

-- a drive-in begins only while the record has fewer; a car that is being driven in is not one of them yet, and no other event is asked
unfoldable pub places_open : Event → Bits → Bool
places_open BeginIn f = ltb (cars f) filled
places_open BeginOut f = true
places_open EndDone f = true
places_open EndNotDone f = true

unfoldable pub after_event : Event → Bits → Bits
after_event e f = changed (event_changes e) f
