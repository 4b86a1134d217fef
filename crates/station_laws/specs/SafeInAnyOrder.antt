-- Demand 3, sets are safe in any order, whatever got stuck. Proved in proofs/Demands.antt. Assumes nothing.
use Rattle.std.specs.Prelude.{◌≡◌, true, false, List, [], ◌∷◌, ◌++◌, ℕ, ◌+◌, ◌<◌, length}
use Rattle.bits.specs.Bits.{bit}
use Rattle.bits.specs.Places.{share}
use Rattle.floor.specs.Floor.{lift}
use Rattle.floor.specs.Cars.{Car, Layout}
use Rattle.floor.specs.Sound.{Sound}
use Rattle.answers.specs.declared.Answer.TheVariants.{Unfit}
use Rattle.answers.specs.Answers.{number_of}
use Rattle.station.specs.declared.Station.{Station}
use Rattle.station.specs.Held.{code_at, held_area, held_allowed}
use Rattle.station.specs.Station.{present_issue, fit, marked}
use Rattle.station_laws.specs.Runs as run
use Rattle.station_laws.specs.Runs.{Call, answer_number, station_after, calls, Begins, NoImages, Reached, cars_driven}
use Rattle.station_laws.specs.Orders.{Fate, fate_number, Order, Alike, Amid, AlikeAmid, interrupted, taken_of, turns, turns_amid}
use Rattle.station_laws.specs.Jams.{stuck, jam_at, has, finished, Chosen}

-- whatever calls follow, images too, for every choice of which stuck instructions did in fact finish, the record with those applied is
-- sound: its occupied places can be laid out as whole cars, none on another, each on belts that are there
abbrev pub AlwaysLaidOut : Type 0
AlwaysLaidOut = (s : Station) → Begins s → (l : List Call) (p : List ℕ) → Chosen s l p → Sound (bit (finished s l p))

-- over any calls but an image, for every choice of which stuck instructions did in fact finish, there are as many cars as at the start,
-- plus those driven in, less those driven out; an image that is taken is a new start
abbrev pub CarsCounted : Type 0
CarsCounted =
    (s : Station) (l : List Call) → NoImages l → (p : List ℕ) → Chosen s l p
    → (start end : List Car) → Layout (bit s.bits) start → Layout (bit (finished s l p)) end
    → length end + cars_driven 2 s l ≡ length start + cars_driven 1 s l

-- of an accepted set: whichever instructions fail, succeed or stick, two orders of their results, with the present issue, and with the same
-- car events come to the same
abbrev pub AnyOrder : Type 0
AnyOrder =
    (s : Station) → Reached s → (n : ℕ) (set : List ℕ) → answer_number s (run.request n set) ≡ 0
    → (fate : ℕ → Fate) (events : List ℕ) (l m : List Call)
    → Order (present_issue (station_after s (run.request n set))) n fate events l → Order (present_issue (station_after s (run.request n set))) n fate events m
    → Alike (station_after s (run.request n set)) l m

-- orders of a set's results exist for every issue and size, with any instruction answered last
abbrev pub OrdersExist : Type 0
OrdersExist =
    (k n i : ℕ) → i < n → (fate : ℕ → Fate) (events : List ℕ)
    → (front : List Call) × Order k n fate events (front ++ (run.result_call k i (fate_number (fate i)) ∷ []))

-- on any station asks and refused calls that are put in move nothing: each other call meets the station that it would meet without, and the
-- end is the same
abbrev pub AmidUnmoved : Type 0
AmidUnmoved = (s : Station) (l m : List Call) (a : Amid s l m) → (turns_amid a ≡ turns s l) × (calls s m ≡ calls s l)

-- so of an accepted set two orders, as in `AnyOrder`, come to the same with asks and refused calls put in anywhere in each
abbrev pub AnyOrderAmid : Type 0
AnyOrderAmid =
    (s : Station) → Reached s → (n : ℕ) (set : List ℕ) → answer_number s (run.request n set) ≡ 0
    → (fate : ℕ → Fate) (events : List ℕ) (l m x y : List Call)
    → let t = station_after s (run.request n set) in
    Order (present_issue t) n fate events l → Order (present_issue t) n fate events m
    → (a : Amid t l x) (b : Amid t m y) → AlikeAmid a b

-- for every list of calls there is one with an ask and a refused call put in before each
abbrev pub AmidExists : Type 0
AmidExists = (s : Station) (l : List Call) → Amid s l (interrupted l)

-- every list of calls is those of it that are taken, with the others put in
abbrev pub AmidCovers : Type 0
AmidCovers = (s : Station) (l : List Call) → Amid s (taken_of s l) l

-- the order in which stuck instructions finished makes no difference
abbrev pub FinishedAnyOrder : Type 0
FinishedAnyOrder =
    (s : Station) → Begins s → (l : List Call) (p q : List ℕ) → Chosen s l p → Chosen s l q → ((j : ℕ) → has p j ≡ has q j)
    → finished s l p ≡ finished s l q

-- whichever did finish, an instruction that has no result yet, and may be running, is allowed on that record
abbrev pub WaitsAnyway : Type 0
WaitsAnyway =
    (s : Station) → Begins s → (l : List Call) (p : List ℕ) → Chosen s l p
    → (i : ℕ) → i < (calls s l).count → marked (calls s l) i ≡ false
    → held_allowed (code_at (calls s l).set i) (bit (finished s l p)) ≡ true

-- until an image is taken, no set that is accepted and no event that is taken has a place in common with what is stuck
abbrev pub NothingMeetsAJam : Type 0
NothingMeetsAJam =
    (s : Station) (l : List Call) (j : ℕ) → j < length (stuck s l)
    → ((n : ℕ) (set : List ℕ) → answer_number (calls s l) (run.request n set) ≡ 0
    → (i : ℕ) → i < n → share (held_area (code_at set i)) (held_area (jam_at (stuck s l) j)) ≡ false)
    × ((e : ℕ) → answer_number (calls s l) (run.event e) ≡ 0 → share (held_area (jam_at (stuck s l) j)) lift ≡ false)

-- whatever calls came before, images too: an instruction that has no result yet is still allowed on the present record
abbrev pub StillAllowed : Type 0
StillAllowed =
    (s : Station) → Begins s → (l : List Call) (i : ℕ) → i < (calls s l).count → marked (calls s l) i ≡ false
    → held_allowed (code_at (calls s l).set i) (bit (calls s l).bits) ≡ true

-- a call leaves a fit station fit, and one that isn't unfit
abbrev pub FitStays : Type 0
FitStays = (s : Station) (c : Call) → fit (station_after s c) ≡ fit s

-- whatever calls came before, images too, the station never answers 16
abbrev pub NeverUnfit : Type 0
NeverUnfit = (s : Station) → Begins s → (l : List Call) (c : Call) → answer_number (calls s l) c ≡ number_of Unfit → ⊥
