-- Fetching a car: moves that bring it onto the lift at street, while every other car stays in the garage. In order: where moves take a car,
-- when it can be fetched, and the promises: a record with at most two cars of row 1 on one side of the lift takes one more car and locks nobody in; three
-- on each side can be too many; and cars that are taken away hinder nobody. Proved in proofs/. Assumes nothing.
use Rattle.std.specs.Prelude.{◌≡◌, true, false, List, [], ◌∷◌, ◌++◌, ℕ, ◌≤◌, T}
use Rattle.bits.specs.Bits.{Bits, bit, count}
use Rattle.bits.specs.Places.{from, elem}
use Rattle.floor.specs.Floor.{left_of_lift, right_of_lift, street, height_low, height_high, drives}
use Rattle.floor.specs.Tests.{holds, height_is}
use Rattle.floor.specs.Cars.{Car, raised, Layout, cars}
use Rattle.floor.specs.Sound.{Sound}
use Rattle.rules.specs.declared.Instruction.{Instruction}
use Rattle.rules.specs.declared.Event.TheVariants.{BeginIn, EndDone}
use Rattle.rules.specs.Events.{possible, after_event}
use Rattle.rules_laws.specs.Undoing.{record_after, Moves}
use Rattle.rules_laws.specs.Locked.{unlocked}
use Rattle.cars.specs.Lists.{Among}
use Rattle.cards.specs.Following.{car_moved}
use Rattle.fetch.specs.Room.{locks_nobody_in}

-- where a car is after instructions that are done one after the other
unfoldable pub car_after : List Instruction → Car → Car
car_after [] x = x
car_after (i ∷ is) x = car_after is (car_moved i x)

-- the car x of the record f can be fetched: some instructions, each allowed on the record that those before it leave, bring it onto the
-- raised lift, and then the lift is at street. Instructions are no drives, so no car leaves meanwhile
pub record CanBeFetched (f : Bits) (x : Car) : Type 0 where
  pub by : List Instruction
  pub moves : Moves by f
  pub comes : car_after by x ≡ raised
  pub street : holds (height_is street) (record_after by f) ≡ true

-- every car of the record can be
abbrev pub EachCanBeFetched : Bits → Type 0
EachCanBeFetched f = (l : List Car) → Layout f l → (x : Car) → Among x l → CanBeFetched f x

-- the record after a drive-in, from its begin to its done end
abbrev pub after_drive_in : Bits → Bits
after_drive_in f = after_event EndDone (after_event BeginIn f)

-- a drive-in that may begin on a sound record which passes the test locks nobody in: after it every car can be fetched, the new one too
abbrev pub NobodyLockedIn : Type 0
NobodyLockedIn = (r : ℕ) → Sound (bit r) → possible BeginIn (bit r) ≡ true → locks_nobody_in r ≡ true → EachCanBeFetched (after_drive_in (bit r))

-- with at most five cars in the garage a record on which a drive-in may begin always passes
abbrev pub FiveAlwaysPass : Type 0
FiveAlwaysPass = (r : ℕ) → Sound (bit r) → possible BeginIn (bit r) ≡ true → cars (bit r) ≤ 5 → locks_nobody_in r ≡ true

-- three on each side are too many: so are they on the record on which a drive-in locks the others in, and it does not pass
abbrev pub ThreeOnEachSide : Type 0
ThreeOnEachSide =
    (count left_of_lift (bit unlocked) ≡ 6) × (count right_of_lift (bit unlocked) ≡ 6) × (locks_nobody_in unlocked ≡ false)

-- carAfter is right: where it says that a car is, there is a car of the last record
abbrev pub CarsFollowed : Type 0
CarsFollowed =
    (is : List Instruction) (f : Bits) → Sound f → Moves is f
    → (l m : List Car) → Layout f l → Layout (record_after is f) m → (x : Car) → Among x l → Among (car_after is x) m

-- ---- with fewer cars

-- the shuttles' slots, the lift's height and the drives
abbrev pub fixed_parts : List ℕ
fixed_parts = from 40 12 ++ height_low ∷ height_high ∷ drives

-- each car of f is one of g, and these parts are as in g
pub record FewerCars (f g : Bits) : Type 0 where
  pub cars : (l m : List Car) → Layout f l → Layout g m → (x : Car) → Among x l → Among x m
  pub parts : (k : ℕ) → T (elem k fixed_parts) → f k ≡ g k

-- a car that can be fetched can be fetched by the same instructions with fewer cars around it
abbrev pub FewerHinderNobody : Type 0
FewerHinderNobody =
    (f g : Bits) → Sound f → Sound g → FewerCars f g → (is : List Instruction) → Moves is g
    → Moves is f × FewerCars (record_after is f) (record_after is g)
