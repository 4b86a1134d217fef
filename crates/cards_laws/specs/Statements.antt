-- That numbers follow cars: an allowed instruction takes each car's number along with it, a car event brings one number or takes
-- one away, and neither reads or writes more than its area. Proved in proofs/. Assumes nothing.
use Rattle.std.specs.Prelude.{◌≡◌, ◌⊎◌, ◌↔◌, true, false, List, [], ◌∷◌, ◌++◌, map, ℕ, suc, ◌+◌, ◌≤◌, length, take}
use Rattle.bits.specs.Bits.{Bits, bit, digit}
use Rattle.floor.specs.Floor.{raised_car, drive_in, drive_out}
use Rattle.floor.specs.Cars.{Car, pair, Layout, cars}
use Rattle.floor.specs.Sound.{Sound}
use Rattle.cars.specs.Lists.{anchor, Among, Rising}
use Rattle.rules.specs.declared.Instruction.{Instruction}
use Rattle.rules.specs.declared.Event.{Event}
use Rattle.rules.specs.declared.Event.TheVariants.{BeginIn, BeginOut, EndDone, EndNotDone}
use Rattle.rules.specs.Rules.{well_formed, area, allowed, next_record}
use Rattle.rules.specs.Events.{possible, after_event}
use Rattle.rules_laws.specs.Laws.{Agree, lift_area, Clear}
use Rattle.rules_laws.specs.Undoing.{record_after}
use Rattle.cards.specs.Cards.{Numbers, Cards, Has}
use Rattle.std.specs.declared.result.Result.TheVariants.{Ok}
use Rattle.cards.specs.Given.{bears, numbers_given, given_as, AllNew}
use Rattle.cards.specs.Held.{numbers_in, cards_fit, is_known, where_is}
use Rattle.cards.specs.Following.{no_source, numbers_after, numbers_driven, car_moved}

-- ---- the cars of a record

-- every layout of a record has the same cars
abbrev pub OneLayout : Type 0
OneLayout = (f : Bits) (l m : List Car) → Layout f l → Layout f m → (x : Car) → Among x l → Among x m

-- a garage with no car and no drive-in under way has no number
abbrev pub EmptyGarage : Type 0
EmptyGarage = (f : Bits) → Layout f [] → f drive_in ≡ false → Cards f (λ k. 0)

-- a place bears a number exactly if a car of the layout has its anchor there, or a drive-in is under way and it is where numbers wait
abbrev pub BearsExactly : Type 0
BearsExactly =
    (f : Bits) (l : List Car) → Layout f l
    → (k : ℕ) → (bears f k ≡ true) ↔ (((x : Car) × Among x l × (anchor x ≡ k)) ⊎ ((k ≡ drive_in) × (f drive_in ≡ true)))

-- the test of numbers passes exactly if they are those of the record's cars
abbrev pub FitExactly : Type 0
FitExactly = (r : ℕ) (a : List ℕ) → Sound (bit r) → (cards_fit r a ≡ true) ↔ Cards (bit r) (numbers_in a)

-- a number is known exactly if it is in the garage or its drive-in is under way
abbrev pub KnownExactly : Type 0
KnownExactly = (a : List ℕ) (c : ℕ) → (c ≡ 0 → ⊥) → (is_known a c ≡ true) ↔ Has (numbers_in a) c

-- ---- the numbers that come with an image

-- as many numbers as a record has cars, and one more where a drive-in is under way
abbrev pub ThatMany : Bits → List ℕ → Type 0
ThatMany f ns = length ns ≡ cars f + digit (f drive_in)

-- n numbers are fine exactly if they are that many, none 0 and none twice
abbrev pub FineExactly : Type 0
FineExactly =
    (r n : ℕ) (ns : List ℕ) → Sound (bit r) → n ≤ length ns
    → (given_as r n ns ≡ Ok tt) ↔ (ThatMany (bit r) (take n ns) × AllNew (take n ns))

-- as many numbers as a sound record wants, none zero and none twice, are then those of its cars
abbrev pub GivenCards : Type 0
GivenCards = (f : Bits) (ns : List ℕ) → Sound f → ThatMany f ns → AllNew ns → Cards f (numbers_given f ns)

-- what stands behind them, as in an array with room for more, is not looked at
abbrev pub GivenPadded : Type 0
GivenPadded = (f : Bits) (ns more : List ℕ) → Sound f → ThatMany f ns → (k : ℕ) → numbers_given f (ns ++ more) k ≡ numbers_given f ns k

-- in the layout's cell order, raised lift last, and then the one that waits
abbrev pub GivenInOrder : Type 0
GivenInOrder =
    (f : Bits) (ns : List ℕ) (l : List Car) → Layout f l → ThatMany f ns → Rising l
    → (f drive_in ≡ false → map (λ x. numbers_given f ns (anchor x)) l ≡ ns)
    × (f drive_in ≡ true → map (λ x. numbers_given f ns (anchor x)) l ++ numbers_given f ns drive_in ∷ [] ≡ ns)

-- ---- where a card's car is

-- the place that is told for a number is the anchor of its car, nowhere if no car has it
abbrev pub WhereRight : Type 0
WhereRight =
    (f : Bits) (a : List ℕ) (l : List Car) → Layout f l → Cards f (numbers_in a) → (c : ℕ) → (c ≡ 0 → ⊥)
    → ((x : Car) → Among x l → numbers_in a (anchor x) ≡ c → where_is a c ≡ anchor x)
    × (((x : Car) → Among x l → numbers_in a (anchor x) ≡ c → ⊥) → where_is a c ≡ no_source)

-- ---- instructions

-- after an allowed instruction the numbers are again those of the cars, each once
abbrev pub NumbersKept : Type 0
NumbersKept = (i : Instruction) (f : Bits) (n : Numbers) → Sound f → allowed i f ≡ true → Cards f n → Cards (next_record i f) (numbers_after i f n)

-- an allowed instruction on a sound record loses no number and makes none
abbrev pub SameNumbers : Type 0
SameNumbers =
    (i : Instruction) (f : Bits) (n : Numbers) → Sound f → allowed i f ≡ true → Cards f n
    → (c : ℕ) → (c ≡ 0 → ⊥) → Has (numbers_after i f n) c ↔ Has n c

-- each follows its car: a car of the record is a car of the next record where the instruction takes it, with the same number
abbrev pub NumbersFollowed : Type 0
NumbersFollowed =
    (i : Instruction) (f : Bits) (n : Numbers) → Sound f → allowed i f ≡ true
    → (l m : List Car) → Layout f l → Layout (next_record i f) m
    → (x : Car) → Among x l → Among (car_moved i x) m × (numbers_after i f n (anchor (car_moved i x)) ≡ n (anchor x))

-- after an allowed instruction every car of the next record is one that the instruction brought there
abbrev pub Brought : Type 0
Brought =
    (i : Instruction) (f : Bits) → Sound f → allowed i f ≡ true
    → (l m : List Car) → Layout f l → Layout (next_record i f) m
    → (y : Car) → Among y m → (x : Car) × Among x l × (car_moved i x ≡ y)

-- a number that waits goes on waiting
abbrev pub WaitsOn : Type 0
WaitsOn = (i : Instruction) (f : Bits) (n : Numbers) → well_formed i ≡ true → numbers_after i f n drive_in ≡ n drive_in

-- no other numbers fit after an allowed instruction: those of the next record's cars, of which each car has the one that it had and the
-- same one waits, are these
abbrev pub OnlyThese : Type 0
OnlyThese =
    (i : Instruction) (f : Bits) (n m : Numbers) → Sound f → allowed i f ≡ true → Cards f n → Cards (next_record i f) m
    → ((l : List Car) → Layout f l → (x : Car) → Among x l → m (anchor (car_moved i x)) ≡ n (anchor x))
    → m drive_in ≡ n drive_in
    → (k : ℕ) → m k ≡ numbers_after i f n k

-- ---- areas: of any records and numbers

-- two numberings that agree on some places
abbrev pub SameOn : Bits → Numbers → Numbers → Type 0
SameOn places n m = (k : ℕ) → places k ≡ true → n k ≡ m k

-- an instruction leaves the numbers outside its area
abbrev pub NumbersOutside : Type 0
NumbersOutside =
    (i : Instruction) → well_formed i ≡ true → (f : Bits) (n : Numbers) (k : ℕ) → area i k ≡ false → numbers_after i f n k ≡ n k

-- the numbers in an instruction's area after it rest on the record and the numbers in its area alone
abbrev pub NumbersInside : Type 0
NumbersInside =
    (i : Instruction) → well_formed i ≡ true → (f g : Bits) (n m : Numbers) → Agree (area i) f g → SameOn (area i) n m
    → SameOn (area i) (numbers_after i f n) (numbers_after i g m)

-- an allowed instruction leaves each number of its area in its area
abbrev pub StaysWithin : Type 0
StaysWithin =
    (i : Instruction) (f : Bits) (n : Numbers) → Sound f → allowed i f ≡ true → Cards f n
    → (k : ℕ) → area i k ≡ true → (n k ≡ 0 → ⊥) → (j : ℕ) × (area i j ≡ true) × (numbers_after i f n j ≡ n k)

-- no car stands half in it: of the two cells of a car in row 1 both are in the area of an allowed instruction or none is, before it and
-- after it
abbrev pub NoneTorn : Type 0
NoneTorn =
    (i : Instruction) (f : Bits) → Sound f → allowed i f ≡ true → (l : List Car) → Layout f l ⊎ Layout (next_record i f) l
    → (c : ℕ) → Among (pair c) l → area i c ≡ area i (suc c)

-- ---- several instructions, as those of a set of which it is not known which have finished

-- the numbers after them, one after the other
abbrev pub numbers_after_all : List Instruction → Bits → Numbers → Numbers
numbers_after_all [] f n = n
numbers_after_all (i ∷ is) f n = numbers_after_all is (next_record i f) (numbers_after i f n)

-- each is allowed on the record and clear of drives; a place is in none of their areas; no two areas share a place
abbrev pub AllAllowed : List Instruction → Bits → Type 0
AllAllowed [] f = Unit {0}
AllAllowed (i ∷ is) f = (allowed i f ≡ true) × Clear i f × AllAllowed is f

abbrev pub InNone : List Instruction → ℕ → Type 0
InNone [] k = Unit {0}
InNone (i ∷ is) k = (area i k ≡ false) × InNone is k

abbrev pub AllApart : List Instruction → Type 0
AllApart [] = Unit {0}
AllApart (i ∷ is) = ((k : ℕ) → area i k ≡ true → InNone is k) × AllApart is

-- whichever of them finish, and in whatever order: the numbers are those of the cars, and outside their areas they are as they were
abbrev pub Whichever : Type 0
Whichever =
    (is : List Instruction) (f : Bits) (n : Numbers) → Sound f → Cards f n → AllAllowed is f → AllApart is
    → Sound (record_after is f) × Cards (record_after is f) (numbers_after_all is f n)
    × ((k : ℕ) → InNone is k → numbers_after_all is f n k ≡ n k)

-- ---- car events

-- a number that may come in: not 0, not in the garage, and no drive-in under way with it
abbrev pub New : ℕ → Numbers → Type 0
New c n = (c ≡ 0 → ⊥) × (Has n c → ⊥)

-- what a begin of a drive-in brings is new
abbrev pub BringsNew : Event → ℕ → Numbers → Type 0
BringsNew e c n = e ≡ BeginIn → New c n

-- after a possible event the numbers are again those of the cars, each once
abbrev pub EventKept : Type 0
EventKept =
    (e : Event) (f : Bits) (n : Numbers) (c : ℕ) → Sound f → possible e f ≡ true → Cards f n → BringsNew e c n
    → Cards (after_event e f) (numbers_driven e c n)

-- the number d is there after an event on the record f: a begin of a drive-in adds its own; a drive-out that is done takes away the one on
-- the raised lift; an end that isn't done drops the one that waits
abbrev pub Remains : Event → Bits → Numbers → ℕ → ℕ → Type 0
Remains BeginIn f n c d = (d ≡ c) ⊎ Has n d
Remains BeginOut f n c d = Has n d
Remains EndDone f n c d = Has n d × (f drive_out ≡ true → d ≡ n raised_car → ⊥)
Remains EndNotDone f n c d = Has n d × (d ≡ n drive_in → ⊥)

-- after a possible event the numbers that remain are there, and no others
abbrev pub EventHas : Type 0
EventHas =
    (e : Event) (f : Bits) (n : Numbers) (c : ℕ) → Sound f → possible e f ≡ true → Cards f n → BringsNew e c n
    → (d : ℕ) → (d ≡ 0 → ⊥) → Has (numbers_driven e c n) d ↔ Remains e f n c d

-- the car that was driven in has the number that its begin brought
abbrev pub DrivenInHas : Type 0
DrivenInHas = (n : Numbers) (c : ℕ) → numbers_driven EndDone c n raised_car ≡ n drive_in

-- an event leaves the numbers outside the lift and the drives, and there they are told by those of the lift and the drives
pub record EventNumbers : Type 0 where
  pub outside : (e : Event) (c : ℕ) (n : Numbers) (k : ℕ) → lift_area k ≡ false → numbers_driven e c n k ≡ n k
  pub inside : (e : Event) (c : ℕ) (n m : Numbers) → SameOn lift_area n m → SameOn lift_area (numbers_driven e c n) (numbers_driven e c m)
