-- That each number stays with its car. Where an instruction takes a car is said by the rules' change of the record alone; where a number
-- goes is not mentioned in it. `CardsFollow` comes last. Proved in proofs/Rides.antt and proofs/Following.antt. Assumes nothing.
use Rattle.std.specs.Prelude.{◌≡◌, true, false, cond, List, [], ◌∷◌, ◌++◌, ℕ, eqb, replicate}
use Rattle.bits.specs.Bits.{Bits, bit}
use Rattle.bits.specs.Places.{elem}
use Rattle.floor.specs.Floor.{raised_car, drive_in, drive_out}
use Rattle.floor.specs.Cars.{Car, covers, Place, Layout}
use Rattle.cars.specs.Lists.{anchor, Among}
use Rattle.rules.specs.declared.Instruction.{Instruction}
use Rattle.std.specs.declared.option.Option.TheVariants.{Some, None}
use Rattle.rules.specs.declared.Event.{Event}
use Rattle.rules.specs.declared.Event.TheVariants.{BeginIn, BeginOut, EndDone, EndNotDone}
use Rattle.std.specs.declared.option.Option.{Option}
use Rattle.rules.specs.Rules.{well_formed, area, next_record}
use Rattle.rules.specs.Codes.{read_code, read_event}
use Rattle.station.specs.declared.Report.{Report}
use Rattle.station.specs.Held.{code_at}
use Rattle.cards.specs.Cards.{Numbers, Cards}
use Rattle.cards.specs.Held.{numbers_in}
use Rattle.desk.specs.declared.Desk.{Desk}
use Rattle.desk.specs.Desk.{start_desk}
use Rattle.desk_laws.specs.Runs as desk
use Rattle.desk_laws.specs.Runs.{DeskCall, desk_answer_number, desk_after, calls_desk}

-- ---- where an instruction takes a car

-- a record without a car: the places under it are free
abbrev pub without : Car → Bits → Bits
without x f k = cond (eqb (covers x k) 0) (f k) false

-- the instruction i takes the car x of the record f to y: if x were not there before, y would not be there after, and all else would be
-- the same
abbrev pub Takes : Instruction → Bits → Car → Car → Type 0
Takes i f x y = (k : ℕ) → next_record i (without x f) k ≡ without y (next_record i f) k

-- the numbers n of the record f have followed the instruction i: now they are m, and the record is g
pub record Follow (i : Instruction) (f g : Bits) (n m : Numbers) : Type 0 where
  -- the record now is the one that the rules make of it
  pub after : (k : ℕ) → Place k → g k ≡ next_record i f k
  -- each car is a car of the record now, where the instruction takes it, and there is its number
  pub rides : (l u : List Car) → Layout f l → Layout g u → (x : Car) → Among x l
      → (y : Car) × Among y u × Takes i f x y × (m (anchor y) ≡ n (anchor x))
  -- each car of the record now is one that it took there
  pub brought : (l u : List Car) → Layout f l → Layout g u → (y : Car) → Among y u → (x : Car) × Among x l × Takes i f x y
  -- each number outside the instruction's area is where it was
  pub outside : (k : ℕ) → area i k ≡ false → m k ≡ n k
  -- there are no other numbers
  pub cards : Cards g m

-- ---- what a call makes of the numbers

-- each number is where it was, but at these places
abbrev pub StayBut : List ℕ → Numbers → Numbers → Type 0
StayBut ks n m = (k : ℕ) → elem k ks ≡ false → m k ≡ n k

-- the numbers n of the record f after a car event that brings c: now they are m
abbrev pub NumbersAfterEvent : Event → Bits → ℕ → Numbers → Numbers → Type 0
-- the number that comes with a drive-in waits
NumbersAfterEvent BeginIn f c n m = (m drive_in ≡ c) × StayBut (drive_in ∷ []) n m
NumbersAfterEvent BeginOut f c n m = StayBut [] n m
-- a drive-in that is done puts the number that came with it at the raised lift; a drive-out removes the one there
NumbersAfterEvent EndDone f c n m =
    (f drive_in ≡ true → (m raised_car ≡ n drive_in) × (m drive_in ≡ 0) × StayBut (raised_car ∷ drive_in ∷ []) n m)
    × (f drive_out ≡ true → (m raised_car ≡ 0) × StayBut (raised_car ∷ []) n m)
-- a drive-in that is not done drops the number that came with it; a drive-out keeps all
NumbersAfterEvent EndNotDone f c n m =
    (f drive_in ≡ true → (m drive_in ≡ 0) × StayBut (drive_in ∷ []) n m)
    × (f drive_out ≡ true → StayBut [] n m)

abbrev pub DrivenAs : (Option Event) → Bits → ℕ → Numbers → Numbers → Type 0
DrivenAs (Some e) f c n m = NumbersAfterEvent e f c n m
DrivenAs None f c n m = ⊥

-- a result that says done: the report names an instruction, and the numbers have followed it
abbrev pub Done : Desk → Report → Desk → Type 0
Done d r e =
    (i : Instruction) × (read_code (code_at d.station.set r.number) ≡ Some i)
    × Follow i (bit d.station.bits) (bit e.station.bits) (numbers_in d.numbers) (numbers_in e.numbers)

-- one that says anything else: each number stays
abbrev pub Undone : Desk → Report → Desk → Type 0
Undone d r e = (r.ending ≡ 1 → ⊥) → e.numbers ≡ d.numbers

-- what each call makes of the numbers when it is accepted; an image brings its own
abbrev pub Accepted : Desk → DeskCall → Desk → Type 0
Accepted d (desk.request n set) e = e.numbers ≡ d.numbers
Accepted d (desk.reports r) e = (r.ending ≡ 1 → Done d r e) × Undone d r e
Accepted d (desk.event b c) e = DrivenAs (read_event b) (bit d.station.bits) c (numbers_in d.numbers) (numbers_in e.numbers)
Accepted d (desk.pictures p n ns) e = Cards (bit p.bits) (numbers_in e.numbers)
Accepted d desk.ask e = e.numbers ≡ d.numbers

-- ---- numbers follow cars

-- of any desk and any call: where it is accepted each number follows its car, and where it is rejected each stays
abbrev pub CardsFollow : Type 0
CardsFollow =
    (d : Desk) (c : DeskCall)
    → (desk_answer_number d c ≡ 0 → Accepted d c (desk_after d c)) × ((desk_answer_number d c ≡ 0 → ⊥) → (desk_after d c).numbers ≡ d.numbers)

-- such calls happen: a car is driven in with the number 7, and the lift is asked to take it to the basement; when the result says done, the
-- number has gone from the raised lift to the lift's cells
abbrev pub down_with_seven : List DeskCall
down_with_seven = desk.event 1 7 ∷ desk.event 3 0 ∷ desk.request 1 ((4 ∷ 2 ∷ 0 ∷ 0 ∷ 0 ∷ []) ++ replicate 35 0) ∷ []

abbrev pub is_down : DeskCall
is_down = desk.reports (record { issue = 0; number = 0; ending = 1 })

-- when the lift has taken a car down, its number has gone from the raised lift to the lift's cells
abbrev pub FollowHappens : Type 0
FollowHappens =
    let d = calls_desk start_desk down_with_seven in
    (desk_answer_number d is_down ≡ 0) × (numbers_in d.numbers raised_car ≡ 7) × (numbers_in (desk_after d is_down).numbers 11 ≡ 7)

-- after a success no other numbers would do: what the rules say of each car leaves no two to exchange
abbrev pub FollowOnly : Type 0
FollowOnly =
    (i : Instruction) (f g : Bits) (n m o : Numbers) → well_formed i ≡ true → ((l : List Car) × Layout f l) → ((u : List Car) × Layout g u)
    → Follow i f g n m → Follow i f g n o → (k : ℕ) → m k ≡ o k
