-- What is promised of the desk: it says what the station says before its own, and at every moment its numbers are those of the cars. Each
-- is proved in proofs/. Assumes nothing.
use Rattle.std.specs.Prelude.{◌≡◌, ◌↔◌, ◌⊎◌, Bool, true, cond, not, ◌&&◌, ◌||◌, List, ℕ, suc, ◌+◌, ◌≤◌, ◌<◌, ltb, length, take, get_or}
use Rattle.bits.specs.Bits.{Bits, bit}
use Rattle.bits.specs.Places.{elem}
use Rattle.bits.specs.Search.{least}
use Rattle.floor.specs.Floor.{raised_car, drive_out}
use Rattle.floor.specs.Cars.{Car, pair, single, raised, Layout}
use Rattle.floor.specs.Sound.{Sound}
use Rattle.cars.specs.Lists.{anchor, Among}
use Rattle.station.specs.declared.Picture.{Picture}
use Rattle.station.specs.declared.Station.{Station}
use Rattle.station.specs.Held.{code_at, held_area}
use Rattle.station.specs.Station.{present_issue, marked}
use Rattle.station_laws.specs.Runs as run
use Rattle.station_laws.specs.Jams.{Picks}
use Rattle.station_laws.specs.Orders.{Fate}
use Rattle.cards.specs.Cards.{Cards, Has}
use Rattle.cards.specs.Given.{AllNew}
use Rattle.cards.specs.Held.{numbers_in}
use Rattle.cards_laws.specs.Statements.{ThatMany}
use Rattle.desk.specs.declared.Desk.{Desk}
use Rattle.desk.specs.declared.Whereabouts.TheVariants.{At, LastKnown, Moving, NotHere}
use Rattle.std.specs.declared.option.Option.TheVariants.{Some}
use Rattle.std.specs.declared.result.Result.TheVariants.{Ok}
use Rattle.desk.specs.Desk.{desk_fit}
use Rattle.desk.specs.Questions.{place_after, whereabouts, leaving}
use Rattle.desk_laws.specs.Runs as desk
use Rattle.desk_laws.specs.Runs.{DeskCall, desk_answer_number, desk_after, calls_desk, DeskBegins, NoDeskImages, under, below, stuck_at, finished_record, finished_cards, carded, driven_in, driven_out}
use Rattle.desk_laws.specs.Orders.{DeskOrder, DeskAlike}

-- ---- it always answers

-- a refused call leaves the desk as it was, its station and its numbers
abbrev pub DeskRefusedUntouched : Type 0
DeskRefusedUntouched = (d : Desk) (c : DeskCall) → (desk_answer_number d c ≡ 0 → ⊥) → desk_after d c ≡ d

-- a call leaves a fit desk fit, and one that isn't unfit
abbrev pub DeskFitStays : Type 0
DeskFitStays = (d : Desk) (c : DeskCall) → desk_fit (desk_after d c) ≡ desk_fit d

-- whatever calls came before, images too, the desk never answers 16
abbrev pub DeskNeverUnfit : Type 0
DeskNeverUnfit = (d : Desk) → DeskBegins d → (l : List DeskCall) (c : DeskCall) → desk_answer_number (calls_desk d l) c ≡ 16 → ⊥

-- ---- the station below

-- a fit desk says what its station would and leaves the station that this leaves; or the station takes the call, and the desk refuses it
-- with a number of its own
abbrev pub AsStation : Type 0
AsStation =
    (d : Desk) (c : DeskCall) → desk_fit d ≡ true
    → ((desk_answer_number d c ≡ run.answer_number d.station (under c)) × ((desk_after d c).station ≡ run.station_after d.station (under c)))
    ⊎ ((run.answer_number d.station (under c) ≡ 0) × (37 ≤ desk_answer_number d c) × (desk_answer_number d c ≤ 39))

-- after any calls a desk's station is the one that its own calls below make
abbrev pub StationBelow : Type 0
StationBelow = (d : Desk) → DeskBegins d → (l : List DeskCall) → (calls_desk d l).station ≡ run.calls d.station (below d l)

-- ---- its own refusals

-- the station would take the call
abbrev pub Passes : Desk → DeskCall → Type 0
Passes d c = (desk_fit d ≡ true) × (run.answer_number d.station (under c) ≡ 0)

-- a begin of a drive-in that the station would take is answered 37 exactly with the number zero, 38 exactly with one that is in the garage
-- or waits, and taken exactly with any other
abbrev pub BeginNumbers : Type 0
BeginNumbers =
    (d : Desk) (c : ℕ)
    → ((desk_answer_number d (desk.event 1 c) ≡ 37) ↔ (Passes d (desk.event 1 c) × (c ≡ 0)))
    × ((desk_answer_number d (desk.event 1 c) ≡ 38) ↔ (Passes d (desk.event 1 c) × (c ≡ 0 → ⊥) × Has (numbers_in d.numbers) c))
    × ((desk_answer_number d (desk.event 1 c) ≡ 0) ↔ (Passes d (desk.event 1 c) × (c ≡ 0 → ⊥) × (Has (numbers_in d.numbers) c → ⊥)))

-- with any event but the begin of a drive-in the number is not looked at
abbrev pub OtherEvents : Type 0
OtherEvents = (d : Desk) (e b c : ℕ) → (e ≡ 1 → ⊥) → desk.call_desk d (desk.event e b) ≡ desk.call_desk d (desk.event e c)

-- one of n numbers is zero
abbrev pub AnyZero : ℕ → List ℕ → Type 0
AnyZero n ns = (i : ℕ) × (i < n) × (get_or ns i 0 ≡ 0)

-- an image that the station would take is answered 39 exactly if its n numbers are not as many as its cars, one more with a drive-in under
-- way; 37 exactly if they are and one is zero; 38 exactly if they are, none is zero and one is given twice; else it is taken
abbrev pub ImageNumbers : Type 0
ImageNumbers =
    (d : Desk) (p : Picture) (n : ℕ) (ns : List ℕ) → n ≤ length ns
    → let c = desk.pictures p n ns in
    let many = ThatMany (bit p.bits) (take n ns) in
    ((desk_answer_number d c ≡ 39) ↔ (Passes d c × (many → ⊥)))
    × ((desk_answer_number d c ≡ 37) ↔ (Passes d c × many × AnyZero n ns))
    × ((desk_answer_number d c ≡ 38) ↔ (Passes d c × many × (AnyZero n ns → ⊥) × (AllNew (take n ns) → ⊥)))
    × ((desk_answer_number d c ≡ 0) ↔ (Passes d c × many × AllNew (take n ns)))

-- ---- numbers follow cars

-- the calls that may change numbers: a success, an event, an image
abbrev pub ChangesNumbers : DeskCall → Type 0
ChangesNumbers (desk.request n set) = ⊥
ChangesNumbers (desk.reports r) = r.ending ≡ 1
ChangesNumbers (desk.event e c) = Unit {0}
ChangesNumbers (desk.pictures p n ns) = Unit {0}
ChangesNumbers desk.ask = ⊥

-- whatever the call, the numbers stay, or the call is a success, a car event or an image, and was taken
abbrev pub OnlySuccessMoves : Type 0
OnlySuccessMoves = (d : Desk) (c : DeskCall) → ((desk_after d c).numbers ≡ d.numbers) ⊎ ((desk_answer_number d c ≡ 0) × ChangesNumbers c)

-- whatever calls follow, images too, for every choice of which stuck instructions did in fact finish: the record with those applied is
-- sound, and the numbers with those applied are exactly those of its cars, each once
abbrev pub DeskAlways : Type 0
DeskAlways =
    (d : Desk) → DeskBegins d → (l : List DeskCall) (p : List ℕ) → Picks (length (stuck_at d l)) p
    → Sound (bit (finished_record d l p)) × Cards (bit (finished_record d l p)) (numbers_in (finished_cards d l p))

-- whichever stuck instructions did in fact finish, the numbers are the same ones
abbrev pub WhicheverSame : Type 0
WhicheverSame =
    (d : Desk) → DeskBegins d → (l : List DeskCall) (p : List ℕ) → Picks (length (stuck_at d l)) p
    → (c : ℕ) → (c ≡ 0 → ⊥) → Has (numbers_in (finished_cards d l p)) c ↔ Has (numbers_in (calls_desk d l).numbers) c

-- none is lost and none is made: from any desk, over any calls but an image, a car has a number if one had it before, plus those driven in with it, less
-- those driven out
abbrev pub RunKeepsNumbers : Type 0
RunKeepsNumbers =
    (d : Desk) (l : List DeskCall) → NoDeskImages l → (c : ℕ) → (c ≡ 0 → ⊥) → carded c (calls_desk d l) + driven_out c d l ≡ carded c d + driven_in c d l

-- of an accepted set: whichever instructions fail, succeed or stick, two orders of their results with the same car events and numbers come
-- to the same desk
abbrev pub DeskAnyOrder : Type 0
DeskAnyOrder =
    (d : Desk) → DeskBegins d → (before : List DeskCall) (n : ℕ) (set : List ℕ) → desk_answer_number (calls_desk d before) (desk.request n set) ≡ 0
    → (fate : ℕ → Fate) (drives : List (ℕ × ℕ)) (l m : List DeskCall)
    → let s = desk_after (calls_desk d before) (desk.request n set) in
    DeskOrder (present_issue s.station) n fate drives l → DeskOrder (present_issue s.station) n fate drives m → DeskAlike s l m

-- ---- where a card's car is, and which is leaving

-- one of these parts is under a car: one of its cells, or the lift
abbrev pub on_parts : Bits → Car → Bool
on_parts parts (pair c) = parts c || parts (suc c)
on_parts parts (single c) = parts c
on_parts parts raised = parts raised_car

-- instruction i waits for its result, and a part under the car is in its area
abbrev pub moves_car : Station → Car → ℕ → Bool
moves_car s x i = not (marked s i) && on_parts (λ k. elem k (held_area (code_at s.set i))) x

-- a fit desk tells the place of the car that has the number: as the last known exactly if a part under it is set apart; else as moving
-- exactly if an instruction waits that has one in its area, with the place that the first such would bring it to; and that it is not here
-- exactly if no car has the number
abbrev pub WhereTold : Type 0
WhereTold =
    (d : Desk) (l : List Car) → desk_fit d ≡ true → Layout (bit d.station.bits) l
    → (c : ℕ) → (c ≡ 0 → ⊥)
    → ((x : Car) → Among x l → numbers_in d.numbers (anchor x) ≡ c
    → let i = least d.station.count (moves_car d.station x) in
    whereabouts d c
    ≡ Ok (cond (on_parts (bit d.station.apart) x) (LastKnown (anchor x))
    (cond (ltb i d.station.count) (Moving (anchor x) (place_after d i c)) (At (anchor x)))))
    × (((x : Car) → Among x l → numbers_in d.numbers (anchor x) ≡ c → ⊥) → whereabouts d c ≡ Ok NotHere)

-- a card is leaving exactly while a drive-out is under way, and it is that of the car on the raised lift
abbrev pub LeavingTold : Type 0
LeavingTold =
    (d : Desk) (c : ℕ) → desk_fit d ≡ true
    → (leaving d ≡ Ok (Some c)) ↔ ((bit d.station.bits drive_out ≡ true) × (numbers_in d.numbers raised_car ≡ c) × (c ≡ 0 → ⊥))
