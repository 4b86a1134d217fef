-- However far the instructions are: those that wait for their results, and those that are stuck, may have finished, in any order, and nobody
-- has heard of it. A place that is told for sure is right all the same, and a car that is told as moving is at one of its two places.
-- Proved in proofs/Motion.antt. Assumes nothing.
use Rattle.std.specs.Prelude.{◌≡◌, true, false, List, [], ◌∷◌, ◌++◌, ℕ, ◌<◌, replicate}
use Rattle.bits.specs.Bits.{bit, image}
use Rattle.floor.specs.Cars.{Car, Layout}
use Rattle.cars.specs.Lists.{Among}
use Rattle.rules.specs.declared.Code.{Code}
use Rattle.station.specs.Held.{held_next}
use Rattle.station.specs.Station.{marked}
use Rattle.station_laws.specs.Motion as run
use Rattle.station_laws.specs.Motion.{of_set, moving_code, is_among, Unheard}
use Rattle.cards.specs.Held.{numbers_in, code_cards}
use Rattle.desk.specs.declared.Desk.{Desk}
use Rattle.std.specs.declared.result.Result.TheVariants.{Ok}
use Rattle.desk.specs.declared.Whereabouts.TheVariants.{At, Moving}
use Rattle.desk.specs.Desk.{start_desk}
use Rattle.desk.specs.Questions.{whereabouts}
use Rattle.desk_laws.specs.Runs as desk
use Rattle.desk_laws.specs.Runs.{DeskCall, calls_desk, DeskBegins, below, stuck_at}
use Rattle.desk_laws.specs.Promises.{on_parts, moves_car}
use Rattle.desk_laws.specs.Following.{down_with_seven}

-- the numbers with some instructions of a set, and some of the stuck ones, applied one after the other to the record with the image r
abbrev pub cards_moved_on : List ℕ → List Code → List run.Moving → ℕ → List ℕ → List ℕ
cards_moved_on set js [] r a = a
cards_moved_on set js (m ∷ p) r a =
    cards_moved_on set js p (image (held_next (moving_code set js m) (bit r))) (code_cards (moving_code set js m) r a)

-- the numbers in fact: those after these calls, with the instructions of p applied
abbrev pub cards_in_fact : Desk → List DeskCall → List run.Moving → List ℕ
cards_in_fact d l p =
    let s = calls_desk d l in
    cards_moved_on s.station.set (stuck_at d l) p s.station.bits s.numbers

-- after these calls, the instructions of p may have finished unheard of, in this order
abbrev pub UnheardAt : Desk → List DeskCall → List run.Moving → Type 0
UnheardAt d l p = Unheard d.station (below d l) p

-- a place that is told for sure is right, whichever of the instructions that wait or are stuck have finished
abbrev pub WhereSure : Type 0
WhereSure =
    (d : Desk) → DeskBegins d → (l : List DeskCall) (c k : ℕ) → whereabouts (calls_desk d l) c ≡ Ok (At k)
    → (p : List run.Moving) → UnheardAt d l p → numbers_in (cards_in_fact d l p) k ≡ c

-- a car that is told as moving: there is an instruction that waits for its result, and whichever have finished, the car is at the second
-- place exactly if that one has, and else at the first
abbrev pub WhereMoving : Type 0
WhereMoving =
    (d : Desk) → DeskBegins d → (l : List DeskCall) (c k j : ℕ) → whereabouts (calls_desk d l) c ≡ Ok (Moving k j)
    → (i : ℕ) × (i < (calls_desk d l).station.count) × (marked (calls_desk d l).station i ≡ false)
    × ((p : List run.Moving) → UnheardAt d l p
    → (is_among p (of_set i) ≡ true → numbers_in (cards_in_fact d l p) j ≡ c)
    × (is_among p (of_set i) ≡ false → numbers_in (cards_in_fact d l p) k ≡ c))

-- no car is both: where a part under it is set apart, none is in the area of an instruction that waits
abbrev pub ApartOrMoving : Type 0
ApartOrMoving =
    (d : Desk) → DeskBegins d → (l : List DeskCall) (u : List Car) → Layout (bit (calls_desk d l).station.bits) u
    → (x : Car) → Among x u → on_parts (bit (calls_desk d l).station.apart) x ≡ true
    → (i : ℕ) → i < (calls_desk d l).station.count → moves_car (calls_desk d l).station x i ≡ false

-- such desks there are: the car with the number 7 is on the raised lift and the lift is asked to take it down; it is told as moving to the
-- lift's cells, and there it is if the lift has done so
abbrev pub MovingHappens : Type 0
MovingHappens =
    (whereabouts (calls_desk start_desk down_with_seven) 7 ≡ Ok (Moving 52 11))
    × UnheardAt start_desk down_with_seven (of_set 0 ∷ []) × (numbers_in (cards_in_fact start_desk down_with_seven (of_set 0 ∷ [])) 11 ≡ 7)
    × UnheardAt start_desk down_with_seven [] × (numbers_in (cards_in_fact start_desk down_with_seven []) 52 ≡ 7)

-- the same car, while belts of row 3 are asked to move
abbrev pub beside_seven : List DeskCall
beside_seven = desk.event 1 7 ∷ desk.event 3 0 ∷ desk.request 1 ((1 ∷ 3 ∷ 2 ∷ 0 ∷ 1 ∷ []) ++ replicate 35 0) ∷ []

-- a car is told for sure while belts elsewhere are asked to move, and there it is also if they have
abbrev pub SureHappens : Type 0
SureHappens =
    (whereabouts (calls_desk start_desk beside_seven) 7 ≡ Ok (At 52))
    × UnheardAt start_desk beside_seven (of_set 0 ∷ []) × (numbers_in (cards_in_fact start_desk beside_seven (of_set 0 ∷ [])) 52 ≡ 7)
