-- A call of the desk, lists of calls, and what they ask of the station below. Assumes nothing.
use Rattle.std.specs.Prelude.{◌≡◌, Bool, cond, ◌&&◌, List, [], ◌∷◌, ℕ, ◌+◌, ◌^◌, ◌<◌, eqb, leb, get_or}
use Rattle.bits.specs.Bits.{bit, digit, image}
use Rattle.bits.specs.Search.{some}
use Rattle.floor.specs.Floor.{drive_in, drive_out, raised_car}
use Rattle.rules.specs.declared.Code.{Code}
use Rattle.station.specs.declared.Report.{Report}
use Rattle.station.specs.declared.Picture.{Picture}
use Rattle.station.specs.Held.{held_next}
use Rattle.station_laws.specs.Runs as run
use Rattle.station_laws.specs.Runs.{Call}
use Rattle.station_laws.specs.Jams.{stuck, jam_at, applied}
use Rattle.cards.specs.Held.{numbers_in, code_cards}
use Rattle.desk.specs.declared.Desk.{Desk}
use Rattle.desk.specs.declared.DeskOutcome.{DeskOutcome}
use Rattle.desk.specs.Desk.{start_desk, reply_number, reply_place}
use Rattle.desk.specs.Calls as desk

-- a request, the result of an instruction, a car event with a card's number, an image with so many numbers, the record asked for
pub data DeskCall : Type 0 where
  request : ℕ → List ℕ → DeskCall
  reports : Report → DeskCall
  event : ℕ → ℕ → DeskCall
  pictures : Picture → ℕ → List ℕ → DeskCall
  ask : DeskCall

-- what a call hands back: the functions that the contracts of the code cite
abbrev pub call_desk : Desk → DeskCall → DeskOutcome
call_desk d (request n set) = desk.desk_request d n set
call_desk d (reports r) = desk.desk_result d r
call_desk d (event e c) = desk.desk_event d e c
call_desk d (pictures p n ns) = desk.desk_take_image d p n ns
call_desk d ask = desk.desk_ask d

-- the number and the place that it is answered with, and the desk that it leaves
abbrev pub desk_answer_number : Desk → DeskCall → ℕ
desk_answer_number d c = reply_number (call_desk d c).reply

abbrev pub desk_fault_index : Desk → DeskCall → ℕ
desk_fault_index d c = reply_place (call_desk d c).reply

abbrev pub desk_after : Desk → DeskCall → Desk
desk_after d c = (call_desk d c).desk

-- the desk after several calls
abbrev pub calls_desk : Desk → List DeskCall → Desk
calls_desk d [] = d
calls_desk d (c ∷ l) = calls_desk (desk_after d c) l

-- where it begins: the start, or an image of 64 bits that was taken with its numbers
pub data DeskBegins : Desk → Type 0 where
  at_start : DeskBegins start_desk
  by_image : (before : Desk) (p : Picture) (n : ℕ) (ns : List ℕ) → p.bits < 2 ^ 64 → desk_answer_number before (pictures p n ns) ≡ 0
      → DeskBegins (desk_after before (pictures p n ns))

-- calls but an image
abbrev pub NoDeskImages : List DeskCall → Type 0
NoDeskImages [] = Unit {0}
NoDeskImages (request n set ∷ l) = NoDeskImages l
NoDeskImages (reports r ∷ l) = NoDeskImages l
NoDeskImages (event e c ∷ l) = NoDeskImages l
NoDeskImages (pictures p n ns ∷ l) = ⊥
NoDeskImages (ask ∷ l) = NoDeskImages l

-- ---- the station below

-- the station's call that a desk's call is
abbrev pub under : DeskCall → Call
under (request n set) = run.request n set
under (reports r) = run.reports r
under (event e c) = run.event e
under (pictures p n ns) = run.pictures p
under ask = run.ask

-- the desk refuses by itself: 37, 38 or 39
abbrev pub itself : Desk → DeskCall → Bool
itself d c = leb 37 (desk_answer_number d c) && leb (desk_answer_number d c) 39

-- the calls that reach the station: all but those
abbrev pub below : Desk → List DeskCall → List Call
below d [] = []
below d (c ∷ l) = let rest = below (desk_after d c) l in cond (itself d c) rest (under c ∷ rest)

-- ---- jams

-- the numbers with some stuck instructions applied, one after the other, to the record with the image r
abbrev pub applied_cards : List Code → List ℕ → ℕ → List ℕ → List ℕ
applied_cards js [] r a = a
applied_cards js (i ∷ p) r a = applied_cards js p (image (held_next (jam_at js i) (bit r))) (code_cards (jam_at js i) r a)

-- the instructions that are stuck after some calls
abbrev pub stuck_at : Desk → List DeskCall → List Code
stuck_at d l = stuck d.station (below d l)

-- the record and the numbers after some calls, where of the stuck instructions these did in fact finish
abbrev pub finished_record : Desk → List DeskCall → List ℕ → ℕ
finished_record d l p = applied (stuck_at d l) p (calls_desk d l).station.bits

abbrev pub finished_cards : Desk → List DeskCall → List ℕ → List ℕ
finished_cards d l p = applied_cards (stuck_at d l) p (calls_desk d l).station.bits (calls_desk d l).numbers

-- ---- which numbers are there

-- 1 if a car of the garage has the number c; one that waits is not yet a car's
abbrev pub carded : ℕ → Desk → ℕ
carded c d = digit (some 41 (λ j. eqb (get_or d.numbers j 0) c))

-- 1 for a drive-in with the number c that ends and is done; the same of a drive-out
abbrev pub came : ℕ → Desk → DeskCall → ℕ
came c d (request n set) = 0
came c d (reports r) = 0
came c d (event e x) = digit (eqb e 3 && (eqb (desk_answer_number d (event e x)) 0 && (bit d.station.bits drive_in && eqb (numbers_in d.numbers drive_in) c)))
came c d (pictures p n ns) = 0
came c d ask = 0

abbrev pub went : ℕ → Desk → DeskCall → ℕ
went c d (request n set) = 0
went c d (reports r) = 0
went c d (event e x) = digit (eqb e 3 && (eqb (desk_answer_number d (event e x)) 0 && (bit d.station.bits drive_out && eqb (numbers_in d.numbers raised_car) c)))
went c d (pictures p n ns) = 0
went c d ask = 0

-- how often a car with the number c was driven in, and out
abbrev pub driven_in : ℕ → Desk → List DeskCall → ℕ
driven_in c d [] = 0
driven_in c d (x ∷ l) = came c d x + driven_in c (desk_after d x) l

abbrev pub driven_out : ℕ → Desk → List DeskCall → ℕ
driven_out c d [] = 0
driven_out c d (x ∷ l) = went c d x + driven_out c (desk_after d x) l
