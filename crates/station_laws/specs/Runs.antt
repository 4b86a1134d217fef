-- A call of the station, lists of calls, each on the station that the last one left, and the stations that are reached so.
-- Assumes nothing.
use Rattle.std.specs.Prelude.{◌≡◌, Bool, false, cond, ◌&&◌, List, [], ◌∷◌, ℕ, ◌+◌, ◌^◌, ◌<◌, eqb}
use Rattle.bits.specs.Bits.{bit, digit}
use Rattle.floor.specs.Floor.{drive_in, drive_out}
use Rattle.answers.specs.Answers.{number_of, place_of, issue_of}
use Rattle.station.specs.declared.Station.{Station}
use Rattle.station.specs.declared.Outcome.{Outcome}
use Rattle.station.specs.declared.Report.{Report}
use Rattle.station.specs.declared.Picture.{Picture}
use Rattle.station.specs.Station.{start_of}
use Rattle.station.specs.Calls as station

-- a request of so many instructions by their bytes; the result of an instruction; a car event; an image; the record asked for
pub data Call : Type 0 where
  request : ℕ → List ℕ → Call
  reports : Report → Call
  event : ℕ → Call
  pictures : Picture → Call
  ask : Call

-- a result by its numbers, the issue first; an image by its record and what it says is set apart
abbrev pub result_call : ℕ → ℕ → ℕ → Call
result_call k i ending = reports (record { issue = k; number = i; ending = ending })

abbrev pub image_call : ℕ → ℕ → Call
image_call r apart = pictures (record { bits = r; apart = apart })

-- what a call hands back: the functions that the contracts of the code cite
abbrev pub call : Station → Call → Outcome
call s (request n set) = station.request s n set
call s (reports r) = station.result s r
call s (event e) = station.event s e
call s (pictures p) = station.take_image s p
call s ask = station.ask s

-- the number that it is answered with, and the station that it leaves
abbrev pub answer_number : Station → Call → ℕ
answer_number s c = number_of (call s c).answer

abbrev pub station_after : Station → Call → Station
station_after s c = (call s c).station

-- the place that it is answered with
abbrev pub fault_index : Station → Call → ℕ
fault_index s c = place_of (call s c).answer

-- the issue that its answer carries
abbrev pub issue_carried : Station → Call → ℕ
issue_carried s c = issue_of (call s c).answer

-- it is a request that is taken
abbrev pub opens : Station → Call → Bool
opens s (request n set) = eqb (answer_number s (request n set)) 0
opens s (reports r) = false
opens s (event e) = false
opens s (pictures p) = false
opens s ask = false

-- the station after several calls
abbrev pub calls : Station → List Call → Station
calls s [] = s
calls s (c ∷ l) = calls (station_after s c) l

-- how many sets they open
abbrev pub sets_opened : Station → List Call → ℕ
sets_opened s [] = 0
sets_opened s (c ∷ l) = digit (opens s c) + sets_opened (station_after s c) l

-- where it begins: the start, or an image of 64 bits that was taken
pub data Begins : Station → Type 0 where
  at_start : Begins start_of
  by_image : (before : Station) (r apart : ℕ) → r < 2 ^ 64 → answer_number before (image_call r apart) ≡ 0 → Begins (station_after before (image_call r apart))

-- calls but an image
abbrev pub NoImages : List Call → Type 0
NoImages [] = Unit {0}
NoImages (request n set ∷ l) = NoImages l
NoImages (reports r ∷ l) = NoImages l
NoImages (event e ∷ l) = NoImages l
NoImages (pictures p ∷ l) = ⊥
NoImages (ask ∷ l) = NoImages l

-- a station reached from there by such calls
pub record Reached (s : Station) : Type 0 where
  pub origin : Station
  pub begins : Begins origin
  pub since : List Call
  pub no_images : NoImages since
  pub here : s ≡ calls origin since

-- the bit that says that a drive in (way 1) or out (way 2) is under way
abbrev pub drive_at : ℕ → ℕ
drive_at way = cond (eqb way 1) drive_in drive_out

-- 1 for such a drive that ends and is done
abbrev pub drove : ℕ → Station → Call → ℕ
drove way s (request n set) = 0
drove way s (reports r) = 0
drove way s (event e) = digit (eqb e 3 && (eqb (answer_number s (event e)) 0 && bit s.bits (drive_at way)))
drove way s (pictures p) = 0
drove way s ask = 0

-- how many cars were driven in (way 1) or out (way 2)
abbrev pub cars_driven : ℕ → Station → List Call → ℕ
cars_driven way s [] = 0
cars_driven way s (c ∷ l) = drove way s c + cars_driven way (station_after s c) l
