-- The way back: whatever has happened, at most ten calls lead to a garage that is known again, and until then exactly the areas of what got
-- stuck are set apart. Read from the top; it ends in NeverLocksUp and ApartExactly, proved in proofs/Recovery.antt. Assumes nothing.
use Rattle.std.specs.Prelude.{◌≡◌, ◌↔◌, true, List, [], ◌∷◌, ◌++◌, ℕ, ◌≤◌, ◌<◌, length}
use Rattle.bits.specs.Bits.{bit}
use Rattle.floor.specs.Tests.{holds, under_way}
use Rattle.floor.specs.Sound.{Sound}
use Rattle.rules.specs.declared.Event.TheVariants.{EndDone, EndNotDone}
use Rattle.rules.specs.Codes.{event_code, most_in_set}
use Rattle.answers.specs.declared.Answer.TheVariants.{Taken}
use Rattle.answers.specs.Answers.{number_of}
use Rattle.station.specs.declared.Station.{Station}
use Rattle.station.specs.Held.{held_area, parts_in}
use Rattle.station.specs.Station.{start_of, present_issue}
use Rattle.station_laws.specs.Runs.{Call, result_call, event, image_call, answer_number, station_after, calls, Begins}
use Rattle.station_laws.specs.Orders.{Fate, fate_number}
use Rattle.station_laws.specs.Jams.{stuck, jam_at}
use Rattle.station_laws.specs.Motion.{AllWaiting}

-- ---- the way back

-- each of these calls is accepted at its turn
abbrev pub AllAccepted : Station → List Call → Type 0
AllAccepted s [] = Unit {0}
AllAccepted s (c ∷ l) = (answer_number s c ≡ number_of Taken) × AllAccepted (station_after s c) l

-- the results of instructions in an order, under the issue of their set; each says its instruction's fate: 0 failed, 1 done, 2 stuck
abbrev pub results_for : ℕ → (ℕ → Fate) → List ℕ → List Call
results_for issue fate [] = []
results_for issue fate (i ∷ order) = result_call issue i (fate_number (fate i)) ∷ results_for issue fate order

-- what is said of a drive: nothing, or, where one is under way, that it ended and was done, or ended and was not done
pub data SaidOfDrive (s : Station) : List Call → Type 0 where
  nothing : SaidOfDrive s []
  done : holds under_way (bit s.bits) ≡ true → SaidOfDrive s (event (event_code EndDone) ∷ [])
  not_done : holds under_way (bit s.bits) ≡ true → SaidOfDrive s (event (event_code EndNotDone) ∷ [])

-- the most calls that lead back: the results of eight instructions, the end of a drive, an image
abbrev pub most_calls : ℕ
most_calls = 10

-- these calls, and then an image with this record and nothing set apart, lead back to a garage that is known: they are at most ten, each is
-- accepted at its turn, no set is outstanding when the image comes, and after it the record is the image's, no set is outstanding and
-- nothing is set apart
pub record LeadBack (s : Station) (l : List Call) (r : ℕ) : Type 0 where
  pub few : length (l ++ (image_call r 0 ∷ [])) ≤ most_calls
  pub accepted : AllAccepted s (l ++ (image_call r 0 ∷ []))
  pub closed : (calls s l).count ≡ 0
  pub seen : (calls s (l ++ (image_call r 0 ∷ []))).bits ≡ r
  pub idle : (calls s (l ++ (image_call r 0 ∷ []))).count ≡ 0
  pub none_apart : (calls s (l ++ (image_call r 0 ∷ []))).apart ≡ 0

-- there is a way back from a station: what waits can be put in an order; and in every order, with every fate of each instruction, and a
-- drive ended before, between or after them, done or not done, or left as it is, the results and every sound image lead back
abbrev pub HasWayBack : Station → Type 0
HasWayBack t =
    ((order : List ℕ) × AllWaiting t order)
    × ((first rest : List ℕ) (fate : ℕ → Fate) (drive : List Call) (r : ℕ)
    → AllWaiting t (first ++ rest) → SaidOfDrive t drive → Sound (bit r)
    → LeadBack t (results_for (present_issue t) fate first ++ (drive ++ results_for (present_issue t) fate rest)) r)

-- whatever calls came before, images too, there is a way back to a garage that is known
abbrev pub NeverLocksUp : Type 0
NeverLocksUp = (s : Station) → Begins s → (l : List Call) → HasWayBack (calls s l)

-- the bound is met: from the start, eight instructions can wait while a drive is under way, and then these calls are ten
abbrev pub TenAreReached : Type 0
TenAreReached =
    (l : List Call) × (order : List ℕ) × AllWaiting (calls start_of l) order × (length order ≡ most_in_set)
    × (holds under_way (bit (calls start_of l).bits) ≡ true)

-- ---- what is set apart

-- whatever calls came before, images too: a place is set apart exactly if it is in the area of an instruction that got stuck since the last
-- image that was accepted (below 52 the places of cells and slots, 52 for the lift, none above)
abbrev pub ApartExactly : Type 0
ApartExactly =
    (s : Station) → Begins s → (l : List Call) (k : ℕ)
    → (bit (calls s l).apart k ≡ true)
    ↔ ((j : ℕ) × (j < length (stuck s l)) × (parts_in (held_area (jam_at (stuck s l) j)) k ≡ true))
