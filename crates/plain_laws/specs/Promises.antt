-- What is promised of the plain engine: on every sound record it says what the packed one says, and its walk lists the cars of a layout.
-- Each is proved in proofs/. Assumes nothing.
use Rattle.std.specs.Prelude.{◌≡◌, true, List, ℕ, ◌^◌, ◌<◌}
use Rattle.bits.specs.Bits.{Bits, bit, image}
use Rattle.std.specs.declared.option.Option.{Option}
use Rattle.std.specs.declared.option.Option.TheVariants.{Some}
use Rattle.floor.specs.Cars.{Layout}
use Rattle.floor.specs.Sound.{Sound, sound, total}
use Rattle.cars.specs.Lists.{Rising}
use Rattle.rules.specs.declared.Instruction.{Instruction}
use Rattle.rules.specs.declared.Refusal.{Refusal}
use Rattle.std.specs.declared.result.Result.{Result}
use Rattle.rules.specs.Rules.{well_formed, overlap}
use Rattle.rules.specs.Verdicts.{Verdict, verdict_of, moved_of, moved_by}
use Rattle.station.specs.declared.Station.{Station}
use Rattle.station.specs.declared.Report.{Report}
use Rattle.station.specs.Station.{fit}
use Rattle.station.specs.Calls.{requested, evented, resulted}
use Rattle.plain.specs.Plain.{plain_bits, floor_of}
use Rattle.plain.specs.Conditions.{verdict_on}
use Rattle.plain.specs.Walks.{walked, walk_of}
use Rattle.plain_moves.specs.Moves.{moved_floor, area_parts, meeting}
use Rattle.plain_station.specs.Plain.{packed_of, plain_of, packed_outcome, plain_requested, plain_evented, plain_resulted}

-- ---- records and stations cross over

-- a sound record of 64 bits
abbrev pub SoundRecord : ℕ → Type 0
SoundRecord r = (r < 2 ^ 64) × (sound r ≡ true)

-- a sound record comes back from its plain floor
abbrev pub FloorReadsBack : Type 0
FloorReadsBack = (r : ℕ) → SoundRecord r → image (plain_bits (floor_of (bit r))) ≡ r

-- a station with such a record: it has a mark for each of eight instructions, and sets apart none but the 53 parts that there are
pub record SoundStation (s : Station) : Type 0 where
  pub keeps : SoundRecord s.bits
  pub marks : s.answered < 2 ^ 8
  pub apart : s.apart < 2 ^ 53

-- every fit station, as code holds it, has a sound record, marks of eight instructions, and sets apart none but the 53 parts that there are
abbrev pub FitIsSound : Type 0
FitIsSound = (s : Station) → s.bits < 2 ^ 64 → s.answered < 2 ^ 8 → fit s ≡ true → SoundStation s

-- a station with a sound record, marks of eight instructions and none but the 53 parts set apart comes back from its plain station
abbrev pub StationComesBack : Type 0
StationComesBack = (s : Station) → SoundStation s → packed_of (plain_of s) ≡ s

-- ---- the same as the packed engine

-- what the plain engine makes of the record r: its verdict on an instruction; the record after it, where it is allowed; how many cars a
-- walk over it counts
abbrev pub plain_verdict : Instruction → ℕ → Verdict
plain_verdict i r = verdict_on i (plain_bits (floor_of (bit r)))

abbrev pub plain_moved : Instruction → ℕ → Result ℕ Refusal
plain_moved i r = moved_by (plain_verdict i r) (image (plain_bits (moved_floor i (floor_of (bit r)))))

abbrev pub plain_total : ℕ → Option ℕ
plain_total r = Some (walk_of (walked (plain_bits (floor_of (bit r))))).count

-- the two engines say the same. On every sound record: of an instruction the verdict with its reason, and the next record; of two whether
-- they overlap; how many cars there are. On every station with a sound record, fit or not: of a set, a result and a car event the answer
-- with its number, reason and place, the next record, what is set apart, and all else that a station holds
pub record Same : Type 0 where
  pub verdict : (i : Instruction) (r : ℕ) → SoundRecord r → plain_verdict i r ≡ verdict_of i r
  pub next : (i : Instruction) (r : ℕ) → SoundRecord r → plain_moved i r ≡ moved_of i r
  pub areas : (i j : Instruction) → well_formed i ≡ true → well_formed j ≡ true → meeting (area_parts i) (area_parts j) ≡ overlap i j
  pub cars : (r : ℕ) → SoundRecord r → plain_total r ≡ total r
  pub set : (s : Station) (n : ℕ) (l : List ℕ) → SoundStation s → packed_outcome (plain_requested (plain_of s) n l) ≡ requested s n l
  pub result : (s : Station) (r : Report) → SoundStation s → packed_outcome (plain_resulted (plain_of s) r) ≡ resulted s r
  pub event : (s : Station) (e : ℕ) → SoundStation s → packed_outcome (plain_evented (plain_of s) e) ≡ evented s e

-- the plain engine and the packed one say the same on every sound record, of instructions, sets, results and events
abbrev pub SameAsPacked : Type 0
SameAsPacked = Same

-- ---- cars

-- the cars that a walk lists are a layout of a sound record
abbrev pub CarsWalked : Type 0
CarsWalked = (f : Bits) → Sound f → Layout f (walked f)

-- the cars that a walk lists are in the order of their places, the raised lift last, whatever the record
abbrev pub WalkRises : Type 0
WalkRises = (f : Bits) → Rising (walked f)
