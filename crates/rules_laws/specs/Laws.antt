-- The laws that make sets safe, in document 01's words: what an instruction reads and writes, that it keeps records sound and
-- the number of cars, and the same of car events. A record is any bits, sound or not, unless the law says otherwise. Assumes nothing.
use Rattle.std.specs.Prelude.{◌≡◌, ◌⊎◌, Bool, true, false, ◌++◌, ℕ, ◌+◌}
use Rattle.bits.specs.Bits.{Bits, bit, digit}
use Rattle.bits.specs.Places.{elem, share}
use Rattle.floor.specs.Floor.{lift, drive_in, drive_out, drives}
use Rattle.floor.specs.Tests.{holds, under_way}
use Rattle.floor.specs.Cars.{cars}
use Rattle.floor.specs.Sound.{Sound}
use Rattle.rules.specs.declared.Instruction.{Instruction}
use Rattle.rules.specs.declared.Instruction.TheVariants.{Belts, Shuttles, Tilt, Lift, Rotate}
use Rattle.rules.specs.declared.Event.{Event}
use Rattle.rules.specs.declared.Event.TheVariants.{BeginIn, BeginOut, EndDone, EndNotDone}
use Rattle.rules.specs.Named.{lift_named}
use Rattle.rules.specs.Rules.{well_formed, area_of, area, overlap, sides, seen, allowed, next_record}
use Rattle.rules.specs.Events.{in_turn, possible, after_event}
use Rattle.rules.specs.Verdicts.{verdict_of}

-- ---- areas

-- two records that agree on some places
abbrev pub Agree : Bits → Bits → Bits → Type 0
Agree places f g = (k : ℕ) → places k ≡ true → f k ≡ g k

-- on two records that agree on its area and, for a lift run, on whether each side's count is even, an instruction gets the same verdict
abbrev pub SameVerdict : Type 0
SameVerdict = (i : Instruction) (f g : Bits) → Agree (area i) f g → seen i f ≡ seen i g → allowed i f ≡ allowed i g

-- on two records that agree on its area and, for a lift run, on whether each side's count is even, an instruction that isn't allowed has
-- the same reason
abbrev pub SameReason : Type 0
SameReason = (i : Instruction) (r q : ℕ) → Agree (area i) (bit r) (bit q) → seen i (bit r) ≡ seen i (bit q) → verdict_of i r ≡ verdict_of i q

-- on two records that agree on its area, a well-formed instruction leaves the same bits there
abbrev pub SameBits : Type 0
SameBits = (i : Instruction) → well_formed i ≡ true → (f g : Bits) → Agree (area i) f g → Agree (area i) (next_record i f) (next_record i g)

-- a well-formed instruction changes nothing outside its area
abbrev pub KeptOutside : Type 0
KeptOutside = (i : Instruction) → well_formed i ≡ true → (f : Bits) (k : ℕ) → area i k ≡ false → next_record i f k ≡ f k

-- belt runs that name the lift belt, lift runs and rotations
abbrev pub with_lift : Instruction → Bool
with_lift (Belts row mask toward size) = lift_named row mask
with_lift (Shuttles side mask orientation toward) = false
with_lift (Tilt side row orientation) = false
with_lift (Lift height) = true
with_lift Rotate = true

-- of the well-formed instructions those that have the lift in their area, and no others, overlap a lift run
abbrev pub LiftOverlaps : Type 0
LiftOverlaps = (i : Instruction) (height : ℕ) → well_formed i ≡ true → overlap i (Lift height) ≡ with_lift i

-- an instruction that doesn't overlap a lift run, allowed on a sound record, leaves each side's count even or odd, as it was
abbrev pub SidesKept : Type 0
SidesKept =
    (i : Instruction) (height : ℕ) → overlap i (Lift height) ≡ false
    → (f : Bits) → Sound f → allowed i f ≡ true → sides (next_record i f) ≡ sides f

-- the record must be sound: there is one, and an instruction allowed on it that doesn't overlap a lift run, where a count turns
pub record SidesNeedSound : Type 0 where
  pub bits : Bits
  pub instruction : Instruction
  pub apart : (height : ℕ) → overlap instruction (Lift height) ≡ false
  pub goes : allowed instruction bits ≡ true
  pub changes : sides (next_record instruction bits) ≡ sides bits → ⊥

-- the lift's bits and the drives'
abbrev pub lift_area : Bits
lift_area k = elem k (lift ++ drives)

-- a car event reads and writes these bits only: the same three laws, with the lift for its area; and they say whether it comes in turn
pub record EventsLocal : Type 0 where
  pub same_verdict : (e : Event) (f g : Bits) → Agree lift_area f g → possible e f ≡ possible e g
  pub same_turn : (e : Event) (f g : Bits) → Agree lift_area f g → in_turn e f ≡ in_turn e g
  pub same_bits : (e : Event) (f g : Bits) → Agree lift_area f g → Agree lift_area (after_event e f) (after_event e g)
  pub kept_outside : (e : Event) (f : Bits) (k : ℕ) → lift_area k ≡ false → after_event e f k ≡ f k

-- ---- sound records and cars

-- no drive is under way, or the lift is not in the instruction's area
abbrev pub Clear : Instruction → Bits → Type 0
Clear i f = (holds under_way f ≡ false) ⊎ (share (area_of i) lift ≡ false)

-- an allowed instruction that is clear of drives makes a sound record of a sound record
abbrev pub StaysSound : Type 0
StaysSound = (i : Instruction) (f : Bits) → Sound f → Clear i f → allowed i f ≡ true → Sound (next_record i f)

-- an allowed one keeps the number of cars, clear of drives or not
abbrev pub SameCars : Type 0
SameCars = (i : Instruction) (f : Bits) → Sound f → allowed i f ≡ true → cars (next_record i f) ≡ cars f

-- a possible event makes a sound record of a sound record
abbrev pub EventSound : Type 0
EventSound = (e : Event) (f : Bits) → Sound f → possible e f ≡ true → Sound (after_event e f)

-- n cars after an event on the record f, m before it: an end that is done makes one more of a drive-in, one less of a drive-out
abbrev pub CarsAfterEvent : Event → Bits → ℕ → ℕ → Type 0
CarsAfterEvent BeginIn f n m = n ≡ m
CarsAfterEvent BeginOut f n m = n ≡ m
CarsAfterEvent EndDone f n m = n + digit (f drive_out) ≡ m + digit (f drive_in)
CarsAfterEvent EndNotDone f n m = n ≡ m

-- a possible event on a sound record makes one car more at the done end of a drive-in, one less at that of a drive-out, and else none
abbrev pub EventCars : Type 0
EventCars = (e : Event) (f : Bits) → Sound f → possible e f ≡ true → CarsAfterEvent e f (cars (after_event e f)) (cars f)
