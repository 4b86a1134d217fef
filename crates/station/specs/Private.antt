-- What the contracts of private functions cite; no public one rests on it. Assumes nothing.
use Rattle.std.specs.Prelude.{◌≡◌, ℕ, zero, suc, ◌/◌, ◌%◌, Bool, true, false, cond, ◌&&◌, List, ◌==◌, bit_or}
use Rattle.bits.specs.Bits.{image}
use Rattle.bits.specs.Search.{least}
use Rattle.bits.specs.Places.{elem}
use Rattle.rules.specs.declared.Instruction.{Instruction}
use Rattle.rules.specs.declared.Instruction.TheVariants.{Belts, Shuttles, Tilt, Lift, Rotate}
use Rattle.rules.specs.declared.Code.{Code}
use Rattle.std.specs.declared.option.Option.{Option}
use Rattle.std.specs.declared.option.Option.TheVariants.{Some, None}
use Rattle.station.specs.declared.Station.{Station}
use Rattle.station.specs.declared.sets.Faults.{Faults}
use Rattle.station.specs.Held.{code_at, held_area, touches, overlaps_earlier, barred, lift_in}

-- the area of an instruction as a mask
unfoldable pub held_mask : Code → ℕ
held_mask x = image (λ k. elem k (held_area x))

-- all areas of the first n instructions, as one mask
unfoldable pub areas : List ℕ → ℕ → ℕ
areas set zero = 0
areas set (suc n) = bit_or (areas set n) (held_mask (code_at set n))

-- a well-formed instruction has the lift in its area: the lift's belt, its runs, and turns
abbrev pub lifts_in : Instruction → Bool
lifts_in (Belts row mask toward size) = row == 1 && mask / 4 % 2 == 1
lifts_in (Shuttles side mask orientation toward) = false
lifts_in (Tilt side row orientation) = false
lifts_in (Lift height) = true
lifts_in Rotate = true

-- the mask that an answer gives, or none
abbrev pub mask_in : (Option ℕ) → ℕ
mask_in (Some m) = m
mask_in None = 0

-- a search that found something, or n: it is i where it found nothing before and i is at fault
abbrev pub first_of : ℕ → ℕ → Bool → ℕ → ℕ
first_of found n here i = cond (here && found == n) i found

-- what a search through a set of n has found for a request
pub record FaultsOf (s : Station) (n : ℕ) (set : List ℕ) (found : Faults) : Type 0 where
  pub touching : found.touching ≡ least n (touches set s.apart)
  pub overlap : found.overlap ≡ least n (overlaps_earlier set)
  pub barred : found.barred ≡ least n (barred set s.bits)
  pub lift : found.lift ≡ lift_in set n
