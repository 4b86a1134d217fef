-- What document 01's list of easy mistakes would let through, computed from the definitions. (Its examples P1 to P12 are one table, in
-- the crate `examples`.) Images are written as one number, highest byte first. Assumes nothing.
use mathlib.Core.Path.{◌≡◌, refl}
use mathlib.Core.Bool.{true, false}
use Prim.Native.Nat.{ℕ}
use lib.Dec.{T}
use Rattle.bits.specs.Bits.{bit, packed, image}
use Rattle.rules.specs.declared.Instruction.{Instruction}
use Rattle.rules.specs.declared.Instruction.TheVariants.{Belts, Shuttles, Tilt, Lift, Rotate}
use Rattle.rules.specs.Rules.{allowed, next_record}
use Rattle.rules.proofs.Frame.{framed}

-- the instruction is allowed on one image, and gives the other
abbrev pub Gives : ℕ → Instruction → ℕ → Type 0
Gives r i s = (allowed i (bit r) ≡ true) × (image (next_record i (bit r)) ≡ s)

-- the instruction is not allowed on an image
abbrev pub Refused : ℕ → Instruction → Type 0
Refused r i = allowed i (bit r) ≡ false

-- two cars, each half on the lift: testing the lift's own two cells for evenness would let it go
pub two_cars_torn : Refused 0x00491B0000003C00 (Lift 0) × Refused 0x00491B0000003C00 (Lift 1)
unfolding allowed
two_cars_torn = (refl, refl)

-- a shuttle brings a car from row 2 into row 1: both halves are filled
pub two_halves : Gives 0x00085E0000100000 (Shuttles 0 6 0 0) 0x00085B0000000003
unfolding allowed next_record packed
two_halves = (refl, refl)

-- one free cell at the end is enough for a half move in row 1, and not for a full one, in either direction
pub full_needs_two :
    Gives 0x00491B0000000018 (Belts 1 6 0 0) 0x00491B000000000C
    × Refused 0x00491B0000000018 (Belts 1 6 0 1)
    × Refused 0x00491B0000000C00 (Belts 1 6 1 1)
unfolding allowed next_record packed
full_needs_two = ((refl, refl), refl, refl)

-- a belt under half a car doesn't move
pub half_a_car : Refused 0x00491B0000000C00 (Belts 1 2 0 0)
unfolding allowed
half_a_car = refl

-- a shuttle is tilted where all three of its side are lowered, and not where two are
pub three_lowered : Gives 0x00003F0000000000 (Tilt 0 3 0) 0x00013B0000000000 × Refused 0x00091B0000000000 (Tilt 0 1 0)
unfolding allowed next_record packed
three_lowered = ((refl, refl), refl)

-- cells that are read belong to the area: the lift's own two, those that it turns over, and those of a shuttle's position
pub lift_reads : T (framed (Lift 1))
lift_reads = tt

pub rotate_reads : T (framed Rotate)
rotate_reads = tt

pub tilt_reads : T (framed (Tilt 0 1 0))
tilt_reads = tt
