-- What an instruction or a car event makes of a plain floor, and the parts of the garage that an instruction takes. Assumes nothing.
use Rattle.std.specs.Prelude.{Bool, true, false, cond, ◌&&◌, ◌||◌, List, [], ℕ, ◌+◌, ◌-◌, eqb, ltb, get_or}
use Rattle.bits.specs.Bits.{Bits}
use Rattle.bits.specs.Places.{elem, share}
use Rattle.bits.specs.Search.{some}
use Rattle.floor.specs.Floor.{raised_car, lift}
use Rattle.rules.specs.declared.Instruction.{Instruction}
use Rattle.rules.specs.declared.Event.{Event}
use Rattle.rules.specs.declared.Event.TheVariants.{BeginIn, BeginOut, EndDone, EndNotDone}
use Rattle.rules.specs.Rules.{well_formed, area_of, allowed, next_record}
use Rattle.rules.specs.Events.{filled, after_event}
use Rattle.plain.specs.declared.Floor.{Floor}
use Rattle.plain.specs.Plain.{listed, plain_bits, floor_of}
use Rattle.plain_moves.specs.declared.Parts.{Parts}

-- ---- floors

-- the floor after an instruction, where it is allowed; else the floor as it was
unfoldable pub moved_floor : Instruction → Floor → Floor
moved_floor i f = cond (allowed i (plain_bits f)) (floor_of (next_record i (plain_bits f))) f

-- the floor after a car event
unfoldable pub driven_floor : Event → Floor → Floor
driven_floor e f = floor_of (after_event e (plain_bits f))

-- a drive-in begins only while fewer cars are there than the garage is filled with; no other event is asked
abbrev pub opens_with : Event → ℕ → Bool
opens_with BeginIn n = ltb n filled
opens_with BeginOut n = true
opens_with EndDone n = true
opens_with EndNotDone n = true

-- ---- parts

-- the bits that parts stand for: the lift is one, the raised lift's
unfoldable pub parts_bits : Parts → Bits
parts_bits p k =
    cond (ltb k 40) (get_or p.cells k false)
    (cond (ltb k 52) (get_or p.slots (k - 40) false)
    (eqb k raised_car && p.lift))

-- the parts that bits show
unfoldable pub parts_of : Bits → Parts
parts_of f = record { cells = listed 40 f; slots = listed 12 (λ j. f (40 + j)); lift = f raised_car }

-- the parts of some places: any bit of the lift is the lift
unfoldable pub parts_at : List ℕ → Parts
parts_at ks =
    record {
      cells = listed 40 (λ k. elem k ks);
      slots = listed 12 (λ j. elem (40 + j) ks);
      lift = share ks lift;
    }

-- the parts that an instruction takes: its area; an ill-formed one takes none
unfoldable pub area_parts : Instruction → Parts
area_parts i = parts_at (cond (well_formed i) (area_of i) [])

-- two have a part in common
unfoldable pub meeting : Parts → Parts → Bool
meeting p q = some 53 (λ k. parts_bits p k && parts_bits q k)

-- all parts of both
unfoldable pub together : Parts → Parts → Parts
together p q = parts_of (λ k. parts_bits p k || parts_bits q k)
