-- What the contracts of the engine's private functions cite; no public one rests on it. An instruction as a row of masks over the record,
-- made from its area: what it asks of a record, and what its success changes. The lift's runs have no row. Assumes nothing.
use Rattle.std.specs.Prelude.{Bool, true, false, cond, not, ◌&&◌, ◌||◌, List, [], ◌∷◌, ℕ, ◌+◌, ◌-◌, ◌*◌, ◌/◌, ◌%◌, ◌^◌, eqb}
use Rattle.std.specs.Int.Bits.{bit_and, bit_or}
use Rattle.bits.specs.Bits.{bit, count}
use Rattle.bits.specs.Places.{places}
use Rattle.answers.specs.declared.Reason.{Reason}
use Rattle.answers.specs.declared.Reason.TheVariants.{NothingNamed, Gap, NotAvailable, NotFree, OddCount, HalfMove, NotAtRotation, CellsNotFree}
use Rattle.rules.specs.declared.Instruction.{Instruction}
use Rattle.rules.specs.declared.Instruction.TheVariants.{Belts, Shuttles, Tilt, Lift, Rotate}
use Rattle.rules.specs.declared.Refusal.{Refusal}
use Rattle.std.specs.declared.result.Result.TheVariants.{Ok, Err}
use Rattle.rules.specs.Verdicts.{Verdict}
use Rattle.rules.specs.Named.{step}
use Rattle.areas.specs.Private.{area_mask}

-- ---- what a row asks

-- the bits under a mask are these; an even number of them is 1, where that is asked; never, where this is so
pub data Part : Type 0 where
  look : ℕ → ℕ → Reason → Part
  pairs : Bool → ℕ → Part
  halt : Bool → Reason → Part

-- the reason that is given where it fails
abbrev pub because : Part → Reason
because (look care need why) = why
because (pairs asked m) = OddCount
because (halt b why) = why

-- whether a record passes
abbrev pub passes : Part → ℕ → Bool
passes (look care need why) r = eqb (bit_and r care) need
passes (pairs asked m) r = not (asked && not (eqb (count (places m) (bit r) % 2) 0))
passes (halt b why) r = not b

-- what a record says of a row: it passes all, or the reason of the first that fails
abbrev pub judged_row : List Part → ℕ → Verdict
judged_row [] r = Ok tt
judged_row (p ∷ ps) r = cond (passes p r) (judged_row ps r) (Err (Refusal.NotAllowed (because p)))

-- what looks at the record, in order: these bits are so; there is room, and it is free; and, before the room or after it, pairs
abbrev pub looks_asked : ℕ → ℕ → Reason → Bool → ℕ → ℕ → Reason → List Part
looks_asked care need why early m room late =
    look care need why ∷ pairs early m ∷ halt (eqb room 0) late ∷ look room 0 late ∷ pairs (not early) m ∷ []

-- the bits that are not in a mask
abbrev pub others : ℕ → ℕ
others m = 2 ^ 64 - 1 - m

-- a mask shifted up and then down
abbrev pub shifted : ℕ → ℕ → ℕ → ℕ
shifted m up down = m * 2 ^ up % 2 ^ 64 / 2 ^ down

-- a number of belts or rows has a gap: adding its lowest bit doesn't clear it
abbrev pub gaps : ℕ → Bool
gaps mask = not (eqb (bit_and (mask + bit_and mask (32 - mask)) mask) 0)

-- the cells, slots and lowered slots of an area, its tilted slots, and its cells by row
abbrev pub cells_of_area : ℕ → ℕ
cells_of_area a = bit_and a 0xFFFFFFFFFF

abbrev pub slots_of_area : ℕ → ℕ
slots_of_area a = bit_and a 0xFFF0000000000

abbrev pub lowered_in : ℕ → ℕ
lowered_in a = bit_and a 0x3F0000000000

abbrev pub tilted_in : ℕ → ℕ
tilted_in a = bit_and a 0xFC00000000000

abbrev pub first_in : ℕ → ℕ
first_in a = bit_and a 0xFFFFF

abbrev pub second_in : ℕ → ℕ
second_in a = bit_and a 0x3FF00000

abbrev pub third_in : ℕ → ℕ
third_in a = bit_and a 0xFFC0000000

-- what of a span stays in it, shifted toward d by n
abbrev pub span_within : ℕ → ℕ → ℕ → ℕ
span_within span toward n = bit_and span (shifted span ((1 - toward) * n) (toward * n))

-- slots and the lift's height are as needed; the end of the span is its room; row 1 holds pairs
abbrev pub belts_row : ℕ → ℕ → ℕ → ℕ → ℕ → List Part
belts_row a row mask toward size =
    halt (not (eqb row 1 || eqb size 1)) HalfMove
    ∷ halt (eqb mask 0) NothingNamed
    ∷ halt (gaps mask) Gap
    ∷ looks_asked (bit_and a 0x6FFF0000000000) (bit_and a 0x4FFF0000000000) NotAvailable false (first_in a)
    (bit_and (cells_of_area a) (others (span_within (cells_of_area a) toward (step row size)))) NotFree

-- the named slots are set; a shuttle of row 1 has a pair; the slot that is moved into is the room
abbrev pub named_slots : ℕ → ℕ → ℕ → ℕ
named_slots side mask orientation = mask * 2 ^ (40 + orientation * 6 + side * 3) % 2 ^ 64

abbrev pub shuttles_row : ℕ → ℕ → ℕ → ℕ → List Part
shuttles_row a side mask orientation =
    let named : ℕ = named_slots side mask orientation in
    halt (eqb mask 0) NothingNamed
    ∷ halt (eqb mask 5) Gap
    ∷ looks_asked named named NotAvailable true (mask % 2 * first_in a) (bit_and (slots_of_area a) (others named)) NotFree

abbrev pub tilt_row : ℕ → ℕ → List Part
tilt_row a orientation =
    cond (eqb orientation 0)
    (looks_asked (lowered_in a) (lowered_in a) NotAvailable false 0 (cells_of_area a) CellsNotFree)
    (looks_asked (tilted_in a) (tilted_in a) NotAvailable false 0 (lowered_in a) NotFree)

abbrev pub rotate_row : List Part
rotate_row = looks_asked 0x60000000000000 0x20000000000000 NotAtRotation false 0 0xE700 CellsNotFree

unfoldable pub mask_row : Instruction → List Part
mask_row (Belts row mask toward size) = belts_row (area_mask (Belts row mask toward size)) row mask toward size
mask_row (Shuttles side mask orientation toward) = shuttles_row (area_mask (Shuttles side mask orientation toward)) side mask orientation
mask_row (Tilt side row orientation) = tilt_row (area_mask (Tilt side row orientation)) orientation
mask_row (Lift height) = []
mask_row Rotate = rotate_row

-- the belts or rows that it names leave no gap
abbrev pub whole : Instruction → Bool
whole (Belts row mask toward size) = not (gaps mask)
whole (Shuttles side mask orientation toward) = not (eqb mask 5)
whole (Tilt side row orientation) = true
whole (Lift height) = true
whole Rotate = true

-- ---- what a success changes

-- bits that stay; that are 1; that are shifted up or down; and those that are 1 where all of some others are, twice
pub record Move : Type 0 where
  pub keep : ℕ
  pub new : ℕ
  pub movers : ℕ
  pub up : ℕ
  pub down : ℕ
  pub from_a : ℕ
  pub to_a : ℕ
  pub from_b : ℕ
  pub to_b : ℕ

-- what a car becomes: all of these bits, if there are any, become those
abbrev pub carried_bits : ℕ → ℕ → ℕ → ℕ
carried_bits r from to = cond (eqb (bit_and r from) from && not (eqb from 0)) to 0

abbrev pub move_row : Move → ℕ → ℕ
move_row m r =
    bit_or (bit_and r m.keep)
    (bit_or m.new
    (bit_or (shifted (bit_and r m.movers) m.up m.down)
    (bit_or (carried_bits r m.from_a m.to_a) (carried_bits r m.from_b m.to_b))))

-- cells of a span shift inside it
abbrev pub belts_move : ℕ → ℕ → ℕ → ℕ → Move
belts_move a row toward size =
    let n : ℕ = step row size in
    record {
      keep = others (cells_of_area a);
      new = 0;
      movers = span_within (cells_of_area a) toward n;
      up = toward * n;
      down = (1 - toward) * n;
      from_a = 0;
      to_a = 0;
      from_b = 0;
      to_b = 0;
    }

-- slots shift by one, and the cars of lowered shuttles go from row to row
abbrev pub shuttles_move : ℕ → ℕ → Move
shuttles_move a toward =
    let d : Bool = eqb toward 1 in
    record {
      keep = others a;
      new = 0;
      movers = span_within (slots_of_area a) toward 1;
      up = toward;
      down = 1 - toward;
      from_a = cond d (first_in a) (second_in a);
      to_a = cond d (second_in a) (first_in a);
      from_b = cond d (second_in a) (third_in a);
      to_b = cond d (third_in a) (second_in a);
    }

-- the tilted slot and the lowered one six bits below it change places
abbrev pub tilt_move : ℕ → ℕ → Move
tilt_move a orientation =
    let t : ℕ = tilted_in a in
    record {
      keep = others (bit_or t (t / 64));
      new = cond (eqb orientation 0) t (t / 64);
      movers = 0;
      up = 0;
      down = 0;
      from_a = 0;
      to_a = 0;
      from_b = 0;
      to_b = 0;
    }

-- nothing changes
abbrev pub no_move : Move
no_move = record { keep = others 0; new = 0; movers = 0; up = 0; down = 0; from_a = 0; to_a = 0; from_b = 0; to_b = 0 }

unfoldable pub move_of : Instruction → Move
move_of (Belts row mask toward size) = belts_move (area_mask (Belts row mask toward size)) row toward size
move_of (Shuttles side mask orientation toward) = shuttles_move (area_mask (Shuttles side mask orientation toward)) toward
move_of (Tilt side row orientation) = tilt_move (area_mask (Tilt side row orientation)) orientation
move_of (Lift height) = no_move
move_of Rotate = no_move
