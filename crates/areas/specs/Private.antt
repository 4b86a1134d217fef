-- What the contracts of private functions cite; no public one rests on it. The areas as numbers, as the code puts them together: a
-- mask's bit picks a belt or a row, and the number beside it is the places of that belt or row. Assumes nothing.
use Rattle.std.specs.Prelude.{cond, ℕ, ◌*◌, ◌/◌, ◌%◌, eqb}
use Rattle.std.specs.Int.Bits.{bit_or}
use Rattle.rules.specs.declared.Instruction.{Instruction}
use Rattle.rules.specs.declared.Instruction.TheVariants.{Belts, Shuttles, Tilt, Lift, Rotate}

-- three parts, picked by the three lowest bits of a mask
abbrev pub three : ℕ → ℕ → ℕ → ℕ → ℕ
three m a b c = bit_or (bit_or (m % 2 * a) (m / 2 % 2 * b)) (m / 4 % 2 * c)

-- belts by row
unfoldable pub belts_mask : ℕ → ℕ → ℕ
belts_mask row m =
    cond (eqb row 1) (bit_or (bit_or (three m 0x10000000003 0x7FC 0x70000000001800) (m / 8 % 2 * 0x3E000)) (m / 16 % 2 * 0x800000C0000))
    (cond (eqb row 2) (three m 0x20000100000 0x1FE00000 0x100020000000)
    (three m 0x40040000000 0x7F80000000 0x208000000000))

-- the rows of a mask with the row next to each
unfoldable pub rows_mask : ℕ → ℕ → ℕ
rows_mask m toward = cond (eqb toward 1) (bit_or m (m * 2) % 8) (bit_or m (m / 2) % 8)

-- a side's positions in given rows: lowered slots and cells
unfoldable pub positions : ℕ → ℕ → ℕ
positions side rows =
    cond (eqb side 0) (three rows 0x10000000003 0x20000100000 0x40040000000)
    (three rows 0x800000C0000 0x100020000000 0x208000000000)

-- its tilted slots there
unfoldable pub tilted_slots : ℕ → ℕ → ℕ
tilted_slots side rows = cond (eqb side 0) (rows % 8 * 0x400000000000) (rows % 8 * 0x2000000000000)

-- a side's position in a row, with its tilted slot
unfoldable pub corner : ℕ → ℕ → ℕ
corner side row =
    cond (eqb side 0) (cond (eqb row 1) 0x410000000003 (cond (eqb row 2) 0x820000100000 0x1040040000000))
    (cond (eqb row 1) 0x20800000C0000 (cond (eqb row 2) 0x4100020000000 0x8208000000000))

-- lowered: the positions of the rows moved; tilted: their tilted slots
unfoldable pub shuttles_mask : ℕ → ℕ → ℕ → ℕ → ℕ
shuttles_mask side mask orientation toward =
    cond (eqb orientation 0) (positions side (rows_mask mask toward)) (tilted_slots side (rows_mask mask toward))

-- both slots and the cells of the position; from lowered also the side's lowered slots
unfoldable pub tilt_mask : ℕ → ℕ → ℕ → ℕ
tilt_mask side row orientation =
    let here = corner side row in
    cond (eqb orientation 1) here (bit_or here (cond (eqb side 0) 0x70000000000 0x380000000000))

-- the area of each instruction; the lift with its two cells, and with the six for its turn
unfoldable pub area_mask : Instruction → ℕ
area_mask (Belts row mask toward size) = belts_mask row mask
area_mask (Shuttles side mask orientation toward) = shuttles_mask side mask orientation toward
area_mask (Tilt side row orientation) = tilt_mask side row orientation
area_mask (Lift height) = 0x70000000001800
area_mask Rotate = 0x7000000000E700
