-- What the contracts of private functions cite; no public one rests on it. A condition as it is told, masks without a gap, a row from its
-- end, the row ahead, a digit of a height, and a walk with one car more. Assumes nothing.
use Rattle.std.specs.Prelude.{Bool, true, false, cond, not, ◌&&◌, ◌||◌, ℕ, zero, suc, ◌+◌, ◌-◌, eqb, set}
use Rattle.std.specs.declared.option.Option.{Option}
use Rattle.std.specs.declared.option.Option.TheVariants.{Some, None}
use Rattle.bits.specs.Bits.{bit, digit}
use Rattle.answers.specs.declared.Reason.{Reason}
use Rattle.rules.specs.Named.{higher}
use Rattle.plain.specs.declared.Condition.{Condition}
use Rattle.plain.specs.declared.Height.{Height}
use Rattle.plain.specs.declared.Walk.{Walk}
use Rattle.plain.specs.Plain.{height_number}

-- a condition that is there
abbrev pub condition : Bool → Reason → Option Condition
condition holds why = Some (record { holds = holds; why = why })

-- why a condition fails, where there is one and it does
abbrev pub failing : Option Condition → Option Reason
failing None = None
failing (Some x) = cond x.holds None (Some x.why)

-- n bits of a mask from k on, where begun says that a bit before is 1 and before that the last of them is: after a gap none is 1
unfoldable pub gapless_from : ℕ → ℕ → Bool → Bool → ℕ → Bool
gapless_from zero k begun before mask = true
gapless_from (suc n) k begun before mask =
    let here = bit mask k in not (here && begun && not before) && gapless_from n (suc k) (begun || here) here mask

-- a mask of up to five bits has no gap
abbrev pub gapless : ℕ → Bool
gapless mask = gapless_from 5 0 false false mask

-- ---- rows of cells

-- a row's first cell, and how many it has
unfoldable pub row_first_cell : ℕ → ℕ
row_first_cell row = cond (eqb row 1) 0 (cond (eqb row 2) 20 30)

unfoldable pub width : ℕ → ℕ
width row = cond (eqb row 1) 20 10

-- its cell of this number from the end toward d, from 0
unfoldable pub row_from_end : ℕ → ℕ → ℕ → ℕ
row_from_end row toward j = cond (higher toward) (row_first_cell row + width row - 1 - j) (row_first_cell row + j)

-- the number of its last belt
abbrev pub last_belt : ℕ → ℕ
last_belt row = cond (eqb row 1) 4 2

-- ---- rows of shuttles

-- one of two numbers
abbrev pub pick : Bool → ℕ → ℕ → ℕ
pick up a b = cond up a b

-- the row next to those named, toward d, if there is one
unfoldable pub row_ahead : ℕ → ℕ → Option ℕ
row_ahead toward mask =
    let up = higher toward in
    cond (bit mask (pick up 2 0)) None
    (cond (bit mask 1) (Some (pick up 3 1))
    (cond (bit mask (pick up 0 2)) (Some 2)
    None))

-- ---- heights

-- a digit of a height's number
abbrev pub height_digit : Height → Bool → Bool
height_digit h high = bit (height_number h) (digit high)

-- ---- walks

-- a walk with one car more, where one begins at this place
unfoldable pub noted : Walk → Bool → ℕ → Walk
noted w begins place = cond begins (record { starts = set w.starts w.count place; count = w.count + 1 }) w
