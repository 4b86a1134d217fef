-- Going back. Each allowed instruction has one that undoes it, so whatever was moved can be moved back the way it came, and only a drive
-- changes what can be reached. In order: the instruction that undoes another, moves one after the other, and what is promised of both.
-- Proved in proofs/Undoing.antt and proofs/WayBack.antt. Assumes nothing.
use Rattle.std.specs.Prelude.{◌≡◌, true, cond, List, [], ◌∷◌, ◌++◌, ℕ, ◌+◌, ◌-◌, ◌*◌, ◌/◌}
use Rattle.bits.specs.Bits.{Bits, digit}
use Rattle.floor.specs.Floor.{height_low, height_high, drive_in}
use Rattle.floor.specs.Sound.{Sound}
use Rattle.rules.specs.declared.Instruction.{Instruction}
use Rattle.rules.specs.declared.Instruction.TheVariants.{Belts, Shuttles, Tilt, Lift, Rotate}
use Rattle.rules.specs.declared.Event.TheVariants.{BeginOut, EndDone}
use Rattle.rules.specs.Named.{higher}
use Rattle.rules.specs.Rules.{well_formed, allowed, next_record}
use Rattle.rules.specs.Events.{possible, after_event}
use Rattle.rules_laws.specs.Laws.{Clear}

-- ---- the instruction that undoes another

-- the other direction; the other orientation
abbrev pub other : ℕ → ℕ
other n = 1 - n

-- the rows, as a mask, to which a move brings the shuttles of these rows
abbrev pub rows_reached : ℕ → ℕ → ℕ
rows_reached mask toward = cond (higher toward) (mask * 2) (mask / 2)

-- the lift's height
abbrev pub lift_height : Bits → ℕ
lift_height f = digit (f height_low) + 2 * digit (f height_high)

-- what undoes an instruction that was done on the record f
abbrev pub undo : Instruction → Bits → Instruction
-- the same belts go as far in the other direction
undo (Belts row mask toward size) f = Belts row mask (other toward) size
-- the shuttles go back from the rows that they have reached
undo (Shuttles side mask orientation toward) f = Shuttles side (rows_reached mask toward) orientation (other toward)
-- the shuttle, which now has the other orientation, is tilted back from it
undo (Tilt side row orientation) f = Tilt side row (other orientation)
-- the lift goes to the height at which it was
undo (Lift height) f = Lift (lift_height f)
-- the record stayed the same, and stays so once more
undo Rotate f = Rotate

-- j undoes i, done on the record f: it is allowed on the next record, and clear of drives if i was, and it leads back bit by bit
pub record Undoes (j i : Instruction) (f : Bits) : Type 0 where
  pub formed : well_formed j ≡ true
  pub goes : allowed j (next_record i f) ≡ true
  pub clear : Clear i f → Clear j (next_record i f)
  pub back : (k : ℕ) → next_record j (next_record i f) k ≡ f k

-- on a sound record, each allowed instruction is undone
abbrev pub EveryMoveUndone : Type 0
EveryMoveUndone = (i : Instruction) (f : Bits) → Sound f → allowed i f ≡ true → Undoes (undo i f) i f

-- the record must be sound: there is one, and an instruction allowed on it, after which no allowed instruction leads back
pub record UndoneNeedsSound : Type 0 where
  pub bits : Bits
  pub instruction : Instruction
  pub goes : allowed instruction bits ≡ true
  pub lost : (j : Instruction) → allowed j (next_record instruction bits) ≡ true → ((k : ℕ) → next_record j (next_record instruction bits) k ≡ bits k) → ⊥

-- ---- moves, one after the other

-- the record after them
unfoldable pub record_after : List Instruction → Bits → Bits
record_after [] f = f
record_after (i ∷ is) f = record_after is (next_record i f)

-- each is allowed on the record that those before it leave, and clear of drives
unfoldable pub Moves : List Instruction → Bits → Type 0
Moves [] f = Unit {0}
Moves (i ∷ is) f = (allowed i f ≡ true) × Clear i f × Moves is (next_record i f)

-- each undone, the last first
unfoldable pub way_back : List Instruction → Bits → List Instruction
way_back [] f = []
way_back (i ∷ is) f = way_back is (next_record i f) ++ undo i f ∷ []

-- after any moves on a sound record, the way back is moves again, and leads to the first record bit by bit
abbrev pub AlwaysAWayBack : Type 0
AlwaysAWayBack =
    (f : Bits) → Sound f → (is : List Instruction) → Moves is f
    → Moves (way_back is f) (record_after is f) × ((k : ℕ) → record_after (way_back is f) (record_after is f) k ≡ f k)

-- some moves lead from one record to another
pub record Reaches (f g : Bits) : Type 0 where
  pub by : List Instruction
  pub moves : Moves by f
  pub ends : (k : ℕ) → record_after by f k ≡ g k

-- what could be reached before some moves can be reached after them
abbrev pub StillReached : Type 0
StillReached = (f g h : Bits) → Sound f → Reaches f g → Reaches f h → Reaches g h

-- the car that came in last can leave again: whatever is moved after the done end of its drive-in, a record can be reached from there on
-- which a drive-out can begin, and it is the record after that end
abbrev pub LastInCanLeave : Type 0
LastInCanLeave =
    (f g : Bits) → Sound f → f drive_in ≡ true → Reaches (after_event EndDone f) g
    → Reaches g (after_event EndDone f) × (possible BeginOut (after_event EndDone f) ≡ true)
