-- A drive-in can lock the garage. Here is a record on which one may begin, and on which other cars could be fetched; after its done end
-- nothing but the lift can move, and no other car can be fetched until this one has left. Proved in proofs/Locked.antt. Assumes nothing.
use Rattle.std.specs.Prelude.{◌≡◌, true, false, [], ◌∷◌, ◌++◌, ℕ}
use Rattle.bits.specs.Bits.{Bits, bit}
use Rattle.bits.specs.Places.{elem}
use Rattle.floor.specs.Floor.{lift, lift_cells, street, raised_car}
use Rattle.floor.specs.Tests.{set, both, holds, height_is}
use Rattle.floor.specs.Sound.{total}
use Rattle.std.specs.declared.option.Option.TheVariants.{Some}
use Rattle.rules.specs.declared.Instruction.{Instruction}
use Rattle.rules.specs.declared.Instruction.TheVariants.{Lift}
use Rattle.rules.specs.declared.Event.TheVariants.{BeginIn, BeginOut, EndDone}
use Rattle.std.specs.declared.result.Result.TheVariants.{Ok}
use Rattle.rules.specs.Rules.{allowed}
use Rattle.rules.specs.Events.{possible}
use Rattle.rules.specs.Verdicts.{driven_of}
use Rattle.rules_laws.specs.Undoing.{Reaches}

-- fourteen cars with the lift empty at street, 0F 66 3F F0 C0 3F 00 00
abbrev pub unlocked : ℕ
unlocked = 0x00003FC0F03F660F

-- the same while a fifteenth drives in
abbrev pub locking : ℕ
locking = 0x00803FC0F03F660F

-- the same with the fifteenth on the lift, 0F 66 3F F0 C0 3F 10 00
abbrev pub locked : ℕ
locked = 0x00103FC0F03F660F

-- a drive-in that is accepted can lock the others in: whatever instructions follow, nothing but the lift can move, and the car that came
-- can leave
pub record DriveInLocks : Type 0 where
  -- the begin of a drive-in is accepted, and so is its done end
  pub fourteen : total unlocked ≡ Some 14
  pub begins : driven_of BeginIn unlocked ≡ Ok locking
  pub ends : driven_of EndDone locking ≡ Ok locked
  pub fifteen : total locked ≡ Some 15
  -- before it some car could be fetched: moves lead to a record with the lift at street and a car on it
  pub fetchable : (g : Bits) × Reaches (bit unlocked) g × (holds (both (height_is street) (set (raised_car ∷ []))) g ≡ true)
  -- after it, whatever is moved, only lift runs are allowed, and no place has changed but the lift and its two cells
  pub only_lift : (g : Bits) → Reaches (bit locked) g → (i : Instruction) → allowed i g ≡ true → (height : ℕ) × (i ≡ Lift height)
  pub others_stay : (g : Bits) → Reaches (bit locked) g → (k : ℕ) → elem k (lift ++ lift_cells) ≡ false → g k ≡ bit locked k
  -- the car that came in can leave
  pub can_leave : possible BeginOut (bit locked) ≡ true
