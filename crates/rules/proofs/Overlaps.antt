-- Lowering a tilted shuttle overlaps moving it: they share its tilted slot. Assumes nothing.
use mathlib.Core.Path.{◌≡◌}
use mathlib.Core.Bool.{Bool, true}
use Prim.Native.Nat.{ℕ}
use lib.Dec.{T}
use Rattle.bits.specs.Places.{elem}
use Rattle.bits.specs.Search.{every}
use Rattle.bits.proofs.Cases.{T→true, true→T}
use Rattle.bits.proofs.Sharing.{all_pass, pass_at}
use Rattle.floor.specs.Floor.{tilted}
use Rattle.rules.specs.declared.Instruction.{Instruction}
use Rattle.rules.specs.declared.Instruction.TheVariants.{Belts, Shuttles, Tilt, Lift, Rotate}
use Rattle.rules.specs.Named.{rows_of}
use Rattle.rules.specs.Rules.{well_formed, overlap}
use Rattle.rules.proofs.Every.{everywhere, each}

-- a move of tilted shuttles overlaps the lowering of each
abbrev meets : ℕ → ℕ → ℕ → ℕ → Bool
meets side mask toward row = overlap (Shuttles side mask tilted toward) (Tilt side row tilted)

abbrev meets_all : Instruction → Bool
meets_all (Belts row mask toward size) = true
meets_all (Shuttles side mask orientation toward) = all_pass (meets side mask toward) (rows_of mask)
meets_all (Tilt side row orientation) = true
meets_all (Lift height) = true
meets_all Rotate = true

all_meet : T (everywhere meets_all)
unfolding everywhere every overlap
all_meet = tt

-- for every side and direction, and each row that the mask names
pub lowering_overlaps : (side mask toward row : ℕ) → well_formed (Shuttles side mask tilted toward) ≡ true → elem row (rows_of mask) ≡ true
    → overlap (Shuttles side mask tilted toward) (Tilt side row tilted) ≡ true
lowering_overlaps side mask toward row w m =
    T→true (meets side mask toward row)
    (pass_at (meets side mask toward) (rows_of mask) (each meets_all all_meet (Shuttles side mask tilted toward) (true→T w)) row (true→T m))
