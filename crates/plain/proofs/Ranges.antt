-- What a well-formed instruction's numbers are. Assumes nothing.
use mathlib.Core.Path.{◌≡◌, sym, ap, ◌∙◌}
use mathlib.Core.Bool.{Bool, true, false, not, cond, ◌&&◌}
use Prim.Native.Nat.{ℕ, ◌≤◌}
use native.Mathlib.Omega.{arith}
use lib.Dec.{T, eqb, leb, leb→le}
use Rattle.bits.proofs.Cases.{and_l, and_r, true→T, passed}
use Rattle.rules.specs.declared.Instruction.{Instruction}
use Rattle.rules.specs.declared.Instruction.TheVariants.{Belts, Shuttles, Tilt}
use Rattle.rules.specs.Named.{step}
use Rattle.rules.specs.Rules.{belts_named, well_formed}

-- what is known of an instruction is known of the variant that it is
pub is_well : {i j : Instruction} {b : Bool} → i ≡ j → b ≡ well_formed i → not b ≡ false → T (well_formed j)
is_well e p q = true→T (ap well_formed (sym e) ∙ passed p q)

pub belts_row : (row mask : ℕ) → T (belts_named row mask) → (1 ≤ row) × (row ≤ 3)
belts_row row mask w =
    let r = and_l (leb 1 row && leb row 3) (leb mask (cond (eqb row 1) 31 7)) w in
    (leb→le 1 row (and_l (leb 1 row) (leb row 3) r), leb→le row 3 (and_r (leb 1 row) (leb row 3) r))

pub belts_ranges : (row mask toward size : ℕ) → T (well_formed (Belts row mask toward size)) → T (belts_named row mask) × (toward ≤ 1)
belts_ranges row mask toward size w =
    let r = and_l (belts_named row mask && leb toward 1) (leb size 1) w in
    (and_l (belts_named row mask) (leb toward 1) r, leb→le toward 1 (and_r (belts_named row mask) (leb toward 1) r))

pub shuttles_ranges : (side mask orientation toward : ℕ) → T (well_formed (Shuttles side mask orientation toward))
    → (side ≤ 1) × (mask ≤ 7) × (orientation ≤ 1) × (toward ≤ 1)
shuttles_ranges side mask orientation toward w =
    let a = leb side 1 in
    let b = leb mask 7 in
    let c = leb orientation 1 in
    let r = and_l (a && b && c) (leb toward 1) w in
    let s = and_l (a && b) c r in
    (leb→le side 1 (and_l a b s), leb→le mask 7 (and_r a b s), leb→le orientation 1 (and_r (a && b) c r), leb→le toward 1 (and_r (a && b && c) (leb toward 1) w))

pub tilt_ranges : (side row orientation : ℕ) → T (well_formed (Tilt side row orientation)) → (side ≤ 1) × (1 ≤ row) × (row ≤ 3) × (orientation ≤ 1)
tilt_ranges side row orientation w =
    let a = leb side 1 in
    let b = leb 1 row && leb row 3 in
    let r = and_l (a && b) (leb orientation 1) w in
    let s = and_r a b r in
    (leb→le side 1 (and_l a b r), leb→le 1 row (and_l (leb 1 row) (leb row 3) s), leb→le row 3 (and_r (leb 1 row) (leb row 3) s), leb→le orientation 1 (and_r (a && b) (leb orientation 1) w))

-- a belt move shifts by one cell or two
pub short_step : (row size : ℕ) → step row size ≤ 2
short_step row size = go (eqb row 1 && eqb size 1)
  where
    go : (b : Bool) → cond b 2 1 ≤ 2
    go true = omega arith
    go false = omega arith
