-- Small facts of the code's masks: shifts that stay small, and rows in which parts change nothing. Assumes nothing.
use mathlib.Core.Path.{◌≡◌, refl, sym, ap, ap₂, ◌∙◌}
use mathlib.Core.Bool.{Bool, true, false, cond, not, ◌&&◌}
use Prim.Native.Nat.{ℕ, zero, suc, ◌+◌, ◌-◌, ◌*◌, ◌/◌, ◌%◌, ◌^◌, ◌<◌}
use native.Mathlib.Omega.{arith}
use lib.Bits.{bit_and, bit_or, and_zero_r, or_zero_r, and_le_l, and_le_r}
use lib.Dec.{eqb}
use Rattle.rules.specs.Named.{step}
use Rattle.rows.specs.Private.{shifted, span_within, carried_bits, others, cells_of_area, tilted_in, move_row, belts_move, tilt_move}

-- a direction times a step
pub shift_small : (d n : ℕ) → d < 2 → n < 3 → d * n < 64
shift_small zero n h k = omega arith
shift_small (suc zero) n h k = omega arith
shift_small (suc (suc d)) n h k = absurd (omega (arith, h))

-- a direction picks one of two shifts: n or none
pub lower_shifts : (toward n : ℕ) → toward ≡ 0 → (0 ≡ toward * n) × (n ≡ (1 - toward) * n)
lower_shifts toward n e = rw e (omega arith, omega arith)

pub higher_shifts : (toward n : ℕ) → toward ≡ 1 → (n ≡ toward * n) × (0 ≡ (1 - toward) * n)
higher_shifts toward n e = rw e (omega arith, omega arith)

pub step_small : (row size : ℕ) → step row size < 3
step_small row size = go (eqb row 1 && eqb size 1)
  where
    go : (b : Bool) → cond b 2 1 < 3
    go true = omega arith
    go false = omega arith

pub gap_small : (mask : ℕ) → mask < 32 → mask + bit_and mask (32 - mask) < 256
gap_small mask h = omega (arith, and_le_l mask (32 - mask))

-- no car is carried from nowhere
nowhere : (r : ℕ) → carried_bits r 0 0 ≡ 0
nowhere r = go (eqb (bit_and r 0) 0 && not (eqb 0 0))
  where
    go : (b : Bool) → ◌≡◌ {A = ℕ} (cond b 0 0) 0
    go true = refl
    go false = refl

-- cells shift, and nothing else changes
pub belts_moved : (r a row toward size n w m : ℕ) → n ≡ step row size → w ≡ span_within (cells_of_area a) toward n
    → m ≡ shifted (bit_and r w) (toward * n) ((1 - toward) * n) → bit_or (bit_and r (others (cells_of_area a))) m ≡ move_row (belts_move a row toward size) r
belts_moved r a row toward size n w m p q e =
    let by : ℕ → ℕ = λ n. shifted (bit_and r (span_within (cells_of_area a) toward n)) (toward * n) ((1 - toward) * n) in
    let same : m ≡ by (step row size) = e ∙ ap (λ w. shifted (bit_and r w) (toward * n) ((1 - toward) * n)) q ∙ ap by p in
    ap (bit_or (bit_and r (others (cells_of_area a)))) (same ∙ sym (or_zero_r _) ∙ ap (bit_or (by (step row size))) (sym (ap₂ bit_or (nowhere r) (nowhere r))))

-- a slot becomes 1, and the other of the two 0
pub tilt_moved : (r a orientation new : ℕ) → cond (eqb orientation 0) (tilted_in a) (tilted_in a / 64) ≡ new
    → bit_or (bit_and r (others (bit_or (tilted_in a) (tilted_in a / 64)))) new ≡ move_row (tilt_move a orientation) r
tilt_moved r a orientation new e =
    let c : ℕ = cond (eqb orientation 0) (tilted_in a) (tilted_in a / 64) in
    ap (bit_or (bit_and r (others (bit_or (tilted_in a) (tilted_in a / 64)))))
    (sym e ∙ sym (or_zero_r c) ∙ ap (bit_or c) (sym (ap₂ bit_or (ap (λ y. shifted y 0 0) (and_zero_r r)) (ap₂ bit_or (nowhere r) (nowhere r)))))

-- a bit times what is under a mask
pub picked_small : (m x : ℕ) → m % 2 * bit_and x 0xFFFFF < 2 ^ 64
picked_small m x = go (m % 2) (omega arith)
  where
    go : (b : ℕ) → b < 2 → b * bit_and x 0xFFFFF < 2 ^ 64
    go zero h = omega arith
    go (suc zero) h = omega (arith, and_le_r x 0xFFFFF)
    go (suc (suc b)) h = absurd (omega (arith, h))
