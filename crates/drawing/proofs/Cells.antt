-- The place of a cell in the grid, and what the grid holds there; the bits that a text draws, place by place. Assumes nothing.
use mathlib.Core.Path.{◌≡◌, refl, ap, ◌∙◌}
use mathlib.Core.Bool.{Bool, ◌||◌}
use mathlib.Core.List.{List, []}
use Prim.Native.Nat.{ℕ, ◌+◌, ◌*◌, ◌-◌, ◌/◌, ◌%◌, ◌≤◌, ◌<◌}
use native.Mathlib.Omega.{arith}
use lib.Dec.{eqb, ltb}
use lib.ListN.{get_or}
use borrow.Author.Tests.{ltb-true, ltb-false, lt-ltb, le-ltb}
use Rattle.bits.specs.Bits.{Bits}
use Rattle.bits.proofs.Cases.{split}
use Rattle.drawing.specs.declared.Lift.{Lift}
use Rattle.drawing.specs.Private.{cell_at, grid, row_of_cell, place_in_row, occupied, upper_at, words_of, drawn_at, slot_read, lift_bit, bits_at}
use Rattle.drawing.proofs.Tables.{get_d_table}

-- the place of cell k is a place of the grid, and the cell there is k
pub record Placed (k i j : ℕ) : Type 0 where
  pub row : i < 3
  pub place : j < 20
  pub back : k < 40 → cell_at i j ≡ k

pub placed : (k : ℕ) → Placed k (row_of_cell k) (place_in_row k)
unfolding row_of_cell place_in_row cell_at
placed k = split (ltb k 20)
    (λ p. rw p (record { row = omega arith; place = ltb-true k 20 p; back = λ h. refl }))
    (λ p. let x = ltb-false k 20 p in split (ltb k 30)
    (λ q. let y = ltb-true k 30 q in
    rw (p, q) (record { row = omega arith; place = omega arith; back = λ h. rw (lt-ltb (k - 20) 10 (omega arith)) (omega arith) }))
    (λ q. let y = ltb-false k 30 q in split (ltb k 40)
    (λ r. let z = ltb-true k 40 r in
    rw (p, q, r) (record { row = omega arith; place = omega arith; back = λ h. rw (lt-ltb (k - 30) 10 (omega arith)) (omega arith) }))
    (λ r. let z = ltb-false k 40 r in
    rw (p, q, r) (record { row = omega arith; place = omega arith; back = λ h. absurd (omega arith) }))))

-- what the grid holds there
pub grid_at : (f : ℕ → ℕ) (k : ℕ) → k < 40 → get_or (get_or (grid f) (row_of_cell k) []) (place_in_row k) 0 ≡ f k
unfolding grid
grid_at f k h =
    let p = placed k in
    ap (λ (l : List ℕ). get_or l (place_in_row k) 0) (get_d_table _ 3 (row_of_cell k) [] p.row)
    ∙ get_d_table _ 20 (place_in_row k) 0 p.place
    ∙ ap f (p.back h)

-- ---- the bits of a text, place by place

module _ (s : List ℕ) (n : ℕ) {b : ℕ} (p : b ≡ get_or s (43 + 4 * (n / 3 % 2) + n % 3) 0) where
  pub slot_lowered : n < 6 → eqb b 66 || eqb b 76 ≡ slot_read s n
  unfolding slot_read
  slot_lowered l = rw (lt-ltb n 6 l) (ap (λ (x : ℕ). eqb x 66 || eqb x 76) p)

  pub slot_tilted : 6 ≤ n → eqb b 66 || eqb b 84 ≡ slot_read s n
  unfolding slot_read
  slot_tilted l = rw (le-ltb n 6 l) (ap (λ (x : ℕ). eqb x 66 || eqb x 84) p)

module _ (w : Bool) (g : List (List ℕ)) (s : List ℕ) (lift : Lift) (k : ℕ) where
  pub cell_bit : k < 40 → occupied w g k ≡ bits_at w g s lift k
  unfolding bits_at
  cell_bit l = rw (lt-ltb k 40 l)

  pub slot_bit : 40 ≤ k → k < 52 → slot_read s (k - 40) ≡ bits_at w g s lift k
  unfolding bits_at
  slot_bit l h = rw (le-ltb k 40 l, lt-ltb k 52 h)

  pub lift_bit_lem : 52 ≤ k → lift_bit lift k ≡ bits_at w g s lift k
  unfolding bits_at
  lift_bit_lem l = rw (le-ltb k 40 (omega arith), le-ltb k 52 l)

-- ---- the bytes of a drawing, place by place

module _ (w : Bool) (g : List (List ℕ)) (f : Bits) (lift : Lift) (t : ℕ) where
  pub upper_at_lem : t < 51 → upper_at g f t ≡ drawn_at w g f lift t
  unfolding drawn_at
  upper_at_lem l = rw (lt-ltb t 51 l)

  pub lift_at : 51 ≤ t → get_or (words_of w lift) (t - 51) 0 ≡ drawn_at w g f lift t
  unfolding drawn_at
  lift_at l = rw (le-ltb t 51 l)
