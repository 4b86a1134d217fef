-- The floor that the code makes of a lift move. Assumes nothing.
use mathlib.Core.Path.{◌≡◌, refl, sym, ap, ◌∙◌}
use mathlib.Core.Bool.{Bool, true, false, cond, not, ◌&&◌, ◌||◌, and-true}
use mathlib.Core.List.{List, [], ◌∷◌}
use Prim.Native.Nat.{ℕ, ◌≤◌, ◌<◌}
use native.Mathlib.Omega.{arith}
use lib.Dec.{eqb}
use lib.ListN.{get_or, set}
use borrow.Author.Tests.{eq-eqb, ne_eqb, eqb-true}
use Rattle.bits.specs.Bits.{Bits, bit, all_set}
use Rattle.bits.proofs.Cases.{split}
use Rattle.floor.specs.Floor.{raised_car, height_low, height_high, street, basement, lift_cells}
use Rattle.floor.specs.Tests.{Test, fact, choose, holds, height_is, at_basement, changed}
use Rattle.floor.specs.Tests.{set as set_at}
use Rattle.rules.specs.declared.Instruction.TheVariants.{Lift}
use Rattle.rules.specs.Rules.{changes, next_record}
use Rattle.plain.specs.declared.Floor.{Floor}
use Rattle.plain.specs.declared.Height.{Height}
use Rattle.plain.specs.declared.Height.TheVariants.{Street, Rotation, Basement}
use Rattle.plain.specs.Plain.{listed, height_from, plain_bits, floor_of}
use Rattle.plain.proofs.Listing.{listed_same, list_is, set_listed}
use Rattle.plain.proofs.Imaging.{floor_is, coming_bit, going_bit}
use Rattle.plain.proofs.Standing.{cell_bit, at_height}
use Rattle.plain_moves.proofs.Floors.{Sized, cells_kept, slots_kept}

-- the height of a number
pub height_number : {m n : ℕ} → n ≡ m → height_from (bit m 0) (bit m 1) ≡ height_from (bit n 0) (bit n 1)
height_number e = ap (λ (n : ℕ). height_from (bit n 0) (bit n 1)) (sym e)

-- a lift that is not at a height
module _ (f : Floor) where
  pub not_at_street : (f.height ≡ Street → ⊥) → false ≡ holds (height_is street) (plain_bits f)
  not_at_street n = go f.height refl
    where
      go : (h : Height) → f.height ≡ h → false ≡ holds (height_is street) (plain_bits f)
      go Street e = absurd (n e)
      go Rotation e = at_height f 0 (omega arith) e
      go Basement e = at_height f 0 (omega arith) e

  pub not_at_basement : (f.height ≡ Basement → ⊥) → false ≡ holds at_basement (plain_bits f)
  not_at_basement n = go f.height refl
    where
      go : (h : Height) → f.height ≡ h → false ≡ holds at_basement (plain_bits f)
      go Street e = at_height f 2 (omega arith) e
      go Rotation e = at_height f 2 (omega arith) e
      go Basement e = absurd (n e)

-- ---- the lift's two cells

-- what a cell of the lift takes
abbrev pub cell_takes : ℕ → ℕ → Test
cell_takes height k = cond (eqb height basement) (set_at (raised_car ∷ [])) (choose at_basement (fact false) (set_at (k ∷ [])))

-- and the raised lift
abbrev pub lift_takes : ℕ → Test
lift_takes height = cond (eqb height basement) (fact false) (choose at_basement (set_at lift_cells) (set_at (raised_car ∷ [])))

module _ (height : ℕ) (g : Bits) where
  -- arriving in the basement
  module _ (e : height ≡ basement) where
    pub cell_down : (k : ℕ) → g raised_car ≡ holds (cell_takes height k) g
    cell_down k = rw (eq-eqb height basement e) (sym (and-true (g raised_car)))

    pub lift_down : false ≡ holds (lift_takes height) g
    lift_down = rw (eq-eqb height basement e)

  module _ (e : height ≡ basement → ⊥) where
    -- leaving it
    module _ (low : holds at_basement g ≡ true) where
      pub cell_up : (k : ℕ) → false ≡ holds (cell_takes height k) g
      cell_up k = rw (ne_eqb height basement e) (ap (λ (b : Bool). (b && false) || (not b && (g k && true))) (sym low))

      pub lift_up : g 11 && g 12 ≡ holds (lift_takes height) g
      lift_up =
          rw (ne_eqb height basement e) (ap (λ (b : Bool). g 11 && b) (sym (and-true (g 12)))
          ∙ or_none (all_set lift_cells g) ∙ ap (λ (b : Bool). (b && all_set lift_cells g) || (not b && (g raised_car && true))) (sym low))
        where
          or_none : (b : Bool) → b ≡ (b || false)
          or_none true = refl
          or_none false = refl

    -- between street and rotation
    module _ (low : holds at_basement g ≡ false) where
      cell_stays : (k : ℕ) → g k ≡ holds (cell_takes height k) g
      cell_stays k =
          rw (ne_eqb height basement e) (sym (and-true (g k)) ∙ ap (λ (b : Bool). (b && false) || (not b && (g k && true))) (sym low))

      pub lift_stays : g raised_car ≡ holds (lift_takes height) g
      lift_stays =
          rw (ne_eqb height basement e) (sym (and-true (g raised_car))
          ∙ ap (λ (b : Bool). (b && all_set lift_cells g) || (not b && (g raised_car && true))) (sym low))

  -- a cell after the move
  cell_then : (k : ℕ) → k < 40 → changed (changes (Lift height)) g k
      ≡ cond (eqb 11 k) (holds (cell_takes height 11) g) (cond (eqb 12 k) (holds (cell_takes height 12) g) (g k))
  cell_then k h = rw (ne_eqb height_low k (λ q. omega arith), ne_eqb height_high k (λ q. omega arith), ne_eqb raised_car k (λ q. omega arith))

  slot_then : (k : ℕ) → 40 ≤ k → k < 52 → g k ≡ changed (changes (Lift height)) g k
  slot_then k l h = rw (
    ne_eqb height_low k (λ q. omega arith),
    ne_eqb height_high k (λ q. omega arith),
    ne_eqb raised_car k (λ q. omega arith),
    ne_eqb 11 k (λ q. omega arith),
    ne_eqb 12 k (λ q. omega arith),
  )

-- ---- the floor

module _ (f : Floor) (full : Sized f) (height : ℕ) where
  stored_two : (v w : Bool) → set (set f.cells 11 v) 12 w ≡ listed 40 (λ j. cond (eqb 12 j) w (cond (eqb 11 j) v (get_or f.cells j false)))
  stored_two v w =
      ap (λ (l : List Bool). set (set l 11 v) 12 w) (list_is 40 f.cells full.cells)
      ∙ ap (λ (l : List Bool). set l 12 w) (set_listed 40 11 (λ j. get_or f.cells j false) v (omega arith))
      ∙ set_listed 40 12 (λ j. cond (eqb 11 j) v (get_or f.cells j false)) w (omega arith)

  -- both cells stored
  pub cells_stored : {v w : Bool} → v ≡ holds (cell_takes height 11) (plain_bits f) → w ≡ holds (cell_takes height 12) (plain_bits f)
      → set (set f.cells 11 v) 12 w ≡ listed 40 (next_record (Lift height) (plain_bits f))
  unfolding next_record
  cells_stored {v} {w} p q = stored_two v w ∙ listed_same 40 _ _ (λ j h. one j h ∙ sym (cell_then height (plain_bits f) j h))
    where
      one : (j : ℕ) → j < 40 → cond (eqb 12 j) w (cond (eqb 11 j) v (get_or f.cells j false))
          ≡ cond (eqb 11 j) (holds (cell_takes height 11) (plain_bits f)) (cond (eqb 12 j) (holds (cell_takes height 12) (plain_bits f)) (plain_bits f j))
      one j h = split (eqb 11 j)
          (λ t. let i = eqb-true 11 j t in rw (t, ne_eqb 12 j (λ n. omega arith)) p)
          (λ t. split (eqb 12 j) (λ u. rw (t, u) q) (λ u. rw (t, u) (cell_bit f j h)))

  -- neither
  pub cells_left : (height ≡ basement → ⊥) → holds at_basement (plain_bits f) ≡ false → f.cells ≡ listed 40 (next_record (Lift height) (plain_bits f))
  unfolding next_record
  cells_left e low = cells_kept f (next_record (Lift height) (plain_bits f)) full (λ k h. one k ∙ sym (cell_then height (plain_bits f) k h))
    where
      one : (k : ℕ) → plain_bits f k
          ≡ cond (eqb 11 k) (holds (cell_takes height 11) (plain_bits f)) (cond (eqb 12 k) (holds (cell_takes height 12) (plain_bits f)) (plain_bits f k))
      one k = split (eqb 11 k)
          (λ t. rw t (ap (plain_bits f) (sym (eqb-true 11 k t)) ∙ cell_stays height (plain_bits f) e low 11))
          (λ t. split (eqb 12 k)
          (λ u. rw (t, u) (ap (plain_bits f) (sym (eqb-true 12 k u)) ∙ cell_stays height (plain_bits f) e low 12))
          (λ u. rw (t, u)))

  pub lifted : {c : List Bool} {car : Bool} {to : Height} → c ≡ listed 40 (next_record (Lift height) (plain_bits f)) → car ≡ holds (lift_takes height) (plain_bits f)
      → to ≡ height_from (bit height 0) (bit height 1)
      → record { cells = c; slots = f.slots; car = car; height = to; coming = f.coming; going = f.going } ≡ floor_of (next_record (Lift height) (plain_bits f))
  unfolding next_record
  lifted p q e =
      floor_is (next_record (Lift height) (plain_bits f)) p (slots_kept f (next_record (Lift height) (plain_bits f)) full (slot_then height (plain_bits f)))
      refl refl e q (coming_bit f refl) (going_bit f refl)
