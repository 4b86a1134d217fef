-- The parts that the code marks for an instruction are those of its area: computed at every well-formed one. Assumes nothing.
use mathlib.Core.Path.{◌≡◌, refl, sym, ap, ap₂, ◌∙◌}
use mathlib.Core.Bool.{Bool, true, false, cond, not, ◌&&◌, ◌||◌, beq}
use mathlib.Core.List.{List, [], ◌∷◌}
use Prim.Native.Nat.{ℕ, zero, suc, ◌+◌, ◌-◌, ◌<◌}
use native.Mathlib.Omega.{arith}
use native.Mathlib.Numerals.{add-one}
use lib.Dec.{T, eqb}
use lib.ListN.{set, replicate}
use Rattle.bits.specs.Search.{every}
use Rattle.bits.proofs.Cases.{and_l, and_r, beq→eq}
use Rattle.floor.specs.Floor.{belt_of, lowered, place}
use Rattle.rules.specs.declared.Instruction.{Instruction}
use Rattle.rules.specs.declared.Instruction.TheVariants.{Belts, Shuttles, Tilt, Lift, Rotate}
use Rattle.rules.specs.Rules.{belts_named, well_formed, area_of}
use Rattle.rules.proofs.Every.{everywhere, each, rows, each_row}
use Rattle.plain.specs.Plain.{listed}
use Rattle.plain.proofs.Ranges.{is_well, belts_ranges}
use Rattle.plain_moves.specs.declared.Parts.{Parts}
use Rattle.plain_moves.specs.Moves.{parts_at, area_parts}
use Rattle.rules.specs.Cells.{cell_named, row_named, row_behind}
use Rattle.plain_moves.specs.Private.{slot_index, stored, position_first_cell}

-- ---- two arrays, and two parts, are the same

abbrev pub same_marks : List Bool → List Bool → Bool
same_marks [] [] = true
same_marks [] (y ∷ b) = false
same_marks (x ∷ a) [] = false
same_marks (x ∷ a) (y ∷ b) = beq x y && same_marks a b

marks_eq : (a b : List Bool) → T (same_marks a b) → a ≡ b
marks_eq [] [] t = refl
marks_eq [] (y ∷ b) t = absurd t
marks_eq (x ∷ a) [] t = absurd t
marks_eq (x ∷ a) (y ∷ b) t = ap₂ ◌∷◌ (beq→eq x y (and_l (beq x y) (same_marks a b) t)) (marks_eq a b (and_r (beq x y) (same_marks a b) t))

abbrev pub same_parts : Parts → Parts → Bool
same_parts p q = same_marks p.cells q.cells && (same_marks p.slots q.slots && beq p.lift q.lift)

pub parts_eq : (p q : Parts) → T (same_parts p q) → p ≡ q
parts_eq p q t =
    let r = and_r (same_marks p.cells q.cells) _ t in
    ap₂ (λ (c s : List Bool). record { cells = c; slots = s; lift = p.lift })
    (marks_eq p.cells q.cells (and_l (same_marks p.cells q.cells) _ t))
    (marks_eq p.slots q.slots (and_l (same_marks p.slots q.slots) _ r))
    ∙ ap (λ (b : Bool). record { cells = q.cells; slots = q.slots; lift = b })
    (beq→eq p.lift q.lift (and_r (same_marks p.slots q.slots) _ r))

-- ---- what is marked

abbrev no_cells : List Bool
no_cells = replicate 40 false

abbrev no_slots : List Bool
no_slots = replicate 12 false

-- belts
belt_parts : ℕ → ℕ → Parts
belt_parts row mask =
    record {
      cells = listed 40 (cell_named row mask);
      slots = set (set no_slots (slot_index 0 0 row) (cell_named row mask (position_first_cell 0 row))) (slot_index 1 0 row) (cell_named row mask (position_first_cell 1 row));
      lift = cell_named row mask 11;
    }

-- the first n rows of a side, after a shuttle move
abbrev pub touched : ℕ → ℕ → ℕ → Bool
touched mask toward row = row_named mask row || row_named mask (row_behind toward row)

unfoldable pub shuttle_cells : ℕ → ℕ → ℕ → ℕ → ℕ → List Bool
shuttle_cells side mask orientation toward zero = no_cells
shuttle_cells side mask orientation toward (suc n) =
    stored (place side (suc n)) (touched mask toward (suc n) && eqb orientation lowered) (shuttle_cells side mask orientation toward n)

unfoldable pub shuttle_slots : ℕ → ℕ → ℕ → ℕ → ℕ → List Bool
shuttle_slots side mask orientation toward zero = no_slots
shuttle_slots side mask orientation toward (suc n) =
    set (shuttle_slots side mask orientation toward n) (slot_index side orientation (suc n)) (touched mask toward (suc n))

-- the first n lowered slots of a side, for a tilt
unfoldable pub tilt_slots : ℕ → ℕ → ℕ → ℕ → List Bool
tilt_slots side row orientation zero = set no_slots (slot_index side 1 row) true
tilt_slots side row orientation (suc n) =
    set (tilt_slots side row orientation n) (slot_index side 0 (suc n)) (eqb (suc n) row || eqb orientation lowered)

-- the first n cells on each side of the lift
unfoldable pub beside_lift : ℕ → List Bool
beside_lift zero = no_cells
beside_lift (suc n) = set (set (beside_lift n) (8 + n) true) (13 + n) true

-- ---- all in one test

marked : Instruction → Bool
marked (Belts row mask toward size) = true
marked (Shuttles side mask orientation toward) =
    same_parts (record { cells = shuttle_cells side mask orientation toward 3; slots = shuttle_slots side mask orientation toward 3; lift = false })
    (parts_at (area_of (Shuttles side mask orientation toward)))
marked (Tilt side row orientation) =
    same_parts (record { cells = stored (place side row) true no_cells; slots = tilt_slots side row orientation 3; lift = false })
    (parts_at (area_of (Tilt side row orientation)))
marked (Lift height) = true
marked Rotate = true

all_marked : T (everywhere marked)
unfolding everywhere every marked parts_at listed stored position_first_cell row_named row_behind shuttle_cells shuttle_slots tilt_slots
all_marked = tt

belts_marked : ℕ → ℕ → Bool
belts_marked row mask = same_parts (belt_parts row mask) (parts_at (area_of (Belts row mask 0 0)))

belts_marked_lem : T (rows belts_marked)
unfolding rows every belts_marked belt_parts parts_at listed belt_of position_first_cell
belts_marked_lem = tt

-- ---- what it says of each

pub belts_area : (row mask : ℕ) → T (belts_named row mask) → {c : List Bool} {l r : ℕ} {x y z : Bool} → c ≡ listed 40 (cell_named row mask)
    → l ≡ slot_index 0 0 row → x ≡ cell_named row mask (position_first_cell 0 row) → r ≡ slot_index 1 0 row → y ≡ cell_named row mask (position_first_cell 1 row)
    → z ≡ cell_named row mask 11
    → record { cells = c; slots = set (set no_slots l x) r y; lift = z } ≡ parts_at (area_of (Belts row mask 0 0))
unfolding belt_parts belts_marked
belts_area row mask w {c} {l} {r} {x} {y} {z} e1 e2 e3 e4 e5 e6 =
    ap₂ (λ (c : List Bool) (z : Bool). record { cells = c; slots = set (set no_slots l x) r y; lift = z }) e1 e6
    ∙ ap (λ (s : List Bool). record { cells = listed 40 (cell_named row mask); slots = s; lift = cell_named row mask 11 })
    (ap₂ (λ (l : ℕ) (x : Bool). set (set no_slots l x) r y) e2 e3
    ∙ ap₂ (λ (r : ℕ) (y : Bool). set (set no_slots (slot_index 0 0 row) (cell_named row mask (position_first_cell 0 row))) r y) e4 e5)
    ∙ parts_eq (belt_parts row mask) (parts_at (area_of (Belts row mask 0 0))) (each_row belts_marked belts_marked_lem row mask w)

module _ (side mask orientation toward : ℕ) where
  -- one row more
  pub shuttle_cells_more : {row : ℕ} {cells new : List Bool} {on : Bool} → 0 < row → cells ≡ shuttle_cells side mask orientation toward (row - 1)
      → on ≡ touched mask toward row → new ≡ stored (place side row) (on && eqb orientation lowered) cells
      → new ≡ shuttle_cells side mask orientation toward (row + 1 - 1)
  unfolding shuttle_cells
  shuttle_cells_more {row} h e d q =
      let r : row ≡ suc (row - 1) = omega arith in
      let m : suc (row - 1) ≡ row + 1 - 1 = omega arith in
      q ∙ ap₂ (λ (b : Bool) (l : List Bool). stored (place side row) (b && eqb orientation lowered) l) d e
      ∙ ap (λ (n : ℕ). stored (place side n) (touched mask toward n && eqb orientation lowered) (shuttle_cells side mask orientation toward (row - 1))) r
      ∙ ap (shuttle_cells side mask orientation toward) m

  pub shuttle_slots_more : {row at : ℕ} {slots : List Bool} {on : Bool} → 0 < row → slots ≡ shuttle_slots side mask orientation toward (row - 1)
      → at ≡ slot_index side orientation row → on ≡ touched mask toward row → set slots at on ≡ shuttle_slots side mask orientation toward (row + 1 - 1)
  unfolding shuttle_slots
  shuttle_slots_more {row} {at} {slots} {on} h e p d =
      let r : row ≡ suc (row - 1) = omega arith in
      let m : suc (row - 1) ≡ row + 1 - 1 = omega arith in
      ap₂ (λ (l : List Bool) (b : Bool). set l at b) e d
      ∙ ap (λ (j : ℕ). set (shuttle_slots side mask orientation toward (row - 1)) j (touched mask toward row)) p
      ∙ ap (λ (n : ℕ). set (shuttle_slots side mask orientation toward (row - 1)) (slot_index side orientation n) (touched mask toward n)) r
      ∙ ap (shuttle_slots side mask orientation toward) m

  pub shuttles_area : T (well_formed (Shuttles side mask orientation toward)) → {c s : List Bool} {row : ℕ}
      → c ≡ shuttle_cells side mask orientation toward (row - 1) → s ≡ shuttle_slots side mask orientation toward (row - 1) → row ≡ 4
      → record { cells = c; slots = s; lift = false } ≡ parts_at (area_of (Shuttles side mask orientation toward))
  unfolding marked
  shuttles_area w p q e =
      ap₂ (λ (c s : List Bool). record { cells = c; slots = s; lift = false }) p q
      ∙ ap (λ (n : ℕ).
      record { cells = shuttle_cells side mask orientation toward (n - 1); slots = shuttle_slots side mask orientation toward (n - 1); lift = false }) e
      ∙ parts_eq _ (parts_at (area_of (Shuttles side mask orientation toward))) (each marked all_marked (Shuttles side mask orientation toward) w)

module _ (side row orientation : ℕ) where
  pub tilt_starts : {at : ℕ} → at ≡ slot_index side 1 row → set no_slots at true ≡ tilt_slots side row orientation 0
  unfolding tilt_slots
  tilt_starts e = ap (λ (j : ℕ). set no_slots j true) e

  pub tilt_more : {other at : ℕ} {slots : List Bool} → 0 < other → slots ≡ tilt_slots side row orientation (other - 1) → at ≡ slot_index side 0 other
      → set slots at (eqb other row || eqb orientation lowered) ≡ tilt_slots side row orientation (other + 1 - 1)
  unfolding tilt_slots
  tilt_more {other} {at} h e p =
      let r : other ≡ suc (other - 1) = omega arith in
      let m : suc (other - 1) ≡ other + 1 - 1 = omega arith in
      ap₂ (λ (l : List Bool) (j : ℕ). set l j (eqb other row || eqb orientation lowered)) e p
      ∙ ap (λ (n : ℕ). set (tilt_slots side row orientation (other - 1)) (slot_index side 0 n) (eqb n row || eqb orientation lowered)) r
      ∙ ap (tilt_slots side row orientation) m

  pub tilt_area : T (well_formed (Tilt side row orientation)) → {c s : List Bool} {other : ℕ}
      → c ≡ stored (place side row) true no_cells → s ≡ tilt_slots side row orientation (other - 1) → other ≡ 4
      → record { cells = c; slots = s; lift = false } ≡ parts_at (area_of (Tilt side row orientation))
  unfolding marked
  tilt_area w p q e =
      ap₂ (λ (c s : List Bool). record { cells = c; slots = s; lift = false }) p q
      ∙ ap (λ (n : ℕ). record { cells = stored (place side row) true no_cells; slots = tilt_slots side row orientation (n - 1); lift = false }) e
      ∙ parts_eq _ (parts_at (area_of (Tilt side row orientation))) (each marked all_marked (Tilt side row orientation) w)

-- ---- the cells beside the lift

pub beside_more : (n : ℕ) {cells : List Bool} → cells ≡ beside_lift n → set (set cells (8 + n) true) (13 + n) true ≡ beside_lift (n + 1)
unfolding beside_lift
beside_more n e = ap (λ (l : List Bool). set (set l (8 + n) true) (13 + n) true) e ∙ ap beside_lift (sym (add-one n))

pub rotate_area : {n : ℕ} {cells : List Bool} → cells ≡ beside_lift n → n ≡ 3
    → record { cells = cells; slots = no_slots; lift = true } ≡ parts_at (area_of Rotate)
unfolding beside_lift parts_at listed
rotate_area e d = ap (λ (l : List Bool). record { cells = l; slots = no_slots; lift = true }) (e ∙ ap beside_lift d)

-- ---- all of them

pub no_area : (i : Instruction) → well_formed i ≡ false → {p : Parts} → p ≡ parts_at [] → p ≡ area_parts i
unfolding area_parts
no_area i w q = q ∙ ap (λ (b : Bool). parts_at (cond b (area_of i) [])) (sym w)

pub area_of_lem : {i j : Instruction} → i ≡ j → well_formed i ≡ true → {p : Parts} → p ≡ parts_at (area_of j) → p ≡ area_parts i
unfolding area_parts
area_of_lem {i} e w q = q ∙ ap (λ (x : Instruction). parts_at (area_of x)) (sym e) ∙ ap (λ (b : Bool). parts_at (cond b (area_of i) [])) (sym w)

-- a row and a mask of a well-formed one
pub belts_well : {i : Instruction} {row mask toward size : ℕ} {b : Bool} → i ≡ Belts row mask toward size → b ≡ well_formed i → not b ≡ false
    → T (belts_named row mask)
belts_well {i} {row} {mask} {toward} {size} e p q = (belts_ranges row mask toward size (is_well e p q)).0
