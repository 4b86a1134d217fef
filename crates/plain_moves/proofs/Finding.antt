-- The cases of what the code looks up: what comes to a cell of a belt run, and to a row of a shuttle move; the cells of a position.
-- Assumes nothing.
use mathlib.Core.Path.{◌≡◌, sym, ap, ap₂, ◌∙◌}
use mathlib.Core.Bool.{Bool, true, false, cond, not, ◌&&◌, and-true}
use mathlib.Core.List.{List, [], ◌∷◌}
use Prim.Native.Nat.{ℕ, suc, ◌+◌, ◌-◌, ◌*◌, ◌≤◌, ◌<◌}
use native.Mathlib.Omega.{arith}
use native.Mathlib.Numerals.{add-one}
use lib.Dec.{eqb, ltb, leb}
use lib.ListN.{set}
use borrow.Author.Tests.{lt-ltb, le-ltb, eq-eqb, ne_eqb, ltb-true, ltb-false, leb-true, le-leb}
use Rattle.std.specs.Prelude.{SomeIff}
use Rattle.std.specs.declared.option.Option.{Option}
use Rattle.std.specs.declared.option.Option.TheVariants.{Some, None}
use Rattle.bits.specs.Bits.{Bits, bit, all_set}
use Rattle.bits.proofs.Cases.{split, clash, both}
use Rattle.bits.proofs.Digits.{bit_past}
use Rattle.floor.specs.Floor.{belt_of, slot, place}
use Rattle.rules.specs.Named.{step}
use Rattle.rules.specs.Cells.{cell_named, row_named, row_behind}
use Rattle.plain_moves.specs.Private.{cell_bits, slot_bits, slot_index, stored, cell_behind, in_span, belt_after, row_source, some_row, is_row, position_first_cell, slot_from, slots_after, car_at, row_from, cells_after}

-- ---- belts

-- what is on a belt is a cell
pub named_cell : (row mask k : ℕ) → cell_named row mask k ≡ true → k < 40
unfolding belt_of
named_cell row mask k e = split (ltb k 40) (λ t. ltb-true k 40 t) (λ t. let h = ltb-false k 40 t in clash e
    (rw (
      le-ltb k 2 (omega arith),
      le-ltb k 11 (omega arith),
      le-ltb k 13 (omega arith),
      le-ltb k 18 (omega arith),
      le-ltb k 20 (omega arith),
      le-ltb k 21 (omega arith),
      le-ltb k 29 (omega arith),
      le-ltb k 30 (omega arith),
      le-ltb k 31 (omega arith),
      le-ltb k 39 (omega arith),
      t,
    )))

-- the cell behind, toward the right and toward the left
pub left_behind : {o : Option ℕ} {toward : ℕ} (n k : ℕ) → toward ≡ 1 → SomeIff o (n ≤ k) (k - n) → o ≡ cell_behind toward n k
unfolding cell_behind
left_behind {o = None} {toward} n k e s = rw (eq-eqb toward 1 e, lt-ltb k n (omega (arith, s)))
left_behind {o = Some j} {toward} n k e s = rw (eq-eqb toward 1 e, le-ltb k n s.0) (ap (λ (x : ℕ). Some x) s.1)

module _ (row mask toward size : ℕ) (f : Bits) (k : ℕ) where
  pub stays : cell_named row mask k ≡ false → f k ≡ belt_after row mask toward size f k
  unfolding belt_after
  stays n = rw n

  module _ {n : ℕ} {o : Option ℕ} (s : n ≡ step row size) (e : o ≡ cell_behind toward n k) (m : cell_named row mask k ≡ true) where
    spans : in_span row mask f o ≡ belt_after row mask toward size f k
    unfolding belt_after
    spans = rw (← s, ← e, m)

    pub comes : {j : ℕ} → o ≡ Some j → cell_named row mask j ≡ true → f j ≡ belt_after row mask toward size f k
    comes {j} i l = ap (λ (b : Bool). b && f j) (sym l) ∙ ap (in_span row mask f) (sym i) ∙ spans

    pub none_comes : {j : ℕ} → o ≡ Some j → cell_named row mask j ≡ false → false ≡ belt_after row mask toward size f k
    none_comes {j} i l = ap (λ (b : Bool). b && f j) (sym l) ∙ ap (in_span row mask f) (sym i) ∙ spans

    pub nowhere_comes : o ≡ None → false ≡ belt_after row mask toward size f k
    nowhere_comes i = ap (in_span row mask f) (sym i) ∙ spans

-- ---- rows

-- what a mask of three bits names is a row
pub named_row : (mask row : ℕ) → mask ≤ 7 → row_named mask row ≡ true → (1 ≤ row) × (row ≤ 3)
unfolding row_named
named_row mask row h e =
    let (a, b) = both (not (eqb row 0)) (bit mask (row - 1)) e in
    let low : row ≡ 0 → ⊥ = λ z. clash a (rw (eq-eqb row 0 z)) in
    let up : row < 4 = split (ltb row 4) (λ t. ltb-true row 4 t)
    (λ t. let l = ltb-false row 4 t in clash b (bit_past mask 3 (row - 1) (omega arith) (omega arith))) in
    (omega arith, omega arith)

module _ (mask toward row : ℕ) {back : ℕ} (e : back ≡ row_behind toward row) where
  pub comes_from : row_named mask back ≡ true → Some back ≡ row_source mask toward row
  unfolding row_source
  comes_from n = rw (← e, n)

  module _ (n : row_named mask back ≡ false) where
    pub leaves : row_named mask row ≡ true → None ≡ row_source mask toward row
    unfolding row_source
    leaves m = rw (← e, n, m)

    pub stays_there : row_named mask row ≡ false → Some row ≡ row_source mask toward row
    unfolding row_source
    stays_there m = rw (← e, n, m)

in_three : (row : ℕ) → 1 ≤ row → row ≤ 3 → some_row (Some row) ≡ true
in_three row h l = rw (le-leb 1 row h, le-leb row 3 l)

pub source_row : (mask toward row : ℕ) → mask ≤ 7 → 1 ≤ row → row ≤ 3 → some_row (row_source mask toward row) ≡ true
unfolding row_source
source_row mask toward row h k l = split (row_named mask (row_behind toward row))
    (λ t. let n = named_row mask (row_behind toward row) h t in rw t (in_three (row_behind toward row) n.0 n.1))
    (λ t. split (row_named mask row) (λ u. rw (t, u)) (λ u. rw (t, u) (in_three row k l)))

-- the row, if there is one
pub of_three : {from : Option ℕ} {row : ℕ} → some_row from ≡ true → from ≡ Some row → (1 ≤ row) × (row ≤ 3)
of_three {from} {row} e i =
    let (a, b) = both (leb 1 row) (leb row 3) (ap some_row (sym i) ∙ e) in
    (leb-true 1 row a, leb-true row 3 b)

-- ---- what comes from a row

module _ (side orientation : ℕ) (f : Bits) {from : Option ℕ} where
  pub no_slot : from ≡ None → false ≡ slot_from side orientation f from
  no_slot e = ap (slot_from side orientation f) (sym e)

  pub that_slot : {row : ℕ} → from ≡ Some row → f (slot side orientation row) ≡ slot_from side orientation f from
  that_slot e = ap (slot_from side orientation f) (sym e)

module _ (side : ℕ) (f : Bits) (row : ℕ) (from : Option ℕ) (new : List Bool) where
  pub row_stays : is_row from row ≡ true → new ≡ row_from side f row from new
  unfolding row_from
  row_stays e = rw e

  pub row_comes : is_row from row ≡ false → {a : List Bool} {car : Bool} → car ≡ car_at side f from → a ≡ stored (place side row) car new
      → a ≡ row_from side f row from new
  unfolding row_from
  row_comes e {a} {car} d q = q ∙ ap (λ (b : Bool). stored (place side row) b new) d ∙ rw e

-- ---- the cells of a position

pub first_small : (side row : ℕ) → side ≤ 1 → position_first_cell side row < 40
unfolding position_first_cell
first_small side row s = go (eqb row 1) (eqb row 2)
  where
    go : (a b : Bool) → cond a (side * 18) (cond b (20 + side * 9) (30 + side * 9)) < 40
    go true b = omega arith
    go false true = omega arith
    go false false = omega arith

pub half_small : (side : ℕ) {row : ℕ} → side ≤ 1 → row ≡ 1 → position_first_cell side row < 20
unfolding position_first_cell
half_small side {row} s e = rw (eq-eqb row 1 e) (omega arith)

module _ (side row : ℕ) {first : ℕ} (d : first ≡ position_first_cell side row) where
  -- two half cells in row 1, else one cell
  place_two : row ≡ 1 → place side row ≡ first ∷ (first + 1) ∷ []
  unfolding position_first_cell
  place_two e = let o = eq-eqb row 1 e in
      let p : first ≡ side * 18 = d ∙ rw o in
      rw (o, add-one first) (ap (λ (k : ℕ). k ∷ suc k ∷ []) (sym p))

  place_one : (row ≡ 1 → ⊥) → place side row ≡ first ∷ []
  unfolding position_first_cell
  place_one e = let o = ne_eqb row 1 e in split (eqb row 2)
      (λ t. let p : first ≡ 20 + side * 9 = d ∙ rw (o, t) in rw (o, t) (ap (λ (k : ℕ). k ∷ []) (sym p)))
      (λ t. let p : first ≡ 30 + side * 9 = d ∙ rw (o, t) in rw (o, t) (ap (λ (k : ℕ). k ∷ []) (sym p)))

  pub car_halves : (f : Bits) {from : Option ℕ} → from ≡ Some row → row ≡ 1 → f first && f (first + 1) ≡ car_at side f from
  car_halves f i e =
      ap (λ (b : Bool). f first && b) (sym (and-true (f (first + 1)))) ∙ sym (ap (λ (ks : List ℕ). all_set ks f) (place_two e)) ∙ ap (car_at side f) (sym i)

  pub car_cell : (f : Bits) {from : Option ℕ} → from ≡ Some row → (row ≡ 1 → ⊥) → f first ≡ car_at side f from
  car_cell f i e = sym (and-true (f first)) ∙ sym (ap (λ (ks : List ℕ). all_set ks f) (place_one e)) ∙ ap (car_at side f) (sym i)

  pub put_halves : (v : Bool) (a : List Bool) → row ≡ 1 → set (set a first v) (first + 1) v ≡ stored (place side row) v a
  unfolding stored
  put_halves v a e = sym (ap (λ (ks : List ℕ). stored ks v a) (place_two e))

  pub put_cell : (v : Bool) (a : List Bool) → (row ≡ 1 → ⊥) → set a first v ≡ stored (place side row) v a
  unfolding stored
  put_cell v a e = sym (ap (λ (ks : List ℕ). stored ks v a) (place_one e))

pub no_car : (side : ℕ) (f : Bits) {from : Option ℕ} → from ≡ None → false ≡ car_at side f from
no_car side f e = ap (car_at side f) (sym e)

-- ---- loops over the three rows

-- as many rows are made as come before the next
pub slots_more : (side mask orientation toward : ℕ) (a : List Bool) {new : List Bool} {row at : ℕ} {from : Option ℕ} {v : Bool} → 1 ≤ row
    → new ≡ slots_after side mask orientation toward a (row - 1) → at ≡ slot_index side orientation row → from ≡ row_source mask toward row
    → v ≡ slot_from side orientation (slot_bits a) from → set new at v ≡ slots_after side mask orientation toward a (row + 1 - 1)
unfolding slots_after
slots_more side mask orientation toward a {new} {row} {at} {from} {v} h e d s q =
    let r : row ≡ suc (row - 1) = omega arith in
    let m : suc (row - 1) ≡ row + 1 - 1 = omega arith in
    ap₂ (λ (l : List Bool) (b : Bool). set l at b) e (q ∙ ap (slot_from side orientation (slot_bits a)) s)
    ∙ ap (λ (j : ℕ). set (slots_after side mask orientation toward a (row - 1)) j (slot_from side orientation (slot_bits a) (row_source mask toward row))) d
    ∙ ap (λ (n : ℕ). set (slots_after side mask orientation toward a (row - 1)) (slot_index side orientation n)
    (slot_from side orientation (slot_bits a) (row_source mask toward n))) r
    ∙ ap (slots_after side mask orientation toward a) m

pub cells_more : (side mask toward : ℕ) (a : List Bool) {new made : List Bool} {row : ℕ} {from : Option ℕ} → 1 ≤ row → new ≡ cells_after side mask toward a (row - 1)
    → from ≡ row_source mask toward row → made ≡ row_from side (cell_bits a) row from new → made ≡ cells_after side mask toward a (row + 1 - 1)
unfolding cells_after
cells_more side mask toward a {new} {made} {row} {from} h e s q =
    let r : row ≡ suc (row - 1) = omega arith in
    let m : suc (row - 1) ≡ row + 1 - 1 = omega arith in
    q ∙ ap₂ (λ (j : Option ℕ) (l : List Bool). row_from side (cell_bits a) row j l) s e
    ∙ ap (λ (n : ℕ). row_from side (cell_bits a) n (row_source mask toward n) (cells_after side mask toward a (row - 1))) r
    ∙ ap (cells_after side mask toward a) m

-- past the third row all are
pub three_slots : (side mask orientation toward : ℕ) (a : List Bool) {new : List Bool} {row : ℕ} → new ≡ slots_after side mask orientation toward a (row - 1)
    → row ≡ 4 → new ≡ slots_after side mask orientation toward a 3
three_slots side mask orientation toward a e d = e ∙ ap (λ (n : ℕ). slots_after side mask orientation toward a (n - 1)) d

pub three_cells : (side mask toward : ℕ) (a : List Bool) {new : List Bool} {row : ℕ} → new ≡ cells_after side mask toward a (row - 1)
    → row ≡ 4 → new ≡ cells_after side mask toward a 3
three_cells side mask toward a e d = e ∙ ap (λ (n : ℕ). cells_after side mask toward a (n - 1)) d
