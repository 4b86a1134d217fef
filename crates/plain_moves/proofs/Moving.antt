-- The floor that the code makes of a belt run, a shuttle move or a tilt is the floor of the next record. Assumes nothing.
use mathlib.Core.Path.{◌≡◌, refl, sym, ap, ap₂, ◌∙◌}
use mathlib.Core.Bool.{Bool, true, false, cond, not, ◌&&◌, ◌||◌, and-true}
use mathlib.Core.List.{List}
use Prim.Native.Nat.{ℕ, zero, suc, ◌+◌, ◌-◌, ◌*◌, ◌≤◌, ◌<◌}
use native.Mathlib.Omega.{arith}
use lib.Dec.{T, eqb}
use lib.ListN.{length, get_or, set}
use Rattle.std.specs.declared.option.Option.{Option}
use Rattle.std.specs.declared.option.Option.TheVariants.{Some, None}
use Rattle.bits.specs.Bits.{Bits}
use Rattle.bits.specs.Places.{elem, from, adjacent, is_empty}
use Rattle.bits.specs.Search.{every}
use Rattle.bits.proofs.Cases.{both, and_l, and_r, true→T}
use Rattle.bits.proofs.Counts.{from_elem}
use Rattle.bits.proofs.Search.{each as each_below}
use Rattle.floor.specs.Floor.{lowered, slot, place}
use Rattle.floor.specs.Tests.{changed, all_hold}
use Rattle.rules.specs.declared.Instruction.{Instruction}
use Rattle.rules.specs.declared.Instruction.TheVariants.{Belts, Shuttles, Tilt, Rotate}
use Rattle.rules.specs.Named.{cells, step, rows_of}
use Rattle.rules.specs.Rules.{well_formed, conditions, allowed, changes, next_record}
use Rattle.plain.specs.declared.Floor.{Floor}
use Rattle.plain.specs.Plain.{listed, plain_bits, floor_of}
use Rattle.rules.specs.Cells.{cell_named}
use Rattle.plain_moves.specs.Private.{cell_bits, slot_bits, slot_index, cell_behind, in_span, belt_after, row_source, is_row, slot_from, slots_after, car_at, row_from, cells_after}
use Rattle.plain.proofs.Listing.{listed_same}
use Rattle.plain_moves.proofs.Contents.{Content, told, has, Told, told_starts, told_set, told_stored, told_either, right_at, told_ends, keeps, kept}
use Rattle.plain.proofs.Imaging.{floor_is, car_bit, coming_bit, going_bit}
use Rattle.plain.proofs.Ranges.{shuttles_ranges}
use Rattle.plain.proofs.Standing.{cell_bit}
use Rattle.plain_moves.proofs.Floors.{Sized, slot_in, height_bits, floor_kept}
use Rattle.plain_moves.proofs.Takings.{itself, slot_place, span_content, belt_content, slot_content, slot_contents, car_content, cell_contents, tilt_contents, right_by, belts_right, shuttles_right, tilt_right}

-- ---- what an allowed instruction has

pub well : (i : Instruction) (f : Bits) → allowed i f ≡ true → well_formed i ≡ true
unfolding allowed
well i f ok = (both (well_formed i) (all_hold (conditions i) f) ok).0

hold : (i : Instruction) (f : Bits) → allowed i f ≡ true → all_hold (conditions i) f ≡ true
unfolding allowed
hold i f ok = (both (well_formed i) (all_hold (conditions i) f) ok).1

no_gap_belts : (row mask toward size : ℕ) (f : Bits) → allowed (Belts row mask toward size) f ≡ true → adjacent (cells row mask) ≡ true
no_gap_belts row mask toward size f ok =
    let shape = (both (eqb row 1 || eqb size 1) _ (hold (Belts row mask toward size) f ok)).1 in
    (both (adjacent (cells row mask)) _ (both (not (is_empty (cells row mask))) _ shape).1).0

no_gap_rows : (side mask orientation toward : ℕ) (f : Bits) → allowed (Shuttles side mask orientation toward) f ≡ true → adjacent (rows_of mask) ≡ true
no_gap_rows side mask orientation toward f ok =
    (both (adjacent (rows_of mask)) _ (both (not (is_empty (rows_of mask))) _ (hold (Shuttles side mask orientation toward) f ok)).1).0

-- ---- arrays that are as they were

cells_start : (a : List Bool) → length a ≡ 40 → Told 40 (cell_bits a) a itself
cells_start a len = told_starts 40 (cell_bits a) a itself len (λ j. sym (and-true (get_or a j false)))

slots_start : (a : List Bool) → length a ≡ 12 → Told 12 (slot_bits a) a (λ j. itself (slot_place j))
slots_start a len = told_starts 12 (slot_bits a) a (λ j. itself (slot_place j)) len (λ j.
    let i : j ≡ 40 + j - 40 = omega arith in
    ap (λ (n : ℕ). get_or a n false) i ∙ sym (and-true (get_or a (40 + j - 40) false)))

-- ---- from the arrays to the floor

module _ (f : Floor) (i : Instruction) (x y : ℕ → Content) (right : T (right_by (changes i) x y)) where
  rest : T (every 12 (right_at (changes i) 12 slot_place (from 40 12) y) && every 5 (λ j. keeps (changes i) (52 + j)))
  rest = and_r (every 40 (right_at (changes i) 40 (λ k. k) (from 0 40) x)) _ right

  stays : (j : ℕ) → j < 5 → plain_bits f (52 + j) ≡ changed (changes i) (plain_bits f) (52 + j)
  stays j h =
      kept (changes i) (plain_bits f) (52 + j)
      (each_below 5 (λ n. keeps (changes i) (52 + n)) (and_r (every 12 (right_at (changes i) 12 slot_place (from 40 12) y)) _ rest) j h)

  moved_by_lem : {c s : List Bool} → Told 40 (cell_bits f.cells) c x → Told 12 (slot_bits f.slots) s y
      → record { cells = c; slots = s; car = f.car; height = f.height; coming = f.coming; going = f.going } ≡ floor_of (next_record i (plain_bits f))
  unfolding next_record
  moved_by_lem p q =
      floor_is (changed (changes i) (plain_bits f))
      (told_ends (changes i) 40 (λ k. k) (from 0 40) x (plain_bits f)
      (and_l (every 40 (right_at (changes i) 40 (λ k. k) (from 0 40) x)) _ right) p
      (λ k m. cell_bit f k (from_elem k 0 40 m).1))
      (told_ends (changes i) 12 slot_place (from 40 12) y (plain_bits f)
      (and_l (every 12 (right_at (changes i) 12 slot_place (from 40 12) y)) _ rest) q
      (λ k m. slot_in f k (from_elem k 40 12 m).0 (from_elem k 40 12 m).1))
      (stays 1 (omega arith))
      (stays 2 (omega arith))
      (height_bits f)
      (car_bit f refl ∙ stays 0 (omega arith))
      (coming_bit f refl ∙ stays 3 (omega arith))
      (going_bit f refl ∙ stays 4 (omega arith))

-- ---- belts

belt_has : (row mask toward size : ℕ) (f : Bits) (k : ℕ) → belt_after row mask toward size f k ≡ has (belt_content row mask toward size k) f
unfolding belt_after belt_content
belt_has row mask toward size f k = go (cell_named row mask k) (cell_behind toward (step row size) k)
  where
    one : (m : Bool) (j : ℕ) → m && f j ≡ has (cond m (itself j) (told false)) f
    one true j = sym (and-true (f j))
    one false j = refl

    go : (n : Bool) (o : Option ℕ) → cond n (in_span row mask f o) (f k) ≡ has (cond n (span_content row mask o) (itself k)) f
    go true None = refl
    go true (Some j) = one (cell_named row mask j) j
    go false o = sym (and-true (f k))

module _ (f : Floor) (full : Sized f) where
  pub belts_run : (row mask toward size : ℕ) → allowed (Belts row mask toward size) (plain_bits f) ≡ true
      → {c : List Bool} → c ≡ listed 40 (belt_after row mask toward size (cell_bits f.cells))
      → record { cells = c; slots = f.slots; car = f.car; height = f.height; coming = f.coming; going = f.going }
      ≡ floor_of (next_record (Belts row mask toward size) (plain_bits f))
  belts_run row mask toward size ok e =
      let i = Belts row mask toward size in
      moved_by_lem f i (belt_content row mask toward size) (λ j. itself (slot_place j))
      (belts_right row mask toward size (true→T (well i (plain_bits f) ok)) (no_gap_belts row mask toward size (plain_bits f) ok))
      (record { is = e ∙ listed_same 40 _ _ (λ k h. belt_has row mask toward size (cell_bits f.cells) k) })
      (slots_start f.slots full.slots)

-- ---- shuttles

slot_has : (side orientation : ℕ) (f : Bits) (from : Option ℕ) → slot_from side orientation f from ≡ has (slot_content side orientation from) f
slot_has side orientation f None = refl
slot_has side orientation f (Some row) = sym (and-true (f (slot side orientation row)))

module _ (side mask orientation toward : ℕ) where
  slots_told : side ≤ 1 → orientation ≤ 1 → (a : List Bool) → length a ≡ 12 → (n : ℕ) → n ≤ 3
      → Told 12 (slot_bits a) (slots_after side mask orientation toward a n) (slot_contents side mask orientation toward n)
  unfolding slots_after slot_contents
  slots_told s o a len zero h = slots_start a len
  slots_told s o a len (suc n) h =
      told_set (slots_told s o a len n (omega arith)) (slot_index side orientation (suc n)) (slot_content side orientation (row_source mask toward (suc n)))
      (omega arith) (slot_has side orientation (slot_bits a) (row_source mask toward (suc n)))

place_cell : (side row k : ℕ) → side ≤ 1 → T (elem k (place side row)) → k < 40
place_cell side row k s = go (eqb row 1) (eqb row 2)
  where
    go : (a b : Bool) → T (elem k (cond a (from (side * 18) 2) (cond b (from (20 + side * 9) 1) (from (30 + side * 9) 1)))) → k < 40
    go true b m = let h = from_elem k (side * 18) 2 m in omega arith
    go false true m = let h = from_elem k (20 + side * 9) 1 m in omega arith
    go false false m = let h = from_elem k (30 + side * 9) 1 m in omega arith

car_has : (side : ℕ) (f : Bits) (from : Option ℕ) → car_at side f from ≡ has (car_content side from) f
car_has side f None = refl
car_has side f (Some row) = refl

module _ (side mask toward : ℕ) where
  cells_told : side ≤ 1 → (a : List Bool) → length a ≡ 40 → (n : ℕ) → Told 40 (cell_bits a) (cells_after side mask toward a n) (cell_contents side mask toward n)
  unfolding cells_after row_from cell_contents
  cells_told s a len zero = cells_start a len
  cells_told s a len (suc n) =
      let before = cells_told s a len n in
      let from = row_source mask toward (suc n) in
      told_either (is_row from (suc n)) before
      (told_stored before (place side (suc n)) (car_content side from) (λ k. place_cell side (suc n) k s) (car_has side (cell_bits a) from))

module _ (f : Floor) (full : Sized f) where
  pub shuttles_moved : (side mask orientation toward : ℕ) → allowed (Shuttles side mask orientation toward) (plain_bits f) ≡ true
      → {c s : List Bool} → s ≡ slots_after side mask orientation toward f.slots 3
      → c ≡ cond (eqb orientation lowered) (cells_after side mask toward f.cells 3) f.cells
      → record { cells = c; slots = s; car = f.car; height = f.height; coming = f.coming; going = f.going }
      ≡ floor_of (next_record (Shuttles side mask orientation toward) (plain_bits f))
  shuttles_moved side mask orientation toward ok p q =
      let i = Shuttles side mask orientation toward in
      let b = shuttles_ranges side mask orientation toward (true→T (well i (plain_bits f) ok)) in
      let v = slots_told side mask orientation toward b.0 b.2 f.slots full.slots 3 (omega arith) in
      let w = told_either (eqb orientation lowered) (cells_told side mask toward b.0 f.cells full.cells 3) (cells_start f.cells full.cells) in
      moved_by_lem f i (λ k. cond (eqb orientation lowered) (cell_contents side mask toward 3 k) (itself k)) (slot_contents side mask orientation toward 3)
      (shuttles_right side mask orientation toward (true→T (well i (plain_bits f) ok)) (no_gap_rows side mask orientation toward (plain_bits f) ok))
      (record { is = q ∙ w.is })
      (record { is = p ∙ v.is })

  -- ---- a tilt

  pub tilt_moved : (side row orientation : ℕ) → T (well_formed (Tilt side row orientation)) → {from to : ℕ} {s : List Bool}
      → from ≡ slot_index side orientation row → to ≡ slot_index side (1 - orientation) row → s ≡ set (set f.slots from false) to true
      → from < 12 → to < 12
      → record { cells = f.cells; slots = s; car = f.car; height = f.height; coming = f.coming; going = f.going }
      ≡ floor_of (next_record (Tilt side row orientation) (plain_bits f))
  unfolding tilt_contents
  tilt_moved side row orientation w {from} {to} d e p h l =
      let v = told_set (told_set (slots_start f.slots full.slots) from (told false) h refl) to (told true) l refl in
      moved_by_lem f (Tilt side row orientation) itself (tilt_contents side row orientation) (tilt_right side row orientation w)
      (cells_start f.cells full.cells)
      (record {
        is = p ∙ v.is
            ∙ ap₂ (λ (m n : ℕ). listed 12 (λ j. has (cond (eqb n j) (told true) (cond (eqb m j) (told false) (itself (slot_place j)))) (slot_bits f.slots))) d e;
      })

  -- ---- rotating

  pub rotated : f ≡ floor_of (next_record Rotate (plain_bits f))
  unfolding next_record
  rotated = floor_kept f (plain_bits f) full (λ k. refl)
