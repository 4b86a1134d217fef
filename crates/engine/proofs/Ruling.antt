-- The rows of masks rule as the instructions do, given an instruction's area: variant by variant, for the code's branches. Assumes nothing.
use mathlib.Core.Path.{◌≡◌, refl, sym, ap, ◌∙◌}
use mathlib.Core.Bool.{Bool, true, false, not, beq, ◌&&◌, ◌||◌}
use mathlib.Core.List.{List}
use Prim.Native.Nat.{ℕ, ◌^◌, ◌<◌}
use native.Mathlib.Omega.{arith}
use lib.Dec.{T, eqb, leb, leb→le}
use lib.ListN.{drop}
use Rattle.bits.specs.Bits.{Bits, bit, image}
use Rattle.bits.specs.Places.{is_empty, adjacent}
use Rattle.bits.specs.Search.{every}
use Rattle.bits.proofs.Cases.{true→T, beq→eq, both, and_l, and_r}
use Rattle.floor.specs.Tests.{all_hold}
use Rattle.rules.specs.declared.Instruction.{Instruction}
use Rattle.rules.specs.declared.Instruction.TheVariants.{Belts, Shuttles, Tilt, Lift, Rotate}
use Rattle.rules.specs.Named.{cells, rows_of}
use Rattle.rules.specs.Rules.{well_formed, belts_named, area, clauses, conditions, next_record}
use Rattle.rules.specs.Verdicts.{judged}
use Rattle.rules.proofs.Every.{everywhere, each, named_bounds}
use Rattle.areas.specs.Private.{area_mask}
use Rattle.areas.proofs.Areas.{area_right}
use Rattle.rows.specs.Private.{Part, judged_row, mask_row, belts_row, shuttles_row, tilt_row, rotate_row, Move, move_row, move_of, belts_move, shuttles_move, tilt_move, whole}
use Rattle.rows.proofs.Judging.{is_lift, row_judges}
use Rattle.rows.proofs.Changing.{row_moves}
use Rattle.engine.specs.Judged.{unbroken}

-- what is well formed is in range
pub belts_bounds : (row mask toward size : ℕ) → T (well_formed (Belts row mask toward size)) → (mask < 32) × (toward < 2)
belts_bounds row mask toward size w =
    let p = and_l (belts_named row mask && leb toward 1) (leb size 1) w in
    ((named_bounds row mask (and_l (belts_named row mask) (leb toward 1) p)).1, omega (arith, leb→le toward 1 (and_r (belts_named row mask) (leb toward 1) p)))

shuttles_bounds : (side mask orientation toward : ℕ) → T (well_formed (Shuttles side mask orientation toward))
    → (side < 2) × (mask < 8) × (orientation < 2) × (toward < 2)
shuttles_bounds side mask orientation toward w =
    let p = and_l (leb side 1 && leb mask 7 && leb orientation 1) (leb toward 1) w in
    let q = and_l (leb side 1 && leb mask 7) (leb orientation 1) p in (
      omega (arith, leb→le side 1 (and_l (leb side 1) (leb mask 7) q)),
      omega (arith, leb→le mask 7 (and_r (leb side 1) (leb mask 7) q)),
      omega (arith, leb→le orientation 1 (and_r (leb side 1 && leb mask 7) (leb orientation 1) p)),
      omega (arith, leb→le toward 1 (and_r (leb side 1 && leb mask 7 && leb orientation 1) (leb toward 1) w)),
    )

-- the same of an instruction that is such a one
module _ (i : Instruction) (w : well_formed i ≡ true) where
  pub belts_in : {row mask toward size : ℕ} → i ≡ Belts row mask toward size → (mask < 32) × (toward < 2)
  belts_in {row} {mask} {toward} {size} e = belts_bounds row mask toward size (true→T (ap well_formed (sym e) ∙ w))

  pub shuttles_in : {side mask orientation toward : ℕ} → i ≡ Shuttles side mask orientation toward → (side < 2) × (mask < 8) × (orientation < 2) × (toward < 2)
  shuttles_in {side} {mask} {orientation} {toward} e = shuttles_bounds side mask orientation toward (true→T (ap well_formed (sym e) ∙ w))

-- the code's test of a gap is the rules'
alike : Instruction → Bool
alike i = beq (whole i) (unbroken i)

all_alike : T (everywhere alike)
unfolding everywhere every alike
all_alike = tt

pub whole_right : (i : Instruction) → well_formed i ≡ true → whole i ≡ unbroken i
unfolding alike
whole_right i w = beq→eq (whole i) (unbroken i) (each alike all_alike i (true→T w))

-- what a record allows has no gap
pub allowed_unbroken : (i : Instruction) (f : Bits) → all_hold (conditions i) f ≡ true → unbroken i ≡ true
allowed_unbroken (Belts row mask toward size) f h =
    let cs = conditions (Belts row mask toward size) in
    (both (adjacent (cells row mask)) (all_hold (drop 3 cs) f) (both (not (is_empty (cells row mask))) (all_hold (drop 2 cs) f) (both (eqb row 1 || eqb size 1) (all_hold (drop 1 cs) f) h).1).1).0
allowed_unbroken (Shuttles side mask orientation toward) f h =
    let cs = conditions (Shuttles side mask orientation toward) in
    (both (adjacent (rows_of mask)) (all_hold (drop 2 cs) f) (both (not (is_empty (rows_of mask))) (all_hold (drop 1 cs) f) h).1).0
allowed_unbroken (Tilt side row orientation) f h = refl
allowed_unbroken (Lift height) f h = refl
allowed_unbroken Rotate f h = refl

module _ (i : Instruction) (r a : ℕ) (w : well_formed i ≡ true) (q : a ≡ image (area i)) where
  -- i is a variant j; its row is made from the area
  module _ (j : Instruction) (e : i ≡ j) (l : is_lift j ≡ false) where
    well : well_formed j ≡ true
    well = ap well_formed (sym e) ∙ w

    mask : a ≡ area_mask j
    mask = q ∙ ap (λ i. image (area i)) e ∙ sym (area_right j well)

    judges : (row : ℕ → List Part) → row (area_mask j) ≡ mask_row j → judged_row (row a) r ≡ judged (clauses i) (bit r)
    judges row p =
        ap (λ x. judged_row (row x) r) mask ∙ ap (λ ps. judged_row ps r) p ∙ row_judges j r well l ∙ ap (λ i. judged (clauses i) (bit r)) (sym e)

    moves : (move : ℕ → Move) → move (area_mask j) ≡ move_of j → whole i ≡ true → (x : ℕ) → x < 2 ^ 64 → x ≡ move_row (move a) r → x ≡ image (next_record i (bit r))
    moves move p h x small c =
        let same : x ≡ move_row (move_of j) r = c ∙ ap (λ y. move_row (move y) r) mask ∙ ap (λ m. move_row m r) p in
        same ∙ row_moves j r well l (ap whole (sym e) ∙ h) (omega (arith, small, same)) ∙ ap (λ i. image (next_record i (bit r))) (sym e)

  pub belts_judge : {row mask toward size : ℕ} → i ≡ Belts row mask toward size → judged_row (belts_row a row mask toward size) r ≡ judged (clauses i) (bit r)
  unfolding mask_row
  belts_judge {row} {mask} {toward} {size} e = judges (Belts row mask toward size) e refl (λ a. belts_row a row mask toward size) refl

  pub shuttles_judge : {side mask orientation toward : ℕ} → i ≡ Shuttles side mask orientation toward → judged_row (shuttles_row a side mask orientation) r ≡ judged (clauses i) (bit r)
  unfolding mask_row
  shuttles_judge {side} {mask} {orientation} {toward} e = judges (Shuttles side mask orientation toward) e refl (λ a. shuttles_row a side mask orientation) refl

  pub tilt_judge : {side row orientation : ℕ} → i ≡ Tilt side row orientation → judged_row (tilt_row a orientation) r ≡ judged (clauses i) (bit r)
  unfolding mask_row
  tilt_judge {side} {row} {orientation} e = judges (Tilt side row orientation) e refl (λ a. tilt_row a orientation) refl

  pub rotate_judge : i ≡ Rotate → judged_row rotate_row r ≡ judged (clauses i) (bit r)
  unfolding mask_row
  rotate_judge e = judges Rotate e refl (λ a. rotate_row) refl

  module _ (h : whole i ≡ true) (x : ℕ) (small : x < 2 ^ 64) where
    pub belts_move_lem : {row mask toward size : ℕ} → i ≡ Belts row mask toward size → x ≡ move_row (belts_move a row toward size) r → x ≡ image (next_record i (bit r))
    unfolding move_of
    belts_move_lem {row} {mask} {toward} {size} e = moves (Belts row mask toward size) e refl (λ a. belts_move a row toward size) refl h x small

    pub shuttles_move_lem : {side mask orientation toward : ℕ} → i ≡ Shuttles side mask orientation toward → x ≡ move_row (shuttles_move a toward) r → x ≡ image (next_record i (bit r))
    unfolding move_of
    shuttles_move_lem {side} {mask} {orientation} {toward} e = moves (Shuttles side mask orientation toward) e refl (λ a. shuttles_move a toward) refl h x small

    pub tilt_move_lem : {side row orientation : ℕ} → i ≡ Tilt side row orientation → x ≡ move_row (tilt_move a orientation) r → x ≡ image (next_record i (bit r))
    unfolding move_of
    tilt_move_lem {side} {row} {orientation} e = moves (Tilt side row orientation) e refl (λ a. tilt_move a orientation) refl h x small
