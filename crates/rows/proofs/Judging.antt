-- The rows ask what the rules ask, one test for each kind of instruction but the lift's runs, at every one that is well formed. Assumes
-- nothing.
use mathlib.Core.Path.{◌≡◌, sym, ap, ◌∙◌}
use mathlib.Core.Bool.{Bool, true, false, cond, ◌&&◌, true≢false}
use Prim.Native.Nat.{ℕ}
use lib.Dec.{T, eqb}
use Rattle.bits.specs.Bits.{bit}
use Rattle.bits.specs.Places.{places}
use Rattle.bits.specs.Search.{every}
use Rattle.bits.proofs.Cases.{true→T, T→true, both}
use Rattle.rules.specs.declared.Instruction.{Instruction}
use Rattle.rules.specs.declared.Instruction.TheVariants.{Belts, Shuttles, Tilt, Lift, Rotate}
use Rattle.rules.specs.Rules.{well_formed, clauses}
use Rattle.rules.specs.Verdicts.{judged}
use Rattle.rules.proofs.Every.{everywhere, each}
use Rattle.rows.specs.Private.{judged_row, mask_row}
use Rattle.rows.proofs.Steps.{steps, cut, run, row_steps, all_fit}
use Rattle.areas.specs.Private.{belts_mask, rows_mask, positions, tilted_slots, shuttles_mask, corner, tilt_mask, area_mask}
use Rattle.rows.proofs.Flat.{steps_right, cut_right}
use Rattle.rows.proofs.Parts.{row_right}
use Rattle.rows.proofs.Same.{same_steps, steps_same}

abbrev pub is_lift : Instruction → Bool
is_lift (Belts row mask toward size) = false
is_lift (Shuttles side mask orientation toward) = false
is_lift (Tilt side row orientation) = false
is_lift (Lift height) = true
is_lift Rotate = false

abbrev asks : Instruction → Bool
asks i = let ps = mask_row i in all_fit ps && same_steps (cut (row_steps ps)) (cut (steps (clauses i)))

-- the kinds of instructions
abbrev pub kind : Instruction → ℕ
kind (Belts row mask toward size) = 1
kind (Shuttles side mask orientation toward) = 2
kind (Tilt side row orientation) = 3
kind (Lift height) = 4
kind Rotate = 5

abbrev tried : ℕ → Instruction → Bool
tried k i = cond (eqb (kind i) k) (asks i) true

belts_ask : T (everywhere (tried 1))
unfolding everywhere every places mask_row belts_mask rows_mask positions tilted_slots shuttles_mask corner tilt_mask area_mask
belts_ask = tt

shuttles_ask : T (everywhere (tried 2))
unfolding everywhere every places mask_row belts_mask rows_mask positions tilted_slots shuttles_mask corner tilt_mask area_mask
shuttles_ask = tt

tilts_ask : T (everywhere (tried 3))
unfolding everywhere every places mask_row belts_mask rows_mask positions tilted_slots shuttles_mask corner tilt_mask area_mask
tilts_ask = tt

rotate_asks : T (everywhere (tried 5))
unfolding everywhere every places mask_row belts_mask rows_mask positions tilted_slots shuttles_mask corner tilt_mask area_mask
rotate_asks = tt

ask : (i : Instruction) → is_lift i ≡ false → T (well_formed i) → asks i ≡ true
ask (Belts row mask toward size) l w = T→true (asks _) (each (tried 1) belts_ask (Belts row mask toward size) w)
ask (Shuttles side mask orientation toward) l w = T→true (asks _) (each (tried 2) shuttles_ask (Shuttles side mask orientation toward) w)
ask (Tilt side row orientation) l w = T→true (asks _) (each (tried 3) tilts_ask (Tilt side row orientation) w)
ask (Lift height) l w = absurd (true≢false l)
ask Rotate l w = T→true (asks _) (each (tried 5) rotate_asks Rotate w)

-- on every record
pub row_judges : (i : Instruction) (r : ℕ) → well_formed i ≡ true → is_lift i ≡ false → judged_row (mask_row i) r ≡ judged (clauses i) (bit r)
row_judges i r w l =
    let ps = mask_row i in
    let b = both (all_fit ps) (same_steps (cut (row_steps ps)) (cut (steps (clauses i)))) (ask i l (true→T w)) in
    row_right r ps b.0
    ∙ sym (cut_right (bit r) (row_steps ps)) ∙ ap (λ ss. run ss (bit r)) (steps_same (cut (row_steps ps)) (cut (steps (clauses i))) b.1) ∙ cut_right (bit r) (steps (clauses i))
    ∙ sym (steps_right (bit r) (clauses i))
