-- The parts that the code finds for each condition are those that the condition reads: a computed test at every instruction; past the last
-- condition both are none. Assumes nothing.
use mathlib.Core.Path.{◌≡◌, refl, sym, ap, ◌∙◌}
use mathlib.Core.Logic.{⊎_elim}
use mathlib.Core.Bool.{Bool, true, false, cond}
use mathlib.Core.List.{[]}
use Prim.Native.Nat.{ℕ, suc, ◌-◌, ◌≤◌, ◌<◌}
use native.Mathlib.Omega.{arith}
use lib.Dec.{T, eqb}
use borrow.Author.Tests.{ne_eqb}
use Rattle.bits.specs.Search.{every}
use Rattle.bits.proofs.Cases.{split, true→T}
use Rattle.bits.proofs.Search.{each as each_below, lt_or_ge}
use Rattle.floor.specs.Floor.{lowered}
use Rattle.rules.specs.declared.Instruction.{Instruction}
use Rattle.rules.specs.declared.Instruction.TheVariants.{Belts, Shuttles, Tilt, Lift, Rotate}
use Rattle.rules.specs.Rules.{well_formed, clauses}
use Rattle.rules.proofs.Every.{everywhere, each}
use Rattle.plain.specs.Plain.{listed}
use Rattle.plain_moves.specs.declared.Parts.{Parts}
use Rattle.plain_moves.specs.Moves.{parts_at, area_parts}
use Rattle.plain_moves.proofs.Marking.{same_parts, parts_eq}
use Rattle.panel.specs.Panel.{read_by, read_in}
use Rattle.panel.specs.Private.{no_parts, cell_from_end, end_from, belts_read, slots_of_rows, rows_ahead, shuttle_cells, shuttles_read, tilt_read, lift_read, rotate_read, parts_read}

-- ---- every condition that an instruction has

abbrev right : Instruction → Bool
right i = every 6 (λ c. same_parts (parts_read i c) (parts_at (read_in (clauses i) c)))

all_right_lem : T (everywhere right)
unfolding everywhere every parts_at area_parts listed read_by cell_from_end end_from belts_read slots_of_rows rows_ahead shuttle_cells shuttles_read tilt_read lift_read rotate_read parts_read
all_right_lem = tt

-- ---- and past the last

pub none_read : no_parts ≡ parts_at []
unfolding parts_at listed
none_read = refl

module _ (c : ℕ) (h : 6 ≤ c) where
  other : (n : ℕ) → n < 6 → eqb c n ≡ false
  other n l = ne_eqb c n (omega arith)

  none_found : (i : Instruction) → parts_read i c ≡ no_parts
  unfolding parts_read belts_read shuttles_read tilt_read lift_read rotate_read
  none_found (Belts row mask toward size) = rw (other 3 (omega arith), other 4 (omega arith), other 5 (omega arith))
  none_found (Shuttles side mask orientation toward) = rw (other 2 (omega arith), other 3 (omega arith), other 4 (omega arith))
  none_found (Tilt side row orientation) = rw (other 0 (omega arith), other 1 (omega arith)) (split (eqb orientation lowered) (λ t. rw t) (λ t. rw t))
  none_found (Lift height) = rw (other 0 (omega arith), other 1 (omega arith))
  none_found Rotate = rw (other 0 (omega arith), other 1 (omega arith))

none_asked : (i : Instruction) (c : ℕ) → read_in (clauses i) (suc (suc (suc (suc (suc (suc c)))))) ≡ []
none_asked (Belts row mask toward size) c = refl
none_asked (Shuttles side mask orientation toward) c = refl
none_asked (Tilt side row orientation) c = refl
none_asked (Lift height) c = refl
none_asked Rotate c = refl

pub past_last : (i : Instruction) (c : ℕ) → 6 ≤ c → read_in (clauses i) c ≡ []
past_last i c l = let e : c ≡ suc (suc (suc (suc (suc (suc (c - 6)))))) = omega arith in ap (read_in (clauses i)) e ∙ none_asked i (c - 6)

read_right : (i : Instruction) → well_formed i ≡ true → (c : ℕ) → parts_read i c ≡ parts_at (read_in (clauses i) c)
read_right i w c = ⊎_elim
    (λ (l : c < 6). parts_eq _ _ (each_below 6 _ (each right all_right_lem i (true→T w)) c l))
    (λ (l : 6 ≤ c). none_found c l i ∙ none_read ∙ ap parts_at (sym (past_last i c l))) (lt_or_ge c 6)

-- as the contract has them: an ill-formed instruction is decided by nothing
pub ill_read : (i : Instruction) (c : ℕ) {p : Parts} → well_formed i ≡ false → p ≡ no_parts → p ≡ parts_at (read_in (cond (well_formed i) (clauses i) []) c)
ill_read i c w e = rw w (e ∙ none_read)

well_read : (i : Instruction) (c : ℕ) {p : Parts} → well_formed i ≡ true → p ≡ parts_read i c → p ≡ parts_at (read_in (cond (well_formed i) (clauses i) []) c)
well_read i c w e = rw w (e ∙ read_right i w c)

module _ (i : Instruction) (c : ℕ) (w : well_formed i ≡ true) {area p : Parts} (a : area ≡ area_parts i) where
  pub belts_read_lem : {row mask toward size : ℕ} → i ≡ Belts row mask toward size → p ≡ belts_read area row toward size c
      → p ≡ parts_at (read_in (cond (well_formed i) (clauses i) []) c)
  unfolding parts_read
  belts_read_lem {row} {mask} {toward} {size} e f = well_read i c w (rw e (f ∙ ap (λ (q : Parts). belts_read q row toward size c) (a ∙ ap area_parts e)))

  pub tilt_read_lem : {side row orientation : ℕ} → i ≡ Tilt side row orientation → p ≡ tilt_read area side row orientation c
      → p ≡ parts_at (read_in (cond (well_formed i) (clauses i) []) c)
  unfolding parts_read
  tilt_read_lem {side} {row} {orientation} e f = well_read i c w (rw e (f ∙ ap (λ (q : Parts). tilt_read q side row orientation c) (a ∙ ap area_parts e)))

  pub rotate_read_lem : i ≡ Rotate → p ≡ rotate_read area c → p ≡ parts_at (read_in (cond (well_formed i) (clauses i) []) c)
  unfolding parts_read
  rotate_read_lem e f = well_read i c w (rw e (f ∙ ap (λ (q : Parts). rotate_read q c) (a ∙ ap area_parts e)))

module _ (i : Instruction) (c : ℕ) (w : well_formed i ≡ true) {p : Parts} where
  pub shuttles_read_lem : {side mask orientation toward : ℕ} → i ≡ Shuttles side mask orientation toward → p ≡ shuttles_read side mask orientation toward c
      → p ≡ parts_at (read_in (cond (well_formed i) (clauses i) []) c)
  unfolding parts_read
  shuttles_read_lem e f = well_read i c w (rw e f)

  pub lift_read_lem : {height : ℕ} → i ≡ Lift height → p ≡ lift_read c → p ≡ parts_at (read_in (cond (well_formed i) (clauses i) []) c)
  unfolding parts_read
  lift_read_lem e f = well_read i c w (rw e f)
