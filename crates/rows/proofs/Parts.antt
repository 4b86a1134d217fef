-- A row of masks judges as its steps do. Assumes nothing.
use mathlib.Core.Path.{◌≡◌, refl, sym, ap₂, ◌∙◌}
use mathlib.Core.Bool.{Bool, true, false, cond, not}
use mathlib.Core.List.{List, [], ◌∷◌}
use Prim.Native.Nat.{ℕ, ◌^◌}
use lib.Bits.{bit_and}
use lib.Dec.{eqb, ltb}
use borrow.Author.Tests.{ltb-true, eqb-true}
use Rattle.bits.specs.Bits.{bit}
use Rattle.bits.proofs.Cases.{both}
use Rattle.bits.specs.Places.{places}
use Rattle.floor.specs.Tests.{fact, even}
use Rattle.rules.specs.declared.Refusal.{Refusal}
use Rattle.std.specs.declared.result.Result.TheVariants.{Err}
use Rattle.rules.specs.Verdicts.{Verdict}
use Rattle.rows.specs.Private.{Part, look, pairs, halt, because, passes, judged_row}
use Rattle.rows.proofs.Steps.{atoms_of, row_steps, run, fits, all_fit}
use Rattle.rows.proofs.Flat.{all_meet, flat_right, one_reason}
use Rattle.rows.proofs.Looks.{look_right}

not_not : (b : Bool) → not (not b) ≡ b
not_not true = refl
not_not false = refl

module _ (r : ℕ) where
  part_right : (p : Part) → fits p ≡ true → passes p r ≡ all_meet (atoms_of p) (bit r)
  unfolding all_meet
  part_right (look care need why) h =
      let b = both (ltb care (2 ^ 64)) (eqb (bit_and need care) need) h in
      look_right r care need (ltb-true care (2 ^ 64) b.0) (eqb-true (bit_and need care) need b.1)
  part_right (pairs true m) h = not_not _ ∙ flat_right (bit r) (even (places m))
  part_right (pairs false m) h = refl
  part_right (halt b why) h = flat_right (bit r) (fact (not b))

  pub row_right : (ps : List Part) → all_fit ps ≡ true → judged_row ps r ≡ run (row_steps ps) (bit r)
  row_right [] h = refl
  row_right (p ∷ ps) h =
      let b = both (fits p) (all_fit ps) h in
      ap₂ (λ (t : Bool) (v : Verdict). cond t v (Err (Refusal.NotAllowed (because p)))) (part_right p b.0) (row_right ps b.1)
      ∙ sym (one_reason (bit r) (atoms_of p) (because p) (row_steps ps))
