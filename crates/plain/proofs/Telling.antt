-- Conditions by their numbers: the one that the code tells is the list's, and what a search for the first that fails says. Assumes nothing.
use mathlib.Core.Path.{◌≡◌, refl, sym, ap, ◌∙◌}
use mathlib.Core.Bool.{Bool, true, false, not, cond}
use mathlib.Core.List.{List, [], ◌∷◌}
use Prim.Native.Nat.{ℕ, zero, suc, ◌+◌, ◌≤◌, ◌<◌}
use native.Mathlib.Omega.{arith}
use native.Mathlib.Numerals.{add-one}
use lib.ListN.{length, drop, drop_of_length-le}
use Rattle.std.specs.declared.option.Option.{Option}
use Rattle.std.specs.declared.option.Option.TheVariants.{Some, None}
use Rattle.bits.specs.Bits.{Bits}
use Rattle.bits.proofs.Cases.{passed, failed}
use Rattle.answers.specs.declared.Reason.{Reason}
use Rattle.rules.specs.declared.Instruction.{Instruction}
use Rattle.rules.specs.declared.Instruction.TheVariants.{Belts, Shuttles, Tilt, Lift, Rotate}
use Rattle.rules.specs.declared.Refusal.{Refusal}
use Rattle.std.specs.declared.result.Result.TheVariants.{Ok, Err}
use Rattle.rules.specs.Rules.{well_formed, Clause, ◌else◌, clauses}
use Rattle.rules.specs.Verdicts.{judged}
use Rattle.floor.specs.Tests.{holds}
use Rattle.plain.specs.declared.Condition.{Condition}
use Rattle.plain.specs.Conditions.{condition_in, condition_of, verdict_on}
use Rattle.plain.specs.Private.{condition, failing}

-- ---- one condition

-- what is told of condition k of a list
pub told : (cs : List Clause) (f : Bits) {c : ℕ} (k : ℕ) → c ≡ k → {x : Option Condition} {a : Bool} (b : Bool) (why : Reason) → x ≡ condition a why → a ≡ b
    → condition b why ≡ condition_in cs k f → x ≡ condition_in cs c f
told cs f k key b why e d same = e ∙ ap (λ (t : Bool). condition t why) d ∙ same ∙ ap (λ (n : ℕ). condition_in cs n f) (sym key)

pub past : (cs : List Clause) (f : Bits) (c : ℕ) → length cs ≤ c → None ≡ condition_in cs c f
past [] f c h = refl
past ((t else why) ∷ cs) f zero h = absurd (omega arith)
past ((t else why) ∷ cs) f (suc c) h = past cs f c (omega arith)

-- those of an instruction
module _ (i : Instruction) (c : ℕ) (f : Bits) {b : Bool} (p : b ≡ well_formed i) where
  pub of_ill : not b ≡ true → None ≡ condition_of i c f
  unfolding condition_of
  of_ill q = rw (failed p q)

  pub of_well : not b ≡ false → condition_in (clauses i) c f ≡ condition_of i c f
  unfolding condition_of
  of_well q = rw (passed p q)

  -- told of the variant that it is
  pub of_variant : not b ≡ false → {j : Instruction} → i ≡ j → {x : Option Condition} → x ≡ condition_in (clauses j) c f → x ≡ condition_of i c f
  of_variant q e d = d ∙ ap (λ (k : Instruction). condition_in (clauses k) c f) (sym e) ∙ of_well q

-- ---- the search for the first that fails

holds_on : (cs : List Clause) (f : Bits) (c : ℕ) → None ≡ failing (condition_in cs c f) → judged (drop c cs) f ≡ judged (drop (suc c) cs) f
holds_on [] f zero h = refl
holds_on [] f (suc c) h = refl
holds_on ((t else why) ∷ cs) f zero h = go (holds t f) h
  where
    go : (b : Bool) → None ≡ cond b None (Some why) → cond b (judged cs f) (Err (Refusal.NotAllowed why)) ≡ judged cs f
    go true e = refl
    go false e = cc
holds_on ((t else why) ∷ cs) f (suc c) h = holds_on cs f c h

fails_at : (cs : List Clause) (f : Bits) (c : ℕ) {w : Reason} → Some w ≡ failing (condition_in cs c f) → judged (drop c cs) f ≡ Err (Refusal.NotAllowed w)
fails_at [] f c h = cc
fails_at ((t else why) ∷ cs) f zero {w} h = go (holds t f) h
  where
    go : (b : Bool) → Some w ≡ cond b None (Some why) → cond b (judged cs f) (Err (Refusal.NotAllowed why)) ≡ Err (Refusal.NotAllowed w)
    go true e = cc
    go false e = cc
fails_at ((t else why) ∷ cs) f (suc c) h = fails_at cs f c h

-- no instruction has more than six
at_most_six : (i : Instruction) → length (clauses i) ≤ 6
at_most_six (Belts row mask toward size) = omega arith
at_most_six (Shuttles side mask orientation toward) = omega arith
at_most_six (Tilt side row orientation) = omega arith
at_most_six (Lift height) = omega arith
at_most_six Rotate = omega arith

-- the first c hold, and the rest decides
pub record Searched (i : Instruction) (f : Bits) (c : ℕ) : Type 0 where
  pub within : c ≤ 6
  pub rest : judged (drop c (clauses i)) f ≡ verdict_on i f

module _ (i : Instruction) (f : Bits) {b : Bool} (p : b ≡ well_formed i) where
  pub ill_formed : not b ≡ true → Err Refusal.IllFormed ≡ verdict_on i f
  unfolding verdict_on
  ill_formed q = rw (failed p q)

  module _ (q : not b ≡ false) where
    pub search_starts : Searched i f 0
    unfolding verdict_on
    search_starts = record { within = omega arith; rest = rw (passed p q) }

    module _ {c : ℕ} {x : Option Reason} (v : Searched i f c) (e : x ≡ failing (condition_of i c f)) where
      same : x ≡ failing (condition_in (clauses i) c f)
      same = e ∙ ap failing (sym (of_well i c f p q))

      pub search_goes_on : c < 6 → x ≡ None → Searched i f (c + 1)
      search_goes_on h y =
          let on = holds_on (clauses i) f c (sym y ∙ same) in
          record { within = omega arith; rest = rw (add-one c) (sym on ∙ v.rest) }

      pub search_stops : {why : Reason} → x ≡ Some why → Err (Refusal.NotAllowed why) ≡ verdict_on i f
      search_stops y = sym (fails_at (clauses i) f c (sym y ∙ same)) ∙ v.rest

pub search_ends : {i : Instruction} {f : Bits} {c : ℕ} → Searched i f c → 6 ≤ c → Ok tt ≡ verdict_on i f
search_ends {i} {f} {c} v h =
    let few : length (clauses i) ≤ c = omega (arith, at_most_six i) in
    let none : drop c (clauses i) ≡ [] = drop_of_length-le (clauses i) few in
    ap (λ (cs : List Clause). judged cs f) (sym none) ∙ v.rest
