-- Conditions judge as their steps do. Assumes nothing.
use mathlib.Core.Path.{◌≡◌, refl, sym, ap, ap₂, ◌∙◌}
use mathlib.Core.Bool.{Bool, true, false, cond, not, ◌&&◌, and-true, and_assoc}
use mathlib.Core.List.{List, [], ◌∷◌, ◌++◌, map}
use Prim.Native.Nat.{ℕ, zero, suc, ◌+◌}
use native.Mathlib.Omega.{arith}
use lib.Dec.{eqb}
use borrow.Author.Tests.{ne_eqb}
use Rattle.bits.specs.Bits.{Bits, count, digit, all_set}
use Rattle.floor.specs.Tests.{Test, fact, set, exactly, even, no, both, either, holds}
use Rattle.answers.specs.declared.Reason.{Reason}
use Rattle.rules.specs.declared.Refusal.{Refusal}
use Rattle.std.specs.declared.result.Result.TheVariants.{Err}
use Rattle.rules.specs.Rules.{Clause, ◌else◌}
use Rattle.rules.specs.Verdicts.{Verdict, judged}
use Rattle.rows.proofs.Steps.{Atom, Never, Look, Even, Other, meets, flat, Step, ◌or◌, run, steps, cut}

unfoldable pub all_meet : List Atom → Bits → Bool
all_meet [] f = true
all_meet (a ∷ as') f = meets a f && all_meet as' f

module _ (f : Bits) where
  append : (x y : List Atom) → all_meet (x ++ y) f ≡ all_meet x f && all_meet y f
  unfolding all_meet
  append [] y = refl
  append (a ∷ x) y = ap (λ (b : Bool). meets a f && b) (append x y) ∙ sym (and_assoc (meets a f) (all_meet x f) (all_meet y f))

  all_set_lem : (ks : List ℕ) → all_set ks f ≡ all_meet (map (Look true) ks) f
  unfolding all_meet
  all_set_lem [] = refl
  all_set_lem (k ∷ ks) = ap (λ (b : Bool). f k && b) (all_set_lem ks)

  none_set : (ks : List ℕ) → eqb (count ks f) 0 ≡ all_meet (map (Look false) ks) f
  unfolding all_meet
  none_set [] = refl
  none_set (k ∷ ks) = go (f k) (none_set ks)
    where
      go : (b : Bool) → eqb (count ks f) 0 ≡ all_meet (map (Look false) ks) f → eqb (digit b + count ks f) 0 ≡ not b && all_meet (map (Look false) ks) f
      go true e = ne_eqb (1 + count ks f) 0 (λ z. omega (arith, z))
      go false e = let z : 0 + count ks f ≡ count ks f = omega arith in ap (λ (n : ℕ). eqb n 0) z ∙ e

  pub flat_right : (t : Test) → holds t f ≡ all_meet (flat t) f
  unfolding all_meet
  flat_right (fact true) = refl
  flat_right (fact false) = refl
  flat_right (set ks) = all_set_lem ks
  flat_right (exactly zero ks) = none_set ks
  flat_right (exactly (suc n) ks) = sym (and-true _)
  flat_right (even []) = refl
  flat_right (even (k ∷ ks)) = sym (and-true _)
  flat_right (no t) = sym (and-true _)
  flat_right (both t u) = ap₂ ◌&&◌ (flat_right t) (flat_right u) ∙ sym (append (flat t) (flat u))
  flat_right (either t u) = sym (and-true _)

  -- several with one reason
  pub one_reason : (as' : List Atom) (why : Reason) (ss : List Step)
      → run (map (λ a. a or why) as' ++ ss) f ≡ cond (all_meet as' f) (run ss f) (Err (Refusal.NotAllowed why))
  unfolding all_meet
  one_reason [] why ss = refl
  one_reason (a ∷ as') why ss = go (meets a f) (one_reason as' why ss)
    where
      go : (b : Bool) → run (map (λ a. a or why) as' ++ ss) f ≡ cond (all_meet as' f) (run ss f) (Err (Refusal.NotAllowed why))
          → cond b (run (map (λ a. a or why) as' ++ ss) f) (Err (Refusal.NotAllowed why)) ≡ cond (b && all_meet as' f) (run ss f) (Err (Refusal.NotAllowed why))
      go true e = e
      go false e = refl

  pub steps_right : (cs : List Clause) → judged cs f ≡ run (steps cs) f
  steps_right [] = refl
  steps_right ((t else why) ∷ cs) =
      ap₂ (λ (b : Bool) (v : Verdict). cond b v (Err (Refusal.NotAllowed why))) (flat_right t) (steps_right cs)
      ∙ sym (one_reason (flat t) why (steps cs))

  pub cut_right : (ss : List Step) → run (cut ss) f ≡ run ss f
  cut_right [] = refl
  cut_right ((Never or why) ∷ ss) = refl
  cut_right ((Look b k or why) ∷ ss) = ap (λ (v : Verdict). cond (meets (Look b k) f) v (Err (Refusal.NotAllowed why))) (cut_right ss)
  cut_right ((Even ks or why) ∷ ss) = ap (λ (v : Verdict). cond (meets (Even ks) f) v (Err (Refusal.NotAllowed why))) (cut_right ss)
  cut_right ((Other t or why) ∷ ss) = ap (λ (v : Verdict). cond (holds t f) v (Err (Refusal.NotAllowed why))) (cut_right ss)
