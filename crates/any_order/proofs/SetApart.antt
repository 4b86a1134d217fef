-- What is set apart while an accepted set is outstanding: what was at acceptance, and the areas of the stuck. So that does not
-- depend on the order either, and of the lift nothing is set apart that was not, as long as events may come. Assumes nothing.
use Prim.Native.Nat.{ℕ, ◌<◌}
use mathlib.Core.Path.{◌≡◌, refl, sym, ap, ◌∙◌}
use mathlib.Core.Logic.{⊎_elim}
use mathlib.Core.Bool.{Bool, true, false, ◌&&◌, ◌||◌, or-true}
use Rattle.bits.specs.Search.{some}
use Rattle.bits.proofs.Cases.{split, clash, both, alike, and_intro}
use Rattle.bits.proofs.Search.{some_at, some_is, some_same, none_is}
use Rattle.any_order.proofs.Rules.{Rules}
use Rattle.any_order.proofs.Machine.{Batch, Outcome, sticks, mark, blocks, lost, parted}
use Rattle.any_order.proofs.Orders.{away_after}
use Rattle.any_order.proofs.Facts.{mark_here, mark_kept, mark_cases, blocks_clear}

module _ {W C I E : Type 0} (R : Rules W C I E) (b : Batch I) (choice : ℕ → Outcome) (start : ℕ → Bool) where
  -- `away` is set apart where `ans` are answered
  pub record Gone (ans away : ℕ → Bool) : Type 0 where
    pub at : (k : ℕ) → away k ≡ away_after R b choice start ans k

  -- instruction j, once it is answered, is stuck and has a place in its area; it is answered
  abbrev mine : ℕ → ℕ → Bool
  mine j k = sticks (choice j) && R.area (b.at j) k

  abbrev sunk : (ℕ → Bool) → ℕ → ℕ → Bool
  sunk ans k j = ans j && mine j k

  none_sunk : (ans : ℕ → Bool) (k : ℕ) → ((j : ℕ) → j < b.size → sunk ans k j ≡ false) → away_after R b choice start ans k ≡ start k
  none_sunk ans k h = rw (none_is b.size (sunk ans k) h) (or_none (start k))
    where
      or_none : (x : Bool) → x || false ≡ x
      or_none true = refl
      or_none false = refl

  pub gone_none : Gone (λ j. false) start
  gone_none = record { at = λ k. sym (none_sunk (λ j. false) k (λ j h. refl)) }

  pub gone_all : {ans away : ℕ → Bool} → Gone ans away → ((j : ℕ) → j < b.size → ans j ≡ true) → Gone (λ j. true) away
  gone_all {ans} v all = record { at = λ k. v.at k ∙ ap (λ (x : Bool). start k || x) (some_same b.size (sunk ans k) (sunk (λ j. true) k) (λ j h. rw (all j h))) }

  pub gone_more : {ans away : ℕ → Bool} → Gone ans away → (i : ℕ) → i < b.size → (o : Outcome) → o ≡ choice i → Gone (mark i ans) (parted R (b.at i) o away)
  gone_more {ans} {away} v i h o c = record {
    at = λ k. split (start k)
        (λ t. rw (v.at k, t) (or-true (sticks o && R.area (b.at i) k)))
        (λ t. rw (v.at k, t, c) (alike (mine i k || some b.size (sunk ans k)) (some b.size (sunk (mark i ans) k)) (there k) (back k)));
  }
    where
      there : (k : ℕ) → mine i k || some b.size (sunk ans k) ≡ true → some b.size (sunk (mark i ans) k) ≡ true
      there k e = split (mine i k)
          (λ m. some_at b.size (sunk (mark i ans) k) i h (and_intro (mark_here i ans) m))
          (λ m. let (j, l, u) = some_is b.size (sunk ans k) (rw m at e) in
          let (a, w) = both (ans j) _ u in
          some_at b.size (sunk (mark i ans) k) j l (and_intro (mark_kept i ans j a) w))

      back : (k : ℕ) → some b.size (sunk (mark i ans) k) ≡ true → mine i k || some b.size (sunk ans k) ≡ true
      back k e =
          let (j, l, u) = some_is b.size (sunk (mark i ans) k) e in
          let (a, w) = both (mark i ans j) _ u in
          ⊎_elim (λ q. let m : mine i k ≡ true = rw q w in rw m)
          (λ q. let m : sunk ans k j ≡ true = and_intro q w in rw (some_at b.size (sunk ans k) j l m) (or-true (mine i k)))
          (mark_cases i ans j a)

  -- as long as events may come
  pub gone_lift : {ans away : ℕ → Bool} → Gone ans away → blocks R b ≡ false → lost R away ≡ lost R start
  gone_lift {ans} v t = some_same R.width _ _ (λ k n. split (R.lift k)
      (λ l. rw l (v.at k ∙ none_sunk ans k (λ j h. split (R.area (b.at j) k) (λ a. clash l (blocks_clear R b t j h k n a)) (λ a. rw a (both_false (ans j) (sticks (choice j)))))))
      (λ l. rw l))
    where
      both_false : (x y : Bool) → x && (y && false) ≡ false
      both_false true true = refl
      both_false true false = refl
      both_false false y = refl
