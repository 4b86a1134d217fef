-- What the station's tests say: a mark, an instruction with no result, areas that do not meet, a set that keeps no event
-- out, an accepted set, a lift of which nothing is set apart. Assumes nothing.
use Prim.Native.Nat.{ℕ, ◌<◌, ◌≤◌}
use native.Mathlib.Omega.{arith}
use mathlib.Core.Path.{◌≡◌, refl}
use mathlib.Core.Logic.{◌⊎◌, inl, inr}
use mathlib.Core.Bool.{Bool, true, false, not, ◌&&◌, or-true, and-false}
use lib.Dec.{ltb, leb, eqb}
use borrow.Author.Tests.{le-leb, ltb-true, ltb-false, not-true, eqb-true, eq-eqb}
use Rattle.any_order.proofs.Rules.{Rules, Clear}
use Rattle.any_order.proofs.Machine.{Batch, Station, most, mark, nowhere, outstanding, meets, apart, free, accepted, blocks}
use Rattle.any_order.proofs.GoodOrder.{Apart, Ready}
use Rattle.bits.proofs.Cases.{split, clash, off, both}
use Rattle.bits.proofs.Search.{every_at, every_is, none_at, none_is, some_at}

-- ---- a mark

pub mark_here : (i : ℕ) (ans : ℕ → Bool) → mark i ans i ≡ true
mark_here i ans = rw (eq-eqb i i refl)

pub mark_kept : (i : ℕ) (ans : ℕ → Bool) (j : ℕ) → ans j ≡ true → mark i ans j ≡ true
mark_kept i ans j e = rw (e, or-true)

pub mark_cases : (i : ℕ) (ans : ℕ → Bool) (j : ℕ) → mark i ans j ≡ true → (i ≡ j) ⊎ (ans j ≡ true)
mark_cases i ans j e = split (eqb i j) (λ t. inl (eqb-true i j t)) (λ t. inr (rw t at e))

-- ---- an instruction with no result

pub due : (n : ℕ) (ans : ℕ → Bool) (i : ℕ) → ltb i n && not (ans i) ≡ true → (i < n) × (ans i ≡ false)
due n ans i t = let (h, u) = both (ltb i n) (not (ans i)) t in (ltb-true i n h, not-true (ans i) u)

pub still_open : {W I : Type 0} (s : Station W I) (i : ℕ) → i < s.set.size → s.answered i ≡ false → outstanding s ≡ true
still_open s i h u = some_at s.set.size (λ j. not (s.answered j)) i h (rw u)

-- ---- areas

pub clear_turned : (n : ℕ) (a b : ℕ → Bool) → Clear n a b → Clear n b a
clear_turned n a b c k h t = off (a k) (λ u. clash t (c k h u))

module _ {W C I E : Type 0} (R : Rules W C I E) where
  pub meets_clear : (a b : ℕ → Bool) → meets R a b ≡ false → Clear R.width a b
  meets_clear a b e k h t = rw t at (none_at R.width (λ n. a n && b n) e k h)

  -- a set that keeps no event out has nothing of the lift in its areas
  pub blocks_clear : (b : Batch I) → blocks R b ≡ false → (j : ℕ) → j < b.size → Clear R.width (R.area (b.at j)) R.lift
  blocks_clear b e j h = meets_clear (R.area (b.at j)) R.lift (none_at b.size _ e j h)

  -- ---- an accepted set: no instruction touches what is set apart, no two overlap and each is allowed

  pub record Accepted (b : Batch I) (f : W) (away : ℕ → Bool) : Type 0 where
    pub free : (j : ℕ) → j < b.size → Clear R.width (R.area (b.at j)) away
    pub ready : Ready R b f

  pub apart_is : (b : Batch I) → apart R b ≡ true → Apart R b
  apart_is b e i j hi hj ne = split (ltb j i)
      (λ l. down i j hi (ltb-true j i l))
      (λ l. clear_turned R.width _ _ (down j i hj (up (ltb-false j i l))))
    where
      down : (i j : ℕ) → i < b.size → j < i → Clear R.width (R.area (b.at i)) (R.area (b.at j))
      down i j hi h = meets_clear _ _ (not-true _ (every_at i _ (every_at b.size _ e i hi) j h))

      up : i ≤ j → i < j
      up h = omega arith

  pub accepted_has : (b : Batch I) (f : W) (away : ℕ → Bool) → accepted R b f away ≡ true → Accepted b f away
  accepted_has b f away e =
      let (some, e₁) = both (leb 1 b.size) _ e in
      let (few, e₂) = both (leb b.size most) _ e₁ in
      let (clear, e₃) = both (free R b away) _ e₂ in
      let (alone, all) = both (apart R b) _ e₃ in
      record {
        free = λ j h. meets_clear (R.area (b.at j)) away (not-true _ (every_at b.size _ clear j h));
        ready = record { apart = apart_is b alone; allowed = every_at b.size _ all };
      }

  -- the other way: what makes a set accepted
  pub is_accepted : (b : Batch I) (f : W) (away : ℕ → Bool) → 0 < b.size → b.size ≤ most
      → ((j : ℕ) → j < b.size → meets R (R.area (b.at j)) away ≡ false)
      → ((i : ℕ) → i < b.size → (j : ℕ) → j < i → meets R (R.area (b.at i)) (R.area (b.at j)) ≡ false)
      → ((j : ℕ) → j < b.size → R.allowed (b.at j) f ≡ true)
      → accepted R b f away ≡ true
  is_accepted b f away some few clear alone all =
      let c : free R b away ≡ true = every_is b.size _ (λ j h. rw (clear j h)) in
      let e : apart R b ≡ true = every_is b.size _ (λ i hi. every_is i _ (λ j hj. rw (alone i hi j hj))) in
      rw (le-leb 1 b.size some, le-leb b.size most few, c, e) (every_is b.size _ all)

  -- nothing meets nothing
  pub meets_nowhere : (a : ℕ → Bool) → meets R a nowhere ≡ false
  meets_nowhere a = none_is R.width _ (λ k h. and-false (a k))
