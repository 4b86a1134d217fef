-- What "for every choice of which stuck instructions did in fact finish" says. The stuck instructions are a set that grows with
-- each result "stuck" and is empty again with each accepted image; a choice is a list of numbers of that set, none twice; and
-- those are applied to the record one after the other. Assumes nothing.
use Prim.Native.Nat.{ℕ, zero, suc, ◌<◌}
use mathlib.Core.Path.{◌≡◌}
use mathlib.Core.List.{List, [], ◌∷◌}
use mathlib.Core.Bool.{Bool, true, false, cond, ◌||◌}
use lib.Dec.{eqb}
use Rattle.any_order.proofs.Rules.{Rules, Same}
use Rattle.any_order.proofs.Machine.{Batch, Station, sticks, result, event, Call, request, act, image, empty, takes, call}
use Rattle.any_order.proofs.GoodOrder.{Waits}

-- a set with one more instruction, before the others
abbrev pub before : {I : Type 0} → I → (ℕ → I) → ℕ → I
before i at zero = i
before i at (suc j) = at j

abbrev pub more : {I : Type 0} → Batch I → I → Batch I
more b i = record { size = suc b.size; at = before i b.at }

-- a list has the number j; a choice of the numbers below n: none of them twice
abbrev pub has : List ℕ → ℕ → Bool
has [] j = false
has (i ∷ l) j = eqb i j || has l j

abbrev pub Picks : ℕ → List ℕ → Type 0
Picks n [] = Unit {0}
Picks n (i ∷ l) = (i < n) × (has l i ≡ false) × Picks n l

module _ {W C I E : Type 0} (R : Rules W C I E) where
  -- the stuck instructions after a call that is taken, after a call, and after several
  abbrev pub jam : Station W I → Call W I E → Batch I → Batch I
  jam s (request b) js = js
  jam s (act (result j o)) js = cond (sticks o) (more js (s.set.at j)) js
  jam s (act (event e)) js = js
  jam s (image f) js = empty R

  abbrev pub jammed : Station W I → Call W I E → Batch I → Batch I
  jammed s c js = cond (takes R s c) (jam s c js) js

  abbrev pub jams : Station W I → List (Call W I E) → Batch I → Batch I
  jams s [] js = js
  jams s (c ∷ l) js = jams (call R s c) l (jammed s c js)

  -- the record with those of a set applied, one after the other
  abbrev pub applied : Batch I → List ℕ → W → W
  applied b [] f = f
  applied b (i ∷ l) f = applied b l (R.next (b.at i) f)

  -- an allowed instruction keeps the number of cars
  abbrev pub KeepsCars : (W → ℕ) → Type 0
  KeepsCars cars = (i : I) (f : W) → R.sound f ≡ true → R.allowed i f ≡ true → cars (R.next i f) ≡ cars f

  -- of a station with the stuck instructions js, of which those of p did in fact finish
  pub record Whichever (js : Batch I) (s : Station W I) (p : List ℕ) : Type 0 where
    -- the record with those applied is sound, and holds the same number of cars
    pub sound : R.sound (applied js p s.bits) ≡ true
    pub cars : (cars : W → ℕ) → KeepsCars cars → cars (applied js p s.bits) ≡ cars s.bits
    -- the order in which they are applied makes no difference
    pub order : (q : List ℕ) → Picks js.size q → ((j : ℕ) → has p j ≡ has q j) → Same R.width R.look (applied js p s.bits) (applied js q s.bits)
    -- an instruction that has no result yet is allowed on it
    pub allowed : (j : ℕ) → Waits R s j → R.allowed (s.set.at j) (applied js p s.bits) ≡ true
