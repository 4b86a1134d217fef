-- Which total stands at which place. Assumes nothing.
use mathlib.Core.Path.{◌≡◌, refl, ap, ◌∙◌}
use mathlib.Core.List.{List, [], ◌∷◌, ◌++◌, map}
use Prim.Native.Nat.{ℕ, zero, suc, ◌+◌, ◌-◌, ◌≤◌, ◌<◌}
use native.Mathlib.Omega.{arith}
use lib.ListN.{length, get_or}
use Rattle.bits.specs.Places.{from}
use Rattle.totals.specs.declared.Happened.{Happened}
use Rattle.totals.specs.declared.Name.{Name}
use Rattle.totals.specs.Totals.{order, name_at, next_total, nexts}
use Rattle.totals.specs.declared.Name.TheVariants.{Kind, Number, Done, Failed, CarsIn, CarsOut, MostCars}

-- a run of names, and what stands after it
within : (f : ℕ → Name) (a n i : ℕ) (rest : List Name) → i < n → get_or (map f (from a n) ++ rest) i MostCars ≡ f (a + i)
within f a zero i rest h = absurd (omega arith)
within f a (suc n) zero rest h = ap f (omega arith)
within f a (suc n) (suc i) rest h = within f (suc a) n i rest (omega arith) ∙ ap f (omega arith)

past : (f : ℕ → Name) (a n i : ℕ) (rest : List Name) → get_or (map f (from a n) ++ rest) (n + i) MostCars ≡ get_or rest i MostCars
past f a zero i rest =
    let e : 0 + i ≡ i = omega arith in
    ap (λ (j : ℕ). get_or rest j MostCars) e
past f a (suc n) i rest =
    let e : suc n + i ≡ suc (n + i) = omega arith in
    ap (λ (j : ℕ). get_or (map f (from a (suc n)) ++ rest) j MostCars) e ∙ past f (suc a) n i rest

abbrev after_kinds : List Name
after_kinds = map Number (from 0 34) ++ map Done (from 1 5) ++ map Failed (from 1 5) ++ (CarsIn ∷ CarsOut ∷ MostCars ∷ [])

abbrev after_numbers : List Name
after_numbers = map Done (from 1 5) ++ map Failed (from 1 5) ++ (CarsIn ∷ CarsOut ∷ MostCars ∷ [])

abbrev after_done : List Name
after_done = map Failed (from 1 5) ++ (CarsIn ∷ CarsOut ∷ MostCars ∷ [])

pub kind_at : (i : ℕ) → i < 5 → name_at i ≡ Kind (1 + i)
unfolding name_at order
kind_at i h = within Kind 1 5 i after_kinds h

pub number_at : (i : ℕ) → i < 34 → name_at (5 + i) ≡ Number (0 + i)
unfolding name_at order
number_at i h = past Kind 1 5 i after_kinds ∙ within Number 0 34 i after_numbers h

pub done_at : (i : ℕ) → i < 5 → name_at (39 + i) ≡ Done (1 + i)
unfolding name_at order
done_at i h =
    let e : 39 + i ≡ 5 + (34 + i) = omega arith in
    ap name_at e ∙ past Kind 1 5 (34 + i) after_kinds ∙ past Number 0 34 i after_numbers ∙ within Done 1 5 i after_done h

pub failed_at : (i : ℕ) → i < 5 → name_at (44 + i) ≡ Failed (1 + i)
unfolding name_at order
failed_at i h =
    let e : 44 + i ≡ 5 + (34 + (5 + i)) = omega arith in
    ap name_at e ∙ past Kind 1 5 (34 + (5 + i)) after_kinds ∙ past Number 0 34 (5 + i) after_numbers
    ∙ past Done 1 5 i after_done ∙ within Failed 1 5 i (CarsIn ∷ CarsOut ∷ MostCars ∷ []) h

pub cars_in_at : name_at 49 ≡ CarsIn
unfolding name_at order
cars_in_at = refl

pub cars_out_at : name_at 50 ≡ CarsOut
unfolding name_at order
cars_out_at = refl

-- it stands last, and for every place past the last
pub most_cars_from : (p : ℕ) → 51 ≤ p → name_at p ≡ MostCars
unfolding name_at order
most_cars_from p l =
    let e : p ≡ 5 + (34 + (5 + (5 + (p - 49)))) = omega arith in
    ap name_at e ∙ past Kind 1 5 (34 + (5 + (5 + (p - 49)))) after_kinds ∙ past Number 0 34 (5 + (5 + (p - 49))) after_numbers
    ∙ past Done 1 5 (5 + (p - 49)) after_done ∙ past Failed 1 5 (p - 49) (CarsIn ∷ CarsOut ∷ MostCars ∷ []) ∙ last (p - 49) (omega arith)
  where
    last : (i : ℕ) → 2 ≤ i → get_or (CarsIn ∷ CarsOut ∷ MostCars ∷ []) i MostCars ≡ MostCars
    last zero l = absurd (omega arith)
    last (suc zero) l = absurd (omega arith)
    last (suc (suc zero)) l = refl
    last (suc (suc (suc i))) l = refl

pub most_cars_at : name_at 51 ≡ MostCars
most_cars_at = most_cars_from 51 (omega arith)

-- the totals after what happened, one by one
pub nexts_length : (xs : List Name) (h : Happened) (vs : List ℕ) → length (nexts xs h vs) ≡ length vs
unfolding nexts
nexts_length [] h vs = refl
nexts_length (x ∷ xs) h [] = refl
nexts_length (x ∷ xs) h (v ∷ vs) = ap suc (nexts_length xs h vs)

nexts_within : (xs : List Name) (h : Happened) (vs : List ℕ) (p : ℕ) → p < length xs → p < length vs
    → get_or (nexts xs h vs) p 0 ≡ next_total (get_or xs p MostCars) h (get_or vs p 0)
unfolding nexts
nexts_within [] h vs p a b = absurd (omega arith)
nexts_within (x ∷ xs) h [] p a b = absurd (omega arith)
nexts_within (x ∷ xs) h (v ∷ vs) zero a b = refl
nexts_within (x ∷ xs) h (v ∷ vs) (suc p) a b = nexts_within xs h vs p (omega arith) (omega arith)

nexts_beyond : (xs : List Name) (h : Happened) (vs : List ℕ) (p : ℕ) → length xs ≤ p → get_or (nexts xs h vs) p 0 ≡ get_or vs p 0
unfolding nexts
nexts_beyond [] h vs p a = refl
nexts_beyond (x ∷ xs) h [] p a = refl
nexts_beyond (x ∷ xs) h (v ∷ vs) zero a = absurd (omega arith)
nexts_beyond (x ∷ xs) h (v ∷ vs) (suc p) a = nexts_beyond xs h vs p (omega arith)

pub order_length : length order ≡ 52
unfolding order
order_length = refl

pub after_at : (h : Happened) (vs : List ℕ) (p : ℕ) → p < 52 → p < length vs → get_or (nexts order h vs) p 0 ≡ next_total (name_at p) h (get_or vs p 0)
unfolding name_at
after_at h vs p a b = nexts_within order h vs p (omega (arith, order_length)) b

pub after_beyond : (h : Happened) (vs : List ℕ) (p : ℕ) → 52 ≤ p → get_or (nexts order h vs) p 0 ≡ get_or vs p 0
after_beyond h vs p a = nexts_beyond order h vs p (omega (arith, order_length))
