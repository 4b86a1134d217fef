-- Neighbouring places as a list: its length and parts; counts over lists of places. Assumes nothing.
use mathlib.Core.Path.{◌≡◌, refl, sym, ap, ap₂, subst, ◌∙◌}
use mathlib.Core.Bool.{Bool, false, ◌&&◌, ◌||◌}
use mathlib.Core.List.{List, [], ◌∷◌, ◌++◌}
use Prim.Native.Nat.{ℕ, zero, suc, ◌+◌, ◌-◌, ◌≤◌, ◌<◌}
use native.Mathlib.Nat.{add-zero, add-suc, suc-add, sub-zero, zero-sub, suc-sub-suc}
use native.Mathlib.Omega.{arith}
use lib.Dec.{T, eqb, eqb→eq}
use lib.ListN.{length, drop}
use borrow.Author.Tests.{eqb-true, eqb-false, eq-eqb}
use Rattle.bits.specs.Bits.{Bits, digit, count, all_set}
use Rattle.bits.specs.Places.{from, elem, adjacent}
use Rattle.bits.proofs.Cases.{and_l, and_r, or_T_r, split}
use Rattle.bits.proofs.Digits.{digit_lt, digit_zero}

pub length_from : (a m : ℕ) → length (from a m) ≡ m
length_from a zero = refl
length_from a (suc m) = ap suc (length_from (suc a) m)

pub drop_from : (d a m : ℕ) → drop d (from a m) ≡ from (a + d) (m - d)
drop_from zero a m = simp (add-zero, sub-zero)
drop_from (suc d) a zero = simp zero-sub
drop_from (suc d) a (suc m) = rw (suc-sub-suc, add-suc, ← suc-add a d) (drop_from d (suc a) m)

pub adjacent_from : (a : ℕ) (ks : List ℕ) → T (adjacent (a ∷ ks)) → a ∷ ks ≡ from a (suc (length ks))
adjacent_from a [] t = refl
adjacent_from a (b ∷ ks) t =
    let e = eqb→eq b (suc a) (and_l (eqb b (suc a)) (adjacent (b ∷ ks)) t) in
    ap {B = List ℕ} (λ r. a ∷ r)
    (adjacent_from b ks (and_r (eqb b (suc a)) (adjacent (b ∷ ks)) t) ∙ ap (λ (x : ℕ). from x (suc (length ks))) e)

-- ---- counts

pub count_append : (ks js : List ℕ) (f : Bits) → count (ks ++ js) f ≡ count ks f + count js f
count_append [] js f = omega arith
count_append (k ∷ ks) js f = omega (arith, count_append ks js f)

pub count_le : (ks : List ℕ) (f : Bits) → count ks f ≤ length ks
count_le [] f = omega arith
count_le (k ∷ ks) f = omega (arith, count_le ks f, digit_lt (f k))

-- a span in two parts
pub from_append : (a m n : ℕ) → from a (m + n) ≡ from a m ++ from (a + m) n
from_append a zero n = let e : 0 + n ≡ n = omega arith in let d : a ≡ a + 0 = omega arith in ap (from a) e ∙ ap (λ (x : ℕ). from x n) d
from_append a (suc m) n =
    let e : suc m + n ≡ suc (m + n) = omega arith in
    let d : suc a + m ≡ a + suc m = omega arith in
    ap (from a) e ∙ ap {B = List ℕ} (λ l. a ∷ l) (from_append (suc a) m n ∙ ap (λ (x : ℕ). from (suc a) m ++ from x n) d)

-- one more at the end
pub count_more : (f : Bits) (a n : ℕ) → count (from a (suc n)) f ≡ count (from a n) f + digit (f (a + n))
count_more f a n =
    let e : suc n ≡ n + 1 = omega arith in
    ap (λ (x : ℕ). count (from a x) f) e ∙ ap (λ (l : List ℕ). count l f) (from_append a n 1) ∙ count_append (from a n) (from (a + n) 1) f ∙ omega arith

pub elem_here : (k : ℕ) (ks : List ℕ) → T (elem k (k ∷ ks))
elem_here k ks = rw (eq-eqb k k refl) tt

pub elem_there : (k j : ℕ) (ks : List ℕ) → T (elem j ks) → T (elem j (k ∷ ks))
elem_there k j ks m = or_T_r (eqb k j) (elem j ks) m

-- two records that agree on the places have the same count there
pub count_agree : (ks : List ℕ) (f g : Bits) → ((k : ℕ) → T (elem k ks) → f k ≡ g k) → count ks f ≡ count ks g
count_agree [] f g e = refl
count_agree (k ∷ ks) f g e =
    ap₂ (λ (b : Bool) (n : ℕ). digit b + n) (e k (elem_here k ks)) (count_agree ks f g (λ j m. e j (elem_there k j ks m)))

pub set_agree : (ks : List ℕ) (f g : Bits) → ((k : ℕ) → T (elem k ks) → f k ≡ g k) → all_set ks f ≡ all_set ks g
set_agree [] f g e = refl
set_agree (k ∷ ks) f g e = ap₂ ◌&&◌ (e k (elem_here k ks)) (set_agree ks f g (λ j m. e j (elem_there k j ks m)))

-- where the count is 0, each place is free
pub count_zero : (ks : List ℕ) (f : Bits) → count ks f ≡ 0 → (k : ℕ) → T (elem k ks) → f k ≡ false
count_zero [] f z k m = absurd m
count_zero (j ∷ js) f z k m =
    let rest : count js f ≡ 0 = omega arith in
    split (eqb j k)
    (λ e. ap f (sym (eqb-true j k e)) ∙ digit_zero (f j) (omega arith))
    (λ e. count_zero js f rest k (subst (λ (b : Bool). T (b || elem k js)) e m))

-- a place of a span
pub elem_from : (k a n : ℕ) → a ≤ k → k < a + n → T (elem k (from a n))
elem_from k a zero l h = absurd (omega arith)
elem_from k a (suc n) l h = split (eqb a k)
    (λ e. rw e tt)
    (λ e. let ne : a ≡ k → ⊥ = eqb-false a k e in elem_there a k (from (suc a) n) (elem_from k (suc a) n (omega arith) (omega arith)))

pub from_elem : (k a n : ℕ) → T (elem k (from a n)) → (a ≤ k) × (k < a + n)
from_elem k a zero m = absurd m
from_elem k a (suc n) m = split (eqb a k)
    (λ e. let i = eqb-true a k e in (omega arith, omega arith))
    (λ e. let r = from_elem k (suc a) n (subst (λ (b : Bool). T (b || elem k (from (suc a) n))) e m) in (omega arith, omega arith))
