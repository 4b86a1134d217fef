-- Lists of places: that two are the same is a test, a place is among those of a mask if the mask has its bit, and joined lists.
-- Assumes nothing.
use mathlib.Core.Path.{◌≡◌, refl, sym, ap, ap₂, subst, ◌∙◌}
use mathlib.Core.Bool.{Bool, true, false, cond, ◌&&◌, ◌||◌}
use mathlib.Core.List.{List, [], ◌∷◌, ◌++◌}
use Prim.Native.Nat.{ℕ, zero, suc, ◌+◌, ◌/◌, ◌%◌, ◌^◌, ◌<◌}
use native.Mathlib.Nat.{pow-suc}
use native.Mathlib.Omega.{arith}
use lib.Bits.{bit_or}
use lib.Dec.{T, eqb, eqb→eq}
use borrow.Author.Tests.{eq-eqb, ne_eqb}
use Rattle.bits.specs.Bits.{bit, count, all_set}
use Rattle.bits.specs.Places.{from, elem, named, places}
use Rattle.bits.proofs.Cases.{and_l, and_r, or_T_r, T→true}
use Rattle.bits.proofs.Digits.{bit_suc, bit_past}
use Rattle.bits.proofs.Operations.{bit_or_lem}

-- whether two lists are the same
abbrev pub same : List ℕ → List ℕ → Bool
same [] [] = true
same [] (k ∷ ks) = false
same (j ∷ js) [] = false
same (j ∷ js) (k ∷ ks) = eqb j k && same js ks

pub same_eq : (js ks : List ℕ) → T (same js ks) → js ≡ ks
same_eq [] [] t = refl
same_eq [] (k ∷ ks) t = absurd t
same_eq (j ∷ js) [] t = absurd t
same_eq (j ∷ js) (k ∷ ks) t = ap₂ ◌∷◌ (eqb→eq j k (and_l (eqb j k) (same js ks) t)) (same_eq js ks (and_r (eqb j k) (same js ks) t))

-- a place of two lists is of one of them
pub elem_append : (k : ℕ) (js ks : List ℕ) → elem k (js ++ ks) ≡ (elem k js || elem k ks)
elem_append k [] ks = refl
elem_append k (j ∷ js) ks = go (eqb j k) (elem_append k js ks)
  where
    go : (b : Bool) → elem k (js ++ ks) ≡ (elem k js || elem k ks) → (b || elem k (js ++ ks)) ≡ ((b || elem k js) || elem k ks)
    go true ih = refl
    go false ih = ih

-- ---- a place is among those of a mask if the mask has its bit

-- the mask names none below the first
named_below : (n j m k : ℕ) → k < j → elem k (named m (from j n)) ≡ false
named_below zero j m k h = refl
named_below (suc n) j m k h = go (bit m 0) (named_below n (suc j) (m / 2) k (omega arith))
  where
    rest : List ℕ
    rest = named (m / 2) (from (suc j) n)

    go : (b : Bool) → elem k rest ≡ false → elem k (cond b (j ∷ rest) rest) ≡ false
    go true ih = rw (ne_eqb j k (omega arith)) ih
    go false ih = ih

-- what stands after the first is past it
past : (j k : ℕ) (rest : List ℕ) (b : Bool) → elem (j + suc k) (cond b (j ∷ rest) rest) ≡ elem (j + suc k) rest
past j k rest true = rw (ne_eqb j (j + suc k) (omega arith))
past j k rest false = refl

-- the k-th after the first is named if the mask has bit k
named_elem : (n j m k : ℕ) → m < 2 ^ n → elem (j + k) (named m (from j n)) ≡ bit m k
named_elem zero j m k h = sym (bit_past m 0 k h (omega arith))
named_elem (suc n) j m zero h = here (bit m 0)
  where
    rest : List ℕ
    rest = named (m / 2) (from (suc j) n)

    here : (b : Bool) → elem (j + 0) (cond b (j ∷ rest) rest) ≡ b
    here true = rw (eq-eqb j (j + 0) (omega arith))
    here false = named_below n (suc j) (m / 2) (j + 0) (omega arith)
named_elem (suc n) j m (suc k) h =
    let e : j + suc k ≡ suc j + k = omega arith in
    past j k (named (m / 2) (from (suc j) n)) (bit m 0) ∙ ap (λ (x : ℕ). elem x (named (m / 2) (from (suc j) n))) e
    ∙ named_elem n (suc j) (m / 2) k (omega (arith, pow-suc 2 n)) ∙ sym (bit_suc m k)

pub bit_elem : (m : ℕ) → m < 2 ^ 64 → (k : ℕ) → bit m k ≡ elem k (places m)
unfolding places
bit_elem m h k = let e : 0 + k ≡ k = omega arith in sym (ap (λ (x : ℕ). elem x (named m (from 0 64))) (sym e) ∙ named_elem 64 0 m k h)

-- ---- a mask that names a list, and two such masks as one

pub bit_list : (m : ℕ) (ks : List ℕ) → m < 2 ^ 64 → places m ≡ ks → (k : ℕ) → bit m k ≡ elem k ks
bit_list m ks h e k = bit_elem m h k ∙ ap (elem k) e

pub or_list : (m n : ℕ) (js ks : List ℕ) → m < 2 ^ 64 → n < 2 ^ 64 → places m ≡ js → places n ≡ ks → (k : ℕ) → bit (bit_or m n) k ≡ elem k (js ++ ks)
or_list m n js ks hm hn p q k = bit_or_lem m n k ∙ ap₂ ◌||◌ (bit_list m js hm p k) (bit_list n ks hn q k) ∙ sym (elem_append k js ks)

-- a place of one list is of both together
pub in_left : (k : ℕ) (js ks : List ℕ) → T (elem k js) → T (elem k (js ++ ks))
in_left k js ks t = subst T (sym (elem_append k js ks)) (rw (T→true (elem k js) t) tt)

pub in_right : (k : ℕ) (js ks : List ℕ) → T (elem k ks) → T (elem k (js ++ ks))
in_right k js ks t = subst T (sym (elem_append k js ks)) (or_T_r (elem k js) (elem k ks) t)

-- ---- what is asked of the places of such a mask

module _ (r : ℕ) {js ks : List ℕ} (e : js ≡ ks) where
  pub all_list : all_set js (bit r) ≡ all_set ks (bit r)
  all_list = ap (λ (l : List ℕ). all_set l (bit r)) e

  pub free_list : eqb (count js (bit r)) 0 ≡ eqb (count ks (bit r)) 0
  free_list = ap (λ (l : List ℕ). eqb (count l (bit r)) 0) e

  pub even_list : eqb (count js (bit r) % 2) 0 ≡ eqb (count ks (bit r) % 2) 0
  even_list = ap (λ (l : List ℕ). eqb (count l (bit r) % 2) 0) e
