-- An array of yes and no that stores or a loop make element by element: what it then holds. Assumes nothing.
use mathlib.Core.Path.{◌≡◌, refl, sym, ap, ap₂, ◌∙◌}
use mathlib.Core.Bool.{Bool, false, cond}
use mathlib.Core.List.{List, [], ◌∷◌}
use Prim.Native.Nat.{ℕ, zero, suc, ◌+◌, ◌≤◌, ◌<◌}
use native.Mathlib.Omega.{arith}
use lib.Dec.{eqb, ltb, eqb-zero-suc, eqb-suc-zero, eqb-suc-suc}
use lib.ListN.{length, get_or, set, replicate}
use borrow.Author.Tests.{lt-ltb, le-ltb, eqb-true, eqb-false, ltb-true, ltb-false}
use Rattle.bits.specs.Bits.{Bits}
use Rattle.bits.proofs.Cases.{split}
use Rattle.plain.specs.Plain.{listed}

pub listed_same : (n : ℕ) (f g : Bits) → ((j : ℕ) → j < n → f j ≡ g j) → listed n f ≡ listed n g
unfolding listed
listed_same zero f g e = refl
listed_same (suc n) f g e = ap₂ ◌∷◌ (e 0 (omega arith)) (listed_same n (λ j. f (suc j)) (λ j. g (suc j)) (λ j h. e (suc j) (omega arith)))

-- an array by its elements
pub list_is : (n : ℕ) (a : List Bool) → length a ≡ n → a ≡ listed n (λ j. get_or a j false)
unfolding listed
list_is zero [] e = refl
list_is zero (x ∷ a) e = absurd (omega arith)
list_is (suc n) [] e = absurd (omega arith)
list_is (suc n) (x ∷ a) e = ap (λ (l : List Bool). x ∷ l) (list_is n a (omega arith))

-- one of its elements
pub listed_at : (n k : ℕ) (f : Bits) → k < n → get_or (listed n f) k false ≡ f k
unfolding listed
listed_at zero k f h = absurd (omega arith)
listed_at (suc n) zero f h = refl
listed_at (suc n) (suc k) f h = listed_at n k (λ j. f (suc j)) (omega arith)

-- one element stored
pub set_listed : (n k : ℕ) (f : Bits) (v : Bool) → k < n → set (listed n f) k v ≡ listed n (λ j. cond (eqb k j) v (f j))
unfolding listed
set_listed zero k f v h = absurd (omega arith)
set_listed (suc n) zero f v h = ap (λ (l : List Bool). v ∷ l) (listed_same n _ _ (λ j l. rw eqb-zero-suc))
set_listed (suc n) (suc k) f v h =
    rw eqb-suc-zero (ap (λ (l : List Bool). f 0 ∷ l)
    (set_listed n k (λ j. f (suc j)) v (omega arith) ∙ listed_same n _ _ (λ j l. rw eqb-suc-suc)))

-- ---- a loop that fills an array

-- the first k of n elements are those of f, the others no
pub record Filling (f : Bits) (n : ℕ) (kept : List Bool) (k : ℕ) : Type 0 where
  pub filled : kept ≡ listed n (λ j. cond (ltb j k) (f j) false)

pub none_listed : (n : ℕ) (g : Bits) → ((j : ℕ) → g j ≡ false) → replicate n false ≡ listed n g
unfolding listed
none_listed zero g e = refl
none_listed (suc n) g e = ap₂ ◌∷◌ (sym (e 0)) (none_listed n (λ j. g (suc j)) (λ j. e (suc j)))

pub fill_starts : (f : Bits) (n : ℕ) → Filling f n (replicate n false) 0
fill_starts f n = record { filled = none_listed n _ (λ j. rw (le-ltb j 0 (omega arith))) }

pub fills : {f : Bits} {n k : ℕ} {kept : List Bool} {v : Bool} → Filling f n kept k → k < n → v ≡ f k → Filling f n (set kept k v) (k + 1)
fills {f} {n} {k} {kept} {v} p l e =
    record { filled = rw p.filled (set_listed n k _ v l ∙ listed_same n _ _ (λ j h. one j)) }
  where
    one : (j : ℕ) → cond (eqb k j) v (cond (ltb j k) (f j) false) ≡ cond (ltb j (k + 1)) (f j) false
    one j = split (eqb k j)
        (λ t. let i = eqb-true k j t in rw (t, lt-ltb j (k + 1) (omega arith)) (e ∙ ap f i))
        (λ t. let ne = eqb-false k j t in split (ltb j k)
        (λ u. let h = ltb-true j k u in rw (t, u, lt-ltb j (k + 1) (omega arith)))
        (λ u. let h = ltb-false j k u in rw (t, u, le-ltb j (k + 1) (omega arith))))

pub fill_ends : {f : Bits} {n k : ℕ} {kept : List Bool} → Filling f n kept k → n ≤ k → kept ≡ listed n f
fill_ends {f} {n} {k} p l = p.filled ∙ listed_same n _ _ (λ j h. rw (lt-ltb j k (omega arith)))
