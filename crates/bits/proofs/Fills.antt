-- A test at every setting of the bits at some places holds of the bits of any record there. Assumes nothing.
use mathlib.Core.Path.{◌≡◌, refl, ap}
use mathlib.Core.Bool.{Bool, true, false, cond, ◌&&◌, ◌||◌}
use mathlib.Core.List.{List, [], ◌∷◌, map}
use Prim.Native.Nat.{ℕ}
use lib.Dec.{T, eqb}
use borrow.Author.Tests.{eqb-true}
use Rattle.bits.specs.Bits.{Bits}
use Rattle.bits.specs.Places.{elem}
use Rattle.bits.proofs.Cases.{and_l, and_r}

-- the record with these bits at the places ks, and zeros elsewhere
abbrev pub fill : List ℕ → List Bool → Bits
fill [] bs k = false
fill (j ∷ js) [] k = false
fill (j ∷ js) (b ∷ bs) k = cond (eqb j k) b (fill js bs k)

-- a test passes at every setting of the bits ks
abbrev pub all_fills : List ℕ → (List Bool → Bool) → Bool
all_fills [] p = p []
all_fills (j ∷ js) p = all_fills js (λ bs. p (true ∷ bs)) && all_fills js (λ bs. p (false ∷ bs))

-- so it passes at those of a record
pub at_fill : (ks : List ℕ) (p : List Bool → Bool) → T (all_fills ks p) → (f : Bits) → T (p (map f ks))
at_fill [] p t f = t
at_fill (j ∷ js) p t f =
    go (f j)
    (at_fill js (λ bs. p (true ∷ bs)) (and_l (all_fills js (λ bs. p (true ∷ bs))) (all_fills js (λ bs. p (false ∷ bs))) t) f)
    (at_fill js (λ bs. p (false ∷ bs)) (and_r (all_fills js (λ bs. p (true ∷ bs))) (all_fills js (λ bs. p (false ∷ bs))) t) f)
  where
    go : (b : Bool) → T (p (true ∷ map f js)) → T (p (false ∷ map f js)) → T (p (b ∷ map f js))
    go true x y = x
    go false x y = y

-- two records that agree on the places ks
abbrev pub On : List ℕ → Bits → Bits → Type 0
On ks f g = (k : ℕ) → T (elem k ks) → f k ≡ g k

-- the filled record agrees with the one that its bits are from
pub fill_agree : (ks : List ℕ) (f : Bits) → On ks (fill ks (map f ks)) f
fill_agree [] f k m = absurd m
fill_agree (j ∷ js) f k m = go (eqb j k) refl m (fill_agree js f k)
  where
    go : (b : Bool) → eqb j k ≡ b → T (b || elem k js) → (T (elem k js) → fill js (map f js) k ≡ f k) → cond b (f j) (fill js (map f js) k) ≡ f k
    go true e m r = ap f (eqb-true j k e)
    go false e m r = r m
