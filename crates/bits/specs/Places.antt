-- Places are numbers of bits. Lists of places, and the places that a mask names. Assumes nothing.
use Rattle.std.specs.Prelude.{Bool, true, false, cond, ◌&&◌, ◌||◌, List, [], ◌∷◌, ◌++◌, ℕ, zero, suc, ◌/◌, eqb}
use Rattle.bits.specs.Bits.{bit}

-- n places from a on
abbrev pub from : ℕ → ℕ → List ℕ
from a zero = []
from a (suc n) = a ∷ from (suc a) n

-- whether a place is among others
abbrev pub elem : ℕ → List ℕ → Bool
elem k [] = false
elem k (j ∷ js) = eqb j k || elem k js

-- whether two lists have a place in common
abbrev pub share : List ℕ → List ℕ → Bool
share [] b = false
share (k ∷ ks) b = elem k b || share ks b

-- whether there are none
abbrev pub is_empty : List ℕ → Bool
is_empty [] = true
is_empty (j ∷ js) = false

-- whether each is one more than the one before it
abbrev pub adjacent : List ℕ → Bool
adjacent [] = true
adjacent (a ∷ []) = true
adjacent (a ∷ b ∷ ks) = eqb b (suc a) && adjacent (b ∷ ks)

-- several lists as one
abbrev pub join : {A : Type 0} → List (List A) → List A
join [] = []
join (l ∷ ls) = l ++ join ls

-- those of a list that a mask names, bit 0 the first
abbrev pub named : {A : Type 0} → ℕ → List A → List A
named m [] = []
named m (x ∷ xs) = let r = named (m / 2) xs in cond (bit m 0) (x ∷ r) r

-- the places at which a number of 64 bits has a 1
unfoldable pub places : ℕ → List ℕ
places m = named m (from 0 64)
