-- The five bytes of an instruction by their places in the set, and what zeros past the instructions change: nothing. Assumes nothing.
use Rattle.std.proofs.Common.{◌≡◌, ℕ, zero, suc, ◌+◌, ◌*◌, ◌<◌, ◌≤◌, List, [], ◌∷◌, ◌++◌, get_or, take, replicate, refl, arith, get_or-drop}
use mathlib.Core.Path.{fun_ext}
use Rattle.station.specs.Held.{code_at}

-- instruction i stands at place 5i
pub five_at : (set : List ℕ) (i : ℕ) → code_at set i ≡ record { op = get_or set (5 * i) 0; a = get_or set (5 * i + 1) 0; b = get_or set (5 * i + 2) 0; c = get_or set (5 * i + 3) 0; d = get_or set (5 * i + 4) 0 }
unfolding code_at
five_at set i = let z : 5 * i + 0 ≡ 5 * i = omega arith in simp (get_or-drop, z)

-- zeros at the end of a run are what its bytes past the end count as
pub zeros_at : (m k : ℕ) → ◌≡◌ {A = ℕ} (get_or (replicate m 0) k 0) 0
zeros_at zero k = refl
zeros_at (suc m) zero = refl
zeros_at (suc m) (suc k) = zeros_at m k

padded_at : (l : List ℕ) (m k : ℕ) → get_or (l ++ replicate m 0) k 0 ≡ get_or l k 0
padded_at [] m k = zeros_at m k
padded_at (x ∷ l) m zero = refl
padded_at (x ∷ l) m (suc k) = padded_at l m k

pub padded_code : (l : List ℕ) (m : ℕ) → code_at (l ++ replicate m 0) ≡ code_at l
padded_code l m = fun_ext (λ i. simp (five_at, padded_at))

kept_at : (n m : ℕ) (l : List ℕ) (k : ℕ) → k < n → get_or (take n l ++ replicate m 0) k 0 ≡ get_or l k 0
kept_at zero m l k h = absurd (omega arith)
kept_at (suc n) m [] k h = zeros_at m k
kept_at (suc n) m (x ∷ l) zero h = refl
kept_at (suc n) m (x ∷ l) (suc k) h = kept_at n m l k (omega arith)

pub zero_past : (n m : ℕ) (l : List ℕ) (k : ℕ) → n ≤ k → get_or (take n l ++ replicate m 0) k 0 ≡ 0
zero_past zero m l k h = zeros_at m k
zero_past (suc n) m [] k h = zeros_at m k
zero_past (suc n) m (x ∷ l) zero h = absurd (omega arith)
zero_past (suc n) m (x ∷ l) (suc k) h = zero_past n m l k (omega arith)

-- an instruction of the set as it is kept
pub kept_code : (n m : ℕ) (set : List ℕ) (i : ℕ) → i < n → code_at (take (5 * n) set ++ replicate m 0) i ≡ code_at set i
kept_code n m set i h = rw (five_at (take (5 * n) set ++ replicate m 0) i, five_at set i, at (5 * i) (omega arith), at (5 * i + 1) (omega arith), at (5 * i + 2) (omega arith), at (5 * i + 3) (omega arith), at (5 * i + 4) (omega arith))
  where
    at : (k : ℕ) → k < 5 * n → get_or (take (5 * n) set ++ replicate m 0) k 0 ≡ get_or set k 0
    at = kept_at (5 * n) m set
