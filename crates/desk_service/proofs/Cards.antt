-- The cards that come with an image: those of its entries are those that its bytes say, four each. Assumes nothing.
use mathlib.Core.Path.{◌≡◌, refl, sym, ◌∙◌, ap}
use mathlib.Core.List.{List, [], ◌∷◌, ◌++◌, map}
use Prim.Native.Nat.{ℕ, zero, suc, ◌+◌, ◌*◌, ◌-◌}
use native.Mathlib.Omega.{arith}
use lib.ListN.{length, get_or, take, drop, replicate, length-drop}
use lib.Seq.{get_or-drop, take-length}
use Rattle.bits.specs.Places.{from}
use Rattle.codec.specs.Bytes.{from_little_endian}
use Rattle.wire.proofs.Parts.{zeros_past}
use Rattle.desk_wire.specs.Shapes.{read_each}
use Rattle.desk_service.specs.DeskService.{cards_brought}
use Rattle.desk_service.specs.Private.{cards_read}

-- zeros behind a run are what is read past it
zero_at : (n j : ℕ) → get_or {A = ℕ} (replicate n 0) j 0 ≡ 0
zero_at zero j = refl
zero_at (suc n) zero = refl
zero_at (suc n) (suc j) = zero_at n j

padded_at : (s : List ℕ) (n j : ℕ) → get_or (s ++ replicate n 0) j 0 ≡ get_or s j 0
padded_at [] n j = zero_at n j
padded_at (x ∷ s) n zero = refl
padded_at (x ∷ s) n (suc j) = padded_at s n j

padded_four : (s : List ℕ) (n i : ℕ) → from_little_endian 4 i (s ++ replicate n 0) ≡ from_little_endian 4 i s
padded_four s n i = rw (padded_at s n i, padded_at s n (suc i), padded_at s n (suc (suc i)), padded_at s n (suc (suc (suc i))))

further : (s : List ℕ) (i : ℕ) → from_little_endian 4 i (drop 4 s) ≡ from_little_endian 4 (4 + i) s
further s i =
    let e1 : 4 + suc i ≡ suc (4 + i) = omega arith in
    let e2 : 4 + suc (suc i) ≡ suc (suc (4 + i)) = omega arith in
    let e3 : 4 + suc (suc (suc i)) ≡ suc (suc (suc (4 + i))) = omega arith in
    rw (get_or-drop 4 s i 0, get_or-drop 4 s (suc i) 0, get_or-drop 4 s (suc (suc i)) 0, get_or-drop 4 s (suc (suc (suc i))) 0, e1, e2, e3)

entry_at : (c p : ℕ) (s : List ℕ) → length s ≡ 4 * c → get_or (get_or (read_each (4 ∷ []) c s) p []) 0 0 ≡ from_little_endian 4 (4 * p) s
entry_at zero p [] l = refl
entry_at zero p (x ∷ s) l = absurd (omega arith)
entry_at (suc c) zero s l = refl
entry_at (suc c) (suc p) s l =
    let d = length-drop 4 s in
    let e : 4 + 4 * p ≡ 4 * suc p = omega arith in
    entry_at c p (drop 4 s) (omega arith) ∙ further s (4 * p) ∙ ap (λ (k : ℕ). from_little_endian 4 k s) e

map_alike : (f g : ℕ → ℕ) (l : List ℕ) → ((p : ℕ) → f p ≡ g p) → map f l ≡ map g l
map_alike f g [] e = refl
map_alike f g (p ∷ l) e = rw (e p, map_alike f g l e)

pub cards_same : (s : List ℕ) (c : ℕ) → length s ≡ 4 * c → cards_read s ≡ cards_brought (read_each (4 ∷ []) c s)
unfolding cards_read cards_brought
cards_same s c l =
    map_alike (λ p. from_little_endian 4 (4 * p) (s ++ replicate (124 - length s) 0)) (λ p. get_or (get_or (read_each (4 ∷ []) c s) p []) 0 0) (from 0 31)
    (λ p. padded_four s (124 - length s) (4 * p) ∙ sym (entry_at c p s l))

-- an array of zeros into whose first places a run was copied
pub zero_filled : (s last : List ℕ) → last ≡ take (length s) s ++ drop (length s) (replicate 124 0) → last ≡ s ++ replicate (124 - length s) 0
zero_filled s last e = e ∙ rw (take-length s, zeros_past (length s) 124)
