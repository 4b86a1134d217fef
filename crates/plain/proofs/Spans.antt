-- What masks name, by tests that antt computes at every row, mask and direction: that there is no gap, the slots that belts need, the row
-- ahead, and the last cells of a span, which a loop meets as it goes over a row from its end. Assumes nothing.
use mathlib.Core.Path.{◌≡◌, refl, sym, ap, ap₂, subst, ◌∙◌}
use mathlib.Core.Bool.{Bool, true, false, cond, not, ◌&&◌, beq}
use mathlib.Core.List.{List, [], ◌∷◌, ◌++◌, reverse, reverse_aux}
use Prim.Native.Nat.{ℕ, zero, suc, ◌+◌, ◌-◌, ◌≤◌, ◌<◌}
use native.Mathlib.Omega.{arith}
use native.Mathlib.Numerals.{add-one}
use lib.Dec.{T, eqb, ltb, leb, leb→le}
use mir.Val.{bool_byte}
use borrow.Author.Tests.{ltb-true}
use Rattle.std.specs.declared.option.Option.{Option}
use Rattle.std.specs.declared.option.Option.TheVariants.{Some, None}
use Rattle.bits.specs.Bits.{Bits, bit, digit, count}
use Rattle.bits.specs.Places.{is_empty, adjacent}
use Rattle.bits.specs.Search.{every}
use Rattle.bits.proofs.Cases.{split, and_l, and_r, beq→eq}
use Rattle.bits.proofs.Digits.{digit_lt}
use Rattle.bits.proofs.Lists.{same, same_eq}
use Rattle.bits.proofs.Packing.{byte_digit}
use Rattle.bits.proofs.Search.{each}
use Rattle.floor.specs.Floor.{left, right, lowered, slot, belt_of}
use Rattle.rules.specs.Named.{higher, cells, needed_slots, end, rows_of, ahead}
use Rattle.rules.specs.Rules.{belts_named}
use Rattle.rules.proofs.Every.{rows, each_row}
use Rattle.rules.specs.Cells.{cell_named}
use Rattle.plain.specs.Private.{gapless_from, gapless, row_first_cell, width, row_from_end, last_belt, row_ahead}

-- ---- the belts that a mask names

-- whether it names any
any_test : T (rows λ row mask. beq (not (eqb mask 0)) (not (is_empty (cells row mask))))
unfolding rows every
any_test = tt

-- whether it leaves no gap
border_test : T (rows λ row mask. beq (gapless mask) (adjacent (cells row mask)))
unfolding rows every gapless_from
border_test = tt

-- the lowered slots that belts need: that of the first and that of the last
abbrev end_slots : ℕ → ℕ → List ℕ
end_slots row mask = cond (bit mask 0) (slot left lowered row ∷ []) [] ++ cond (bit mask (last_belt row)) (slot right lowered row ∷ []) []

slots_test : T (rows λ row mask. same (end_slots row mask) (needed_slots row mask))
unfolding rows every
slots_test = tt

module _ (row mask : ℕ) (w : T (belts_named row mask)) where
  pub any_belt : not (eqb mask 0) ≡ not (is_empty (cells row mask))
  any_belt = beq→eq (not (eqb mask 0)) _ (each_row _ any_test row mask w)

  pub belts_border : gapless mask ≡ adjacent (cells row mask)
  belts_border = beq→eq (gapless mask) _ (each_row _ border_test row mask w)

  pub slots_needed : end_slots row mask ≡ needed_slots row mask
  slots_needed = same_eq _ _ (each_row (λ row mask. same (end_slots row mask) (needed_slots row mask)) slots_test row mask w)

-- ---- the rows that a mask names

some_row_test : T (every 8 λ mask. beq (not (eqb mask 0)) (not (is_empty (rows_of mask))))
unfolding every
some_row_test = tt

rows_border_test : T (every 8 λ mask. beq (gapless mask) (adjacent (rows_of mask)))
unfolding every gapless_from
rows_border_test = tt

-- a row, or none, as a list; and whether it is one of the three
abbrev pub row_in : Option ℕ → List ℕ
row_in None = []
row_in (Some row) = row ∷ []

abbrev pub of_three : Option ℕ → Bool
of_three None = true
of_three (Some row) = leb 1 row && leb row 3

ahead_test : T (every 8 λ mask. every 2 λ toward. same (row_in (row_ahead toward mask)) (ahead toward mask) && of_three (row_ahead toward mask))
unfolding every row_ahead
ahead_test = tt

module _ (mask : ℕ) (h : mask < 8) where
  pub any_row : not (eqb mask 0) ≡ not (is_empty (rows_of mask))
  any_row = beq→eq (not (eqb mask 0)) _ (each 8 _ some_row_test mask h)

  pub rows_border : gapless mask ≡ adjacent (rows_of mask)
  rows_border = beq→eq (gapless mask) _ (each 8 _ rows_border_test mask h)

  module _ (toward : ℕ) (l : toward < 2) where
    ahead_at : T (same (row_in (row_ahead toward mask)) (ahead toward mask) && of_three (row_ahead toward mask))
    ahead_at = each 2 (λ toward. same (row_in (row_ahead toward mask)) (ahead toward mask) && of_three (row_ahead toward mask)) (each 8 _ ahead_test mask h) toward l

    pub ahead_is : row_in (row_ahead toward mask) ≡ ahead toward mask
    ahead_is = same_eq _ _ (and_l (same (row_in (row_ahead toward mask)) (ahead toward mask)) (of_three (row_ahead toward mask)) ahead_at)

    pub ahead_row : {row : ℕ} → row_ahead toward mask ≡ Some row → (1 ≤ row) × (row ≤ 3)
    ahead_row {row} e =
        let t = subst (λ (r : Option ℕ). T (of_three r)) e (and_r (same (row_in (row_ahead toward mask)) (ahead toward mask)) (of_three (row_ahead toward mask)) ahead_at) in
        (leb→le 1 row (and_l (leb 1 row) (leb row 3) t), leb→le row 3 (and_r (leb 1 row) (leb row 3) t))

-- ---- the last cells of a span

-- of m cells of a row, from the j-th from the end toward d on, the first n on named belts
unfoldable pub picked : ℕ → ℕ → ℕ → ℕ → ℕ → ℕ → List ℕ
picked row mask toward zero j n = []
picked row mask toward (suc m) j n =
    let k = row_from_end row toward j in
    let here = ltb 0 n && cell_named row mask k in
    let r = picked row mask toward m (suc j) (n - digit here) in
    cond here (k ∷ r) r

-- in the order of their numbers
abbrev ordered : Bool → List ℕ → List ℕ
ordered up ks = cond up (reverse ks) ks

-- they are the end of the span
abbrev end_right : ℕ → ℕ → Bool
end_right row mask = every 2 λ toward. every 21 λ n. same (ordered (higher toward) (picked row mask toward (width row) 0 n)) (end toward n (cells row mask))

end_test : T (rows end_right)
unfolding rows every belt_of picked row_first_cell width row_from_end
end_test = tt

count_aux : (f : Bits) (l r : List ℕ) → count (reverse_aux l r) f ≡ count l f + count r f
count_aux f [] r = omega arith
count_aux f (k ∷ l) r = omega (arith, count_aux f l (k ∷ r))

count_ordered : (f : Bits) (up : Bool) (ks : List ℕ) → count (ordered up ks) f ≡ count ks f
count_ordered f true ks = omega (arith, count_aux f ks [])
count_ordered f false ks = refl

-- so many of them are occupied
pub end_count : (row mask toward n : ℕ) → T (belts_named row mask) → toward < 2 → n < 21 → (f : Bits)
    → count (picked row mask toward (width row) 0 n) f ≡ count (end toward n (cells row mask)) f
end_count row mask toward n w h l f =
    let p = picked row mask toward (width row) 0 n in
    sym (count_ordered f (higher toward) p)
    ∙ ap (λ (ks : List ℕ). count ks f) (same_eq (ordered (higher toward) p) (end toward n (cells row mask))
    (each 21 (λ n. same (ordered (higher toward) (picked row mask toward (width row) 0 n)) (end toward n (cells row mask)))
    (each 2 _ (each_row end_right end_test row mask w) toward h) n l))

-- twenty cells are all of them
all_test : T (rows λ row mask. every 2 λ toward. same (end toward 20 (cells row mask)) (cells row mask))
unfolding rows every
all_test = tt

pub end_all : (row mask toward : ℕ) → T (belts_named row mask) → toward < 2 → end toward 20 (cells row mask) ≡ cells row mask
end_all row mask toward w h =
    same_eq (end toward 20 (cells row mask)) _
    (each 2 _ (each_row (λ row mask. every 2 λ toward. same (end toward 20 (cells row mask)) (cells row mask)) all_test row mask w) toward h)

-- ---- the loop that counts them

-- where a row lies among the forty cells
pub record Bounds (row : ℕ) : Type 0 where
  pub some : 0 < width row
  pub short : width row ≤ 20
  pub ends : row_first_cell row + width row ≤ 40

pub row_bounds : (row : ℕ) → Bounds row
unfolding row_first_cell width
row_bounds row = record { some = go (eqb row 1); short = go₁ (eqb row 1); ends = go₂ (eqb row 1) (eqb row 2) }
  where
    go : (b : Bool) → 0 < cond b 20 10
    go true = omega arith
    go false = omega arith

    go₁ : (b : Bool) → cond b 20 10 ≤ 20
    go₁ true = omega arith
    go₁ false = omega arith

    go₂ : (b c : Bool) → cond b 0 (cond c 20 30) + cond b 20 10 ≤ 40
    go₂ true c = omega arith
    go₂ false true = omega arith
    go₂ false false = omega arith

pub cell_below : (row toward j : ℕ) → j < width row → row_from_end row toward j < 40
unfolding row_from_end
cell_below row toward j h = let b = row_bounds row in go (higher toward) b
  where
    go : (up : Bool) → Bounds row → cond up (row_first_cell row + width row - 1 - j) (row_first_cell row + j) < 40
    go true b = omega arith
    go false b = omega arith

-- j cells are passed, m of those that count are occupied, and so many are left to count
pub record Counting (row mask toward n : ℕ) (f : Bits) (left m j : ℕ) : Type 0 where
  pub within : j ≤ width row
  pub few : m + left ≤ n
  pub rest : m + count (picked row mask toward (width row - j) j left) f ≡ count (picked row mask toward (width row) 0 n) f

pub counting_starts : (row mask toward n : ℕ) (f : Bits) → Counting row mask toward n f n 0 0
counting_starts row mask toward n f =
    let z : width row - 0 ≡ width row = omega arith in
    record { within = omega arith; few = omega arith; rest = rw z (omega arith) }

-- a cell more, where b says whether its belt is named and o whether it is occupied
abbrev more : ℕ → ℕ → ℕ → ℕ → ℕ → ℕ → Bits → Bool → Bool → ℕ
more row mask toward m j n f b o =
    bool_byte ((ltb 0 n && b) && o) + count (picked row mask toward m (suc j) (n - bool_byte (ltb 0 n && b))) f

one_more : (row mask toward m j n : ℕ) (f : Bits) → more row mask toward m j n f (cell_named row mask (row_from_end row toward j)) (f (row_from_end row toward j))
    ≡ count (picked row mask toward (suc m) j n) f
unfolding picked
one_more row mask toward m j n f = go (ltb 0 n && cell_named row mask (row_from_end row toward j))
  where
    go : (here : Bool) → bool_byte (here && f (row_from_end row toward j)) + count (picked row mask toward m (suc j) (n - bool_byte here)) f
        ≡ count (cond here (row_from_end row toward j ∷ picked row mask toward m (suc j) (n - digit here)) (picked row mask toward m (suc j) (n - digit here))) f
    go true = rw (byte_digit (f (row_from_end row toward j)))
    go false = omega arith

-- a cell that counts is one of those left
pub takes_one : (left : ℕ) (b : Bool) → bool_byte (ltb 0 left && b) ≤ left
takes_one left b = split (ltb 0 left)
    (λ t. let h = ltb-true 0 left t in omega (arith, byte_digit (ltb 0 left && b), digit_lt (ltb 0 left && b)))
    (λ t. rw t (omega arith))

no_more : (a b : Bool) → bool_byte (a && b) ≤ bool_byte a
no_more true true = omega arith
no_more true false = omega arith
no_more false b = omega arith

pub counts : {row mask toward n left m j : ℕ} {f : Bits} {k : ℕ} {b o : Bool} → Counting row mask toward n f left m j → j < width row
    → k ≡ row_from_end row toward j → b ≡ cell_named row mask k → o ≡ f k
    → Counting row mask toward n f (left - bool_byte (ltb 0 left && b)) (m + bool_byte ((ltb 0 left && b) && o)) (j + 1)
counts {row} {mask} {toward} {n} {left} {m} {j} {f} {k} {b} {o} v h e d g =
    let w = width row - (j + 1) in
    let s : suc w ≡ width row - j = omega arith in
    let i : count (picked row mask toward w (suc j) (left - bool_byte (ltb 0 left && b))) f ≡ count (picked row mask toward w (j + 1) (left - bool_byte (ltb 0 left && b))) f =
    ap (λ (x : ℕ). count (picked row mask toward w x (left - bool_byte (ltb 0 left && b))) f) (sym (add-one j)) in
    let t : count (picked row mask toward (suc w) j left) f ≡ count (picked row mask toward (width row - j) j left) f =
    ap (λ (x : ℕ). count (picked row mask toward x j left) f) s in
    let one : more row mask toward w j left f b o ≡ count (picked row mask toward (suc w) j left) f =
    ap₂ (more row mask toward w j left f) (d ∙ ap (cell_named row mask) e) (g ∙ ap f e) ∙ one_more row mask toward w j left f in
    record {
      within = omega arith;
      few = omega (arith, takes_one left b, no_more (ltb 0 left && b) o, v.few);
      rest = omega (arith, v.rest);
    }

none_left : (row mask toward j left : ℕ) (f : Bits) → count (picked row mask toward 0 j left) f ≡ 0
unfolding picked
none_left row mask toward j left f = refl

pub counting_ends : {row mask toward n left m j : ℕ} {f : Bits} → Counting row mask toward n f left m j → width row ≤ j
    → m ≡ count (picked row mask toward (width row) 0 n) f
counting_ends {row} {mask} {toward} {n} {left} {m} {j} {f} v h =
    let z : width row - j ≡ 0 = omega arith in
    let e : count (picked row mask toward (width row - j) j left) f ≡ 0 = rw z (none_left row mask toward j left f) in
    omega (arith, v.rest)
