-- A walk as the code notes it: one car more, how many there can be, and the loops over row 1 and over rows 2 and 3. Assumes nothing.
use mathlib.Core.Path.{◌≡◌, refl, sym, ap, ap₂, subst, ◌∙◌}
use mathlib.Core.Bool.{Bool, true, false, cond, not, ◌&&◌}
use mathlib.Core.List.{List, [], ◌∷◌, ◌++◌, map, append_assoc, append-nil}
use Prim.Native.Nat.{ℕ, zero, suc, ◌+◌, ◌-◌, ◌*◌, ◌≤◌, ◌<◌}
use native.Mathlib.Omega.{arith}
use native.Mathlib.Numerals.{add-one}
use lib.ListN.{length, set, replicate, length-append}
use borrow.Author.Tests.{not-true, not-false}
use Rattle.bits.specs.Bits.{Bits, digit}
use Rattle.bits.specs.Places.{from}
use Rattle.bits.proofs.Digits.{digit_lt}
use Rattle.floor.specs.Floor.{raised_car}
use Rattle.floor.specs.Cars.{Car, pair, single, raised}
use Rattle.cars.specs.Lists.{anchor}
use Rattle.plain.specs.declared.Walk.{Walk}
use Rattle.plain.specs.Walks.{pairs_from, singles_of, walked, walk_of}
use Rattle.plain.specs.Private.{noted}

-- ---- one car more, or none

module _ (w : Walk) (begins : Bool) (place : ℕ) where
  pub none_noted : not begins ≡ true → w ≡ noted w begins place
  unfolding noted
  none_noted e = ap (λ (b : Bool). noted w b place) (sym (not-true begins e))

  pub one_noted : not begins ≡ false → record { starts = set w.starts w.count place; count = w.count + 1 } ≡ noted w begins place
  unfolding noted
  one_noted e = ap (λ (b : Bool). noted w b place) (sym (not-false begins e))

set_next : (l : List Car) (x : Car) (m : ℕ) → set (map anchor l ++ replicate (suc m) 0) (length l) (anchor x) ≡ map anchor (l ++ x ∷ []) ++ replicate m 0
set_next [] x m = refl
set_next (y ∷ l) x m = ap (λ (ks : List ℕ). anchor y ∷ ks) (set_next l x m)

walk_next : (l : List Car) (x : Car) → length l < 31 → noted (walk_of l) true (anchor x) ≡ walk_of (l ++ x ∷ [])
unfolding noted walk_of
walk_next l x h =
    let m = 31 - (length l + 1) in
    let s : 31 - length l ≡ suc m = omega arith in
    let n : length l + 1 ≡ length (l ++ x ∷ []) = omega (arith, length-append l (x ∷ [])) in
    ap₂ (λ (ks : List ℕ) (c : ℕ). record { starts = ks; count = c })
    (ap (λ (r : ℕ). set (map anchor l ++ replicate r 0) (length l) (anchor x)) s ∙ set_next l x m
    ∙ ap (λ (r : ℕ). map anchor (l ++ x ∷ []) ++ replicate (31 - r) 0) n)
    n

-- ---- a walk on its way: the cars noted so far, with those still to come, are all of them
pub record Walking (rest all : List Car) (w : Walk) : Type 0 where
  pub met : List Car
  pub kept : w ≡ walk_of met
  pub parts : met ++ rest ≡ all

pub walking_starts : (all : List Car) {w : Walk} → w ≡ walk_of [] → Walking all all w
walking_starts all e = record { met = []; kept = e; parts = refl }

-- none is forgotten, so there is room for one more
counted : (l : List Car) {w : Walk} → w ≡ walk_of l → w.count ≡ length l
unfolding walk_of
counted l e = ap (λ (v : Walk). v.count) e

pub room : {rest all : List Car} {w : Walk} → Walking rest all w → length all ≤ 30 → w.count < 31
room {rest} v h = omega (arith, counted v.met v.kept, length-append v.met rest, ap length v.parts)

-- one more begins here, or none
pub walking_on : {rest all : List Car} {w v : Walk} {begins : Bool} (b : Bool) (x : Car) → Walking (cond b (x ∷ rest) rest) all w → w.count < 31
    → begins ≡ b → v ≡ noted w begins (anchor x) → Walking rest all v
unfolding noted
walking_on {rest} {all} {w} {v} true x u h e d =
    record {
      met = u.met ++ x ∷ [];
      kept = d ∙ ap₂ (λ (a : Walk) (b : Bool). noted a b (anchor x)) u.kept e ∙ walk_next u.met x (omega (arith, counted u.met u.kept));
      parts = append_assoc u.met (x ∷ []) rest ∙ u.parts;
    }
walking_on {rest} {all} {w} {v} false x u h e d =
    record { met = u.met; kept = d ∙ ap (λ (b : Bool). noted w b (anchor x)) e ∙ u.kept; parts = u.parts }

pub walking_ends : {rest all : List Car} {w : Walk} → Walking rest all w → rest ≡ [] → w ≡ walk_of all
walking_ends {rest} {all} v e =
    v.kept ∙ ap walk_of (sym (append-nil v.met) ∙ ap (λ (r : List Car). v.met ++ r) (sym e) ∙ v.parts)

-- ---- how many there can be

few_pairs : (n k : ℕ) (half : Bool) (f : Bits) → length (pairs_from n k half f) * 2 + digit half ≤ n + 1
unfolding pairs_from
few_pairs zero k half f = omega (arith, digit_lt half)
few_pairs (suc n) k half f = go (f k) half (few_pairs n (suc k) (f k && not half) f)
  where
    go : (b half : Bool) → let rest = pairs_from n (suc k) (b && not half) f in
        length rest * 2 + digit (b && not half) ≤ n + 1 → length (cond (b && not half) (pair k ∷ rest) rest) * 2 + digit half ≤ suc n + 1
    go true true h = omega arith
    go true false h = omega arith
    go false half h = omega (arith, digit_lt half)

few_singles : (ks : List ℕ) (f : Bits) → length (singles_of ks f) ≤ length ks
unfolding singles_of
few_singles [] f = omega arith
few_singles (k ∷ ks) f = go (f k) (few_singles ks f)
  where
    go : (b : Bool) → length (singles_of ks f) ≤ length ks → length (cond b (single k ∷ singles_of ks f) (singles_of ks f)) ≤ suc (length ks)
    go true h = omega arith
    go false h = omega arith

-- those of row 1, and those of all rows
abbrev pub in_row1 : Bits → List Car
in_row1 f = pairs_from 20 0 false f

abbrev pub in_rows : Bits → List Car
in_rows f = in_row1 f ++ singles_of (from 20 20) f

pub few_in_row : (f : Bits) → length (in_row1 f) ≤ 10
few_in_row f = omega (arith, few_pairs 20 0 false f)

pub few_in_rows : (f : Bits) → length (in_rows f) ≤ 30
few_in_rows f =
    omega (arith, few_in_row f, few_singles (from 20 20) f, length-append (in_row1 f) (singles_of (from 20 20) f))

-- ---- the loops

-- k cells of row 1 are passed
pub record RowWalked (f : Bits) (w : Walk) (half : Bool) (k : ℕ) : Type 0 where
  pub within : k ≤ 20
  pub walking : Walking (pairs_from (20 - k) k half f) (in_row1 f) w

pub row_starts : (f : Bits) {w : Walk} → w ≡ walk_of [] → RowWalked f w false 0
row_starts f e = record { within = omega arith; walking = walking_starts (in_row1 f) e }

pub row_room : {f : Bits} {w : Walk} {half : Bool} {k : ℕ} → RowWalked f w half k → w.count < 31
row_room {f} v = room v.walking (omega (arith, few_in_row f))

next_pair : (n k : ℕ) (half : Bool) (f : Bits) (b : Bool) → b ≡ f k
    → pairs_from (suc n) k half f ≡ cond (b && not half) (pair k ∷ pairs_from n (k + 1) (b && not half) f) (pairs_from n (k + 1) (b && not half) f)
unfolding pairs_from
next_pair n k half f b e = rw (add-one k, e)

pub row_turns : {f : Bits} {w v : Walk} {k : ℕ} (half b : Bool) → RowWalked f w half k → k < 20 → b ≡ f k → v ≡ noted w (b && not half) k
    → RowWalked f v (b && not half) (k + 1)
row_turns {f} {w} {v} {k} half b u h e d =
    let s : 20 - k ≡ suc (20 - (k + 1)) = omega arith in
    let now : pairs_from (20 - k) k half f ≡ cond (b && not half) (pair k ∷ pairs_from (20 - (k + 1)) (k + 1) (b && not half) f) (pairs_from (20 - (k + 1)) (k + 1) (b && not half) f) =
    ap (λ (n : ℕ). pairs_from n k half f) s ∙ next_pair (20 - (k + 1)) k half f b e in
    record {
      within = omega arith;
      walking = walking_on (b && not half) (pair k) (subst (λ (r : List Car). Walking r (in_row1 f) w) now u.walking) (row_room u) refl d;
    }

no_pair : (k : ℕ) (half : Bool) (f : Bits) → pairs_from 0 k half f ≡ []
unfolding pairs_from
no_pair k half f = refl

pub row_ends : {f : Bits} {w : Walk} {half : Bool} {k : ℕ} → RowWalked f w half k → 20 ≤ k → w ≡ walk_of (in_row1 f)
row_ends {f} {w} {half} {k} v h =
    let z : 20 - k ≡ 0 = omega arith in
    walking_ends v.walking (ap (λ (n : ℕ). pairs_from n k half f) z ∙ no_pair k half f)

-- the cells up to k are passed
pub record RowsWalked (f : Bits) (w : Walk) (k : ℕ) : Type 0 where
  pub begun : 20 ≤ k
  pub within : k ≤ 40
  pub walking : Walking (singles_of (from k (40 - k)) f) (in_rows f) w

pub rows_start : (f : Bits) {w : Walk} → w ≡ walk_of (in_row1 f) → RowsWalked f w 20
rows_start f e = record { begun = omega arith; within = omega arith; walking = record { met = in_row1 f; kept = e; parts = refl } }

pub rows_room : {f : Bits} {w : Walk} {k : ℕ} → RowsWalked f w k → w.count < 31
rows_room {f} v = room v.walking (few_in_rows f)

next_single : (n k : ℕ) (f : Bits) → singles_of (from k (suc n)) f ≡ cond (f k) (single k ∷ singles_of (from (k + 1) n) f) (singles_of (from (k + 1) n) f)
unfolding singles_of
next_single n k f = rw (add-one k)

pub rows_turn : {f : Bits} {w v : Walk} {k : ℕ} {b : Bool} → RowsWalked f w k → k < 40 → b ≡ f k → v ≡ noted w b k → RowsWalked f v (k + 1)
rows_turn {f} {w} {v} {k} {b} u h e d =
    let s : 40 - k ≡ suc (40 - (k + 1)) = omega arith in
    let now : singles_of (from k (40 - k)) f ≡ cond (f k) (single k ∷ singles_of (from (k + 1) (40 - (k + 1))) f) (singles_of (from (k + 1) (40 - (k + 1))) f) =
    ap (λ (n : ℕ). singles_of (from k n) f) s ∙ next_single (40 - (k + 1)) k f in
    record {
      begun = omega (arith, u.begun);
      within = omega arith;
      walking = walking_on (f k) (single k) (subst (λ (r : List Car). Walking r (in_rows f) w) now u.walking) (rows_room u) e d;
    }

no_single : (k : ℕ) (f : Bits) → singles_of (from k 0) f ≡ []
unfolding singles_of
no_single k f = refl

pub rows_end : {f : Bits} {w : Walk} {k : ℕ} → RowsWalked f w k → 40 ≤ k → w ≡ walk_of (in_rows f)
rows_end {f} {w} {k} v h =
    let z : 40 - k ≡ 0 = omega arith in
    walking_ends v.walking (ap (λ (n : ℕ). singles_of (from k n) f) z ∙ no_single k f)

-- ---- and last the raised lift

module _ (f : Bits) {w : Walk} (e : w ≡ walk_of (in_rows f)) where
  pub last_room : w.count < 31
  last_room = omega (arith, counted (in_rows f) e, few_in_rows f)

  pub whole_walk : {v : Walk} {b : Bool} → b ≡ f raised_car → v ≡ noted w b raised_car → v ≡ walk_of (walked f)
  unfolding walked
  whole_walk d g =
      walking_ends
      (walking_on {rest = []} (f raised_car) raised
      (record {
        met = in_rows f;
        kept = e;
        parts = append_assoc (in_row1 f) (singles_of (from 20 20) f)
            (cond (f raised_car) (raised ∷ []) []);
      }) last_room d g)
      refl
