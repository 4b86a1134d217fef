-- The places that bear a number, and the loop that gives an image's numbers to them: its invariant, where it starts, one turn, and what it
-- says at the end; how many numbers an image comes with. Assumes nothing.
use mathlib.Core.Path.{◌≡◌, refl, sym, ap, ap₂, ◌∙◌}
use mathlib.Core.Bool.{Bool, true, false, cond, ◌&&◌}
use mathlib.Core.List.{List, [], ◌∷◌}
use Prim.Native.Nat.{ℕ, zero, suc, ◌+◌, ◌-◌, ◌*◌, ◌^◌, ◌%◌, ◌≤◌, ◌<◌}
use native.Mathlib.Omega.{arith}
use lib.Dec.{T, eqb, ltb}
use lib.Pow.{pow_pos}
use lib.ListN.{length, get_or, set, replicate}
use mir.Val.{bool_byte}
use borrow.Author.Tests.{lt-ltb, le-ltb, eqb-true, eqb-false, ltb-true, ltb-false}
use Rattle.bits.specs.Bits.{Bits, bit, digit, count}
use Rattle.bits.specs.Places.{from, places}
use Rattle.bits.specs.Search.{every}
use Rattle.bits.proofs.Cases.{split}
use Rattle.bits.proofs.Counts.{count_more}
use Rattle.bits.proofs.Digits.{digit_lt}
use Rattle.bits.proofs.Lists.{same, same_eq}
use Rattle.bits.proofs.Operations.{shl_one}
use Rattle.bits.proofs.Search.{each}
use Rattle.std.specs.Option.{unwrap_or}
use Rattle.std.specs.declared.option.Option.{Option}
use Rattle.std.specs.declared.option.Option.TheVariants.{Some, None}
use Rattle.floor.specs.Floor.{drive_in}
use Rattle.floor.specs.Sound.{total, cars_in}
use Rattle.floor.proofs.Few.{few_cars}
use Rattle.cards.specs.Given.{bears, numbers_given, wanted}
use Rattle.cards.specs.Held.{place_of_element, held_numbers, cards_given}
use Rattle.cards.specs.Private.{given_at}
use Rattle.cards.proofs.Listing.{Filling, fill_starts, fills, fill_ends, cell_place}

-- ---- the places that bear a number

-- the cells below one, as a mask
low_places : T (every 20 (λ j. same (places (2 ^ j - 1)) (from 0 j)))
unfolding every places
low_places = tt

cells_below : (j : ℕ) → j < 20 → places (1 * 2 ^ j % 2 ^ 64 - 1) ≡ from 0 j
cells_below j h =
    ap (λ (x : ℕ). places (x - 1)) (shl_one j (omega arith))
    ∙ same_eq (places (2 ^ j - 1)) (from 0 j) (each 20 (λ i. same (places (2 ^ i - 1)) (from 0 i)) low_places j h)

pub one_shifted : (j : ℕ) → j < 64 → 1 ≤ 1 * 2 ^ j % 2 ^ 64
one_shifted j h = omega (arith, shl_one j h, pow_pos j)

module _ (f : Bits) (j : ℕ) {on : Bool} (e : on ≡ f (place_of_element j)) where
  pub bears_half : {even : Bool} → j < 20
      → even ≡ eqb (count (places (1 * 2 ^ j % 2 ^ 64 - 1)) f % 2) 0 → on && even ≡ bears f (place_of_element j)
  bears_half h d =
      let p = cell_place j (omega arith) in
      ap₂ ◌&&◌ (e ∙ ap f p) (d ∙ ap (λ (ks : List ℕ). eqb (count ks f % 2) 0) (cells_below j h))
      ∙ sym (ap (bears f) p ∙ half (lt-ltb j 20 h))
    where
      half : ltb j 20 ≡ true → bears f j ≡ f j && eqb (count (from 0 j) f % 2) 0
      half t = rw t

  pub bears_whole : 20 ≤ j → on ≡ bears f (place_of_element j)
  bears_whole h = e ∙ sym (split (ltb j 40)
      (λ t. let p = cell_place j (ltb-true j 40 t) in ap (bears f) p ∙ whole (le-ltb j 20 h) t ∙ sym (ap f p))
      (λ t. split (eqb j 40) (λ u. rw (t, u)) (λ u. rw (t, u))))
    where
      whole : ltb j 20 ≡ false → ltb j 40 ≡ true → bears f j ≡ f j
      whole t u = rw (t, u)

-- ---- the loop that gives

-- past the end of a list there is nothing
get_d_past : (a : List ℕ) (k : ℕ) → length a ≤ k → get_or a k 0 ≡ 0
get_d_past [] k h = refl
get_d_past (x ∷ a) zero h = absurd (omega arith)
get_d_past (x ∷ a) (suc k) h = get_d_past a k (omega arith)

-- how many places below an element's bear a number
abbrev before : Bits → ℕ → ℕ
before f j = count (from 0 (place_of_element j)) (bears f)

pub record Giving (f : Bits) (ns new : List ℕ) (t j : ℕ) : Type 0 where
  pub filled : Filling (λ i. numbers_given f ns (place_of_element i)) 42 new j
  -- so many have been given
  pub given : j ≤ 41 → t ≡ before f j
  pub upto : j ≤ 42
  pub few : t ≤ j

pub byte : (b : Bool) → bool_byte b ≡ digit b
byte true = refl
byte false = refl

pub giving_starts : (f : Bits) (ns : List ℕ) → Giving f ns (replicate 42 0) 0 0
giving_starts f ns = record { filled = fill_starts _ 42; given = λ h. refl; upto = omega arith; few = omega arith }

-- one place more; between the cells, the raised lift and the one that waits no place bears a number
before_more : (f : Bits) (j : ℕ) → j < 41 → before f (j + 1) ≡ before f j + digit (bears f (place_of_element j))
before_more f j h = split (ltb j 39)
    (λ t.
    let l = ltb-true j 39 t in
    let p = cell_place j (omega arith) in
    let q = cell_place (j + 1) (omega arith) in
    let s : j + 1 ≡ suc j = omega arith in
    let z : 0 + j ≡ j = omega arith in
    ap (λ (k : ℕ). count (from 0 k) (bears f)) (q ∙ s) ∙ count_more (bears f) 0 j
    ∙ ap (λ (k : ℕ). count (from 0 j) (bears f) + digit (bears f k)) z ∙ sym (ap (λ (k : ℕ). count (from 0 k) (bears f) + digit (bears f k)) p))
    (λ t. let l = ltb-false j 39 t in split (eqb j 39)
    (λ u. rw (eqb-true j 39 u) (omega arith))
    (λ u. let b = eqb-false j 39 u in let q : j ≡ 40 = omega arith in rw q (omega arith)))

module _ {f : Bits} {ns new : List ℕ} {t j : ℕ} (v : Giving f ns new t j) (h : j < 42) (len : length ns ≡ 31) where
  -- a place is given the number that is next
  gives : {here : Bool} → here ≡ bears f (place_of_element j) → given_at ns t here ≡ numbers_given f ns (place_of_element j)
  unfolding numbers_given
  gives {here} e =
      ap (λ (b : Bool). cond b (cond (ltb t 31) (get_or ns t 0) 0) 0) e
      ∙ ap (λ (x : ℕ). cond (bears f (place_of_element j)) x 0) (past ∙ ap (λ (x : ℕ). get_or ns x 0) (v.given (omega arith)))
    where
      past : cond (ltb t 31) (get_or ns t 0) 0 ≡ get_or ns t 0
      past = split (ltb t 31) (λ u. rw u) (λ u. let l = ltb-false t 31 u in rw u (sym (get_d_past ns t (omega arith))))

  pub gives_turn : {c : ℕ} {here : Bool} → here ≡ bears f (place_of_element j)
      → c ≡ given_at ns t here → Giving f ns (set new j c) (t + bool_byte here) (j + 1)
  gives_turn {c} {here} e d = record {
    filled = fills v.filled h (d ∙ gives e);
    given = λ l. ap₂ ◌+◌ (v.given (omega arith)) (byte here ∙ ap digit e) ∙ sym (before_more f j (omega arith));
    upto = omega arith;
    few = omega (arith, v.few, byte here, digit_lt here);
  }

pub giving_ends : (r : ℕ) {ns new : List ℕ} {t j : ℕ} → Giving (bit r) ns new t j → 42 ≤ j → new ≡ cards_given r ns
unfolding cards_given held_numbers
giving_ends r v h = fill_ends v.filled h

-- ---- how many numbers an image comes with

pub few_in : (r : ℕ) → cars_in (total r) ≤ 30
few_in r = go (total r) (few_cars r)
  where
    go : (t : Option ℕ) → ((n : ℕ) → t ≡ Some n → n ≤ 30) → cars_in t ≤ 30
    go (Some n) f = f n refl
    go None f = omega arith

pub said_cars : (t : Option ℕ) → unwrap_or t 0 ≡ cars_in t
said_cars (Some n) = refl
said_cars None = refl

pub few_wanted : (r : ℕ) → wanted r ≤ 31
few_wanted r = omega (arith, few_in r, digit_lt (bit r drive_in))
