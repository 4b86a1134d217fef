-- The numbers that come with an image, in the order of the places: they are the numbers of the image's cars. Assumes nothing.
use mathlib.Core.Path.{◌≡◌, refl, sym, ap, ap₂, ◌∙◌}
use mathlib.Core.Logic.{inl, inr, ⊎_elim}
use mathlib.Core.Bool.{Bool, true, false, cond, ◌&&◌}
use mathlib.Core.List.{List, [], ◌∷◌, ◌++◌, map}
use Prim.Native.Nat.{ℕ, zero, suc, ◌+◌, ◌-◌, ◌≤◌, ◌<◌}
use native.Mathlib.Omega.{arith}
use lib.Dec.{eqb, ltb}
use lib.ListN.{length, get_or, take, drop, get_or-append}
use lib.Seq.{drop-cons, take_all, take-suc}
use borrow.Author.Tests.{eqb-true, eqb-false, ne_eqb, ltb-true, ltb-false, lt-ltb, le-ltb}
use Rattle.bits.specs.Bits.{Bits, digit}
use Rattle.bits.proofs.Cases.{split}
use Rattle.bits.proofs.Digits.{digit_lt}
use Rattle.bits.proofs.Search.{lt_or_ge}
use Rattle.floor.specs.Floor.{drive_in}
use Rattle.floor.specs.Cars.{Car, pair, single, raised, Stands, AllStand, at, Layout}
use Rattle.floor.proofs.Rows.{below}
use Rattle.floor.proofs.Promises.{layout_cars}
use Rattle.cars.specs.Lists.{anchor, Among, Rising}
use Rattle.rules_laws.proofs.Moves.{row_count}
use Rattle.cards.specs.Given.{bears, numbers_given}
use Rattle.cards_laws.specs.Statements.{GivenCards, GivenPadded, GivenInOrder}
use Rattle.cards_laws.proofs.Anchors.{anchors_at, told, stands, car_bears, marked_cards}

-- how many are below a place
abbrev rank : Bits → ℕ → ℕ
rank f k = below (bears f) k

given_is : (f : Bits) (ns : List ℕ) (k : ℕ) → numbers_given f ns k ≡ cond (bears f k) (get_or ns (rank f k) 0) 0
unfolding numbers_given
given_is f ns k = ap (λ (x : ℕ). cond (bears f k) (get_or ns x 0) 0) (row_count (bears f) k)

-- ---- how many cars of a list have their anchor below a place

under : List Car → ℕ → ℕ
under [] k = 0
under (x ∷ l) k = digit (ltb (anchor x) k) + under l k

-- one more of them is below the next place exactly if it is here
one_more : (a k : ℕ) → digit (ltb a (suc k)) ≡ digit (ltb a k) + at a k
one_more a k = split (ltb a k)
    (λ t. let h = ltb-true a k t in rw (t, lt-ltb a (suc k) (omega arith), ne_eqb a k (λ e. omega arith)))
    (λ t. let h = ltb-false a k t in split (eqb a k)
    (λ e. let q = eqb-true a k e in rw (t, e, lt-ltb a (suc k) (omega arith)))
    (λ e. let q : a ≡ k → ⊥ = eqb-false a k e in rw (t, e, le-ltb a (suc k) (omega arith))))

under_suc : (l : List Car) (k : ℕ) → under l (suc k) ≡ under l k + anchors_at l k
unfolding under anchors_at
under_suc [] k = refl
under_suc (x ∷ l) k = omega (arith, under_suc l k, one_more (anchor x) k)

under_zero : (l : List Car) → under l 0 ≡ 0
unfolding under
under_zero [] = refl
under_zero (x ∷ l) = omega (arith, under_zero l, ap digit (le-ltb (anchor x) 0 (omega arith)))

under_length : (l : List Car) (k : ℕ) → under l k ≤ length l
unfolding under
under_length [] k = omega arith
under_length (x ∷ l) k = omega (arith, under_length l k, digit_lt (ltb (anchor x) k))

-- all cars are below where a number waits
under_all : (l : List Car) → AllStand l → under l drive_in ≡ length l
unfolding under AllStand
under_all [] s = refl
under_all (pair b ∷ l) s = omega (arith, under_all l s.1, s.0, ap digit (lt-ltb b drive_in (omega (arith, s.0))))
under_all (single b ∷ l) s = omega (arith, under_all l s.1, ap digit (lt-ltb b drive_in (omega (arith, s.0.1))))
under_all (raised ∷ l) s = omega (arith, under_all l s.1)

-- what waits is below a place
abbrev waits : Bits → ℕ → ℕ
waits f k = digit (ltb drive_in k && f drive_in)

waits_suc : (f : Bits) (k : ℕ) → waits f (suc k) ≡ waits f k + digit (eqb drive_in k && f k)
waits_suc f k = split (ltb drive_in k)
    (λ t. let h = ltb-true drive_in k t in rw (t, lt-ltb drive_in (suc k) (omega arith), ne_eqb drive_in k (λ e. omega arith)) (omega arith))
    (λ t. let h = ltb-false drive_in k t in split (eqb drive_in k)
    (λ e. let q = eqb-true drive_in k e in rw (t, e, lt-ltb drive_in (suc k) (omega arith)) (omega (arith, ap digit (ap f q))))
    (λ e. let q : drive_in ≡ k → ⊥ = eqb-false drive_in k e in rw (t, e, le-ltb drive_in (suc k) (omega arith))))

module _ (f : Bits) (l : List Car) (y : Layout f l) where
  rank_under : (k : ℕ) → rank f k ≡ under l k + waits f k
  rank_under zero = omega (arith, under_zero l)
  rank_under (suc k) = omega (arith, rank_under k, under_suc l k, told f l y k, waits_suc f k)

  rank_small : (k : ℕ) → bears f k ≡ true → rank f k < length l + digit (f drive_in)
  rank_small k e = omega (arith, rank_under (suc k), under_length l (suc k), ap digit e, part (ltb drive_in (suc k)) (f drive_in))
    where
      part : (a b : Bool) → digit (a && b) ≤ digit b
      part true b = omega arith
      part false b = omega arith

  -- up to where it waits they are the cars
  rank_cars : (k : ℕ) → k ≤ drive_in → rank f k ≡ under l k
  rank_cars k h = omega (arith, rank_under k, ap (λ (b : Bool). digit (b && f drive_in)) (le-ltb drive_in k h))

-- it rises at each place that bears one
rank_more : (f : Bits) (k d : ℕ) → rank f k ≤ rank f (k + d)
rank_more f k zero = let e : k + 0 ≡ k = omega arith in omega (arith, ap (rank f) e)
rank_more f k (suc d) = let e : k + suc d ≡ suc (k + d) = omega arith in omega (arith, ap (rank f) e, rank_more f k d)

rank_less : (f : Bits) (j k : ℕ) → bears f j ≡ true → j < k → rank f j < rank f k
rank_less f j k e h =
    let q : suc j + (k - suc j) ≡ k = omega arith in
    omega (arith, ap digit e, rank_more f (suc j) (k - suc j), ap (rank f) q)

rank_once : (f : Bits) (j k : ℕ) → bears f j ≡ true → bears f k ≡ true → rank f j ≡ rank f k → j ≡ k
rank_once f j k a b e = ⊎_elim
    (λ (h : j < k). absurd (omega (arith, rank_less f j k a h)))
    (λ (h : k ≤ j). split (eqb k j)
    (λ t. sym (eqb-true k j t))
    (λ t. let n : k ≡ j → ⊥ = eqb-false k j t in absurd (omega (arith, rank_less f k j b (omega arith))))) (lt_or_ge j k)

-- ---- the statements

pub given_cards : GivenCards
given_cards f ns s e new = marked_cards f (numbers_given f ns) (record { none = none; some = some; once = once })
  where
    small : (k : ℕ) → bears f k ≡ true → rank f k < length ns
    small k a = omega (arith, rank_small f s.layout.0 s.layout.1 k a, layout_cars f s.layout.0 s.layout.1)

    there : (k : ℕ) → bears f k ≡ true → numbers_given f ns k ≡ get_or ns (rank f k) 0
    there k a = given_is f ns k ∙ ap (λ (b : Bool). cond b (get_or ns (rank f k) 0) 0) a

    none : (k : ℕ) → bears f k ≡ false → numbers_given f ns k ≡ 0
    none k a = given_is f ns k ∙ ap (λ (b : Bool). cond b (get_or ns (rank f k) 0) 0) a

    some : (k : ℕ) → bears f k ≡ true → numbers_given f ns k ≡ 0 → ⊥
    some k a z = new.nonzero (rank f k) (small k a) (sym (there k a) ∙ z)

    once : (j k : ℕ) → numbers_given f ns j ≡ numbers_given f ns k → bears f j ≡ true → j ≡ k
    once j k q a = split (bears f k)
        (λ b. rank_once f j k a b (new.once (rank f j) (rank f k) (small j a) (small k b) (sym (there j a) ∙ q ∙ there k b)))
        (λ b. absurd (some j a (q ∙ none k b)))

-- a rising list takes the numbers one after the other
rising_takes : (ns : List ℕ) (g : ℕ → ℕ) (l : List Car) (base : ℕ) → Rising l → ((x : Car) → Among x l → g (anchor x) ≡ base + under l (anchor x))
    → base + length l ≤ length ns → map (λ x. get_or ns (g (anchor x)) 0) l ≡ take (length l) (drop base ns)
unfolding under Among
rising_takes ns g [] base r e h = refl
rising_takes ns g (x ∷ l) base r e h =
    ap₂ ◌∷◌ (ap (λ (i : ℕ). get_or ns i 0) here) (rising_takes ns g l (suc base) r.1 there (omega arith)) ∙ next
  where
    none_under : (m : List Car) → ((y : Car) → Among y m → anchor x < anchor y) → under m (anchor x) ≡ 0
    none_under [] a = refl
    none_under (y ∷ m) a = omega (arith, none_under m (λ z q. a z (inr q)), ap digit (le-ltb (anchor y) (anchor x) (let b = a y (inl refl) in omega arith)))

    here : g (anchor x) ≡ base
    here = omega (arith, e x (inl refl), none_under l r.0, ap digit (le-ltb (anchor x) (anchor x) (omega arith)))

    there : (y : Car) → Among y l → g (anchor y) ≡ suc base + under l (anchor y)
    there y m = omega (arith, e y (inr m), ap digit (lt-ltb (anchor x) (anchor y) (r.0 y m)))

    next : get_or ns base 0 ∷ take (length l) (drop (suc base) ns) ≡ take (suc (length l)) (drop base ns)
    next = sym (ap (take (suc (length l))) (drop-cons ns base 0 (omega arith)))

map_among : (h k : Car → ℕ) (l : List Car) → ((x : Car) → Among x l → h x ≡ k x) → map h l ≡ map k l
unfolding Among
map_among h k [] e = refl
map_among h k (x ∷ l) e = ap₂ ◌∷◌ (e x (inl refl)) (map_among h k l (λ y m. e y (inr m)))

pub given_in_order : GivenInOrder
given_in_order f ns l y e r = (
  λ idle. cars ∙ take_all (length l) ns (omega (arith, layout_cars f l y, ap digit idle)),
  λ way.
      let m : length ns ≡ suc (length l) = omega (arith, layout_cars f l y, ap digit way) in
      ap₂ (λ (xs : List ℕ) (x : ℕ). xs ++ x ∷ []) cars (last way)
      ∙ sym (take-suc ns (length l) 0 (omega arith))
      ∙ take_all (suc (length l)) ns (omega arith),
)
  where
    low : (x : Car) → Stands x → anchor x ≤ drive_in
    low (pair b) s = omega (arith, s)
    low (single b) s = omega (arith, s.1)
    low raised s = omega arith

    cars : map (λ x. numbers_given f ns (anchor x)) l ≡ take (length l) ns
    cars =
        map_among _ _ l (λ x m. given_is f ns (anchor x) ∙ ap (λ (b : Bool). cond b (get_or ns (rank f (anchor x)) 0) 0) (car_bears f l y x m))
        ∙ rising_takes ns (rank f) l 0 r (λ x m. omega (arith, rank_cars f l y (anchor x) (low x (stands l x y.stand m)))) (omega (arith, layout_cars f l y))

    last : f drive_in ≡ true → numbers_given f ns drive_in ≡ get_or ns (length l) 0
    last way =
        given_is f ns drive_in ∙ ap (λ (b : Bool). cond b (get_or ns (rank f drive_in) 0) 0) way
        ∙ ap (λ (x : ℕ). get_or ns x 0) (rank_cars f l y drive_in (omega arith) ∙ under_all l y.stand)

pub given_padded : GivenPadded
given_padded f ns more s e k =
    given_is f (ns ++ more) k
    ∙ split (bears f k)
    (λ a. rw a (get_or-append ns more 0 (rank f k) (omega (arith, rank_small f s.layout.0 s.layout.1 k a, layout_cars f s.layout.0 s.layout.1))))
    (λ a. rw a)
    ∙ sym (given_is f ns k)
