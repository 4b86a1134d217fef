-- Instructions that wait and instructions that got stuck, on a station in good order: whichever have finished, in whatever order, the
-- record with those applied is sound, has the same cars, allows what has not finished, and does not depend on the order. Assumes nothing.
use mathlib.Core.Path.{◌≡◌, refl, sym, ap, ◌∙◌}
use mathlib.Core.Logic.{◌⊎◌, inl, inr, ⊎_elim}
use mathlib.Core.Bool.{Bool, true, false, ◌||◌, or-true}
use mathlib.Core.List.{List, [], ◌∷◌}
use Prim.Native.Nat.{ℕ, ◌^◌, ◌<◌}
use lib.Dec.{eqb}
use lib.ListN.{length}
use borrow.Author.Tests.{eqb-true, eq-eqb}
use Rattle.bits.specs.Bits.{bit, image}
use Rattle.bits.proofs.Cases.{split, clash, off}
use Rattle.bits.proofs.Digits.{bit_ext, packed_lt}
use Rattle.floor.specs.Cars.{cars}
use Rattle.floor.specs.Sound.{sound}
use Rattle.rules.specs.declared.Code.{Code}
use Rattle.any_order.proofs.Rules.{Clear}
use Rattle.any_order.proofs.Facts.{clear_turned}
use Rattle.any_order.proofs.KeptGood.{next_allowed}
use Rattle.station.specs.declared.Station.{Station}
use Rattle.station.specs.Held.{held_next}
use Rattle.station.specs.Station.{marked}
use Rattle.station_laws.specs.Jams.{has, Picks}
use Rattle.station_laws.specs.Motion.{Moving, of_set, of_stuck, set_numbers, stuck_numbers, is_among, moving_code, moved_on}
use Rattle.station_laws.proofs.Instance.{rules, seen_of, cars_in, framed, next_cars, allowed_has}
use Rattle.station_laws.proofs.Link.{Sane}

-- ---- a list of them

-- two are the same
abbrev same : Moving → Moving → Bool
same (of_set i) (of_set j) = eqb i j
same (of_set i) (of_stuck j) = false
same (of_stuck i) (of_set j) = false
same (of_stuck i) (of_stuck j) = eqb i j

same_is : (m n : Moving) → same m n ≡ true → m ≡ n
same_is (of_set i) (of_set j) e = ap of_set (eqb-true i j e)
same_is (of_set i) (of_stuck j) e = clash e refl
same_is (of_stuck i) (of_set j) e = clash e refl
same_is (of_stuck i) (of_stuck j) e = ap of_stuck (eqb-true i j e)

-- a list has its first, and what the rest has
among_cons : (m : Moving) (p : List Moving) (n : Moving) → is_among (m ∷ p) n ≡ same m n || is_among p n
among_cons (of_set i) p (of_set j) = refl
among_cons (of_set i) p (of_stuck j) = refl
among_cons (of_stuck i) p (of_set j) = refl
among_cons (of_stuck i) p (of_stuck j) = refl

pub among_none : (m : Moving) → is_among [] m ≡ false
among_none (of_set i) = refl
among_none (of_stuck j) = refl

pub among_first : (m : Moving) (p : List Moving) → is_among (m ∷ p) m ≡ true
among_first (of_set i) p = rw (eq-eqb i i refl)
among_first (of_stuck j) p = rw (eq-eqb j j refl)

among_later : (m : Moving) (p : List Moving) (n : Moving) → is_among p n ≡ true → is_among (m ∷ p) n ≡ true
among_later m p n e = among_cons m p n ∙ rw e (or-true (same m n))

-- none twice
abbrev pub Once : List Moving → Type 0
Once [] = Unit {0}
Once (m ∷ p) = (is_among p m ≡ false) × Once p

pub once_each : (a b : ℕ) (p : List Moving) → Picks a (set_numbers p) → Picks b (stuck_numbers p) → Once p
once_each a b [] f g = tt
once_each a b (of_set i ∷ p) f g = (f.1, once_each a b p f.2 g)
once_each a b (of_stuck j ∷ p) f g = (g.1, once_each a b p f g.2)

-- a number that was chosen is below the bound
pub picked : (n : ℕ) (l : List ℕ) → Picks n l → (j : ℕ) → has l j ≡ true → j < n
picked n [] p j e = clash e refl
picked n (i ∷ l) p j e = split (eqb i j) (λ t. rw (← eqb-true i j t) p.0) (λ t. picked n l p.2 j (rw t at e))

-- ---- on a station in good order

module _ (t : Station) (js : List Code) (G : Sane js t) where
  -- its bytes
  abbrev code : Moving → Code
  code m = moving_code t.set js m

  -- it waits for its result, or is stuck
  abbrev pub Able : Moving → Type 0
  Able (of_set i) = (i < t.count) × (marked t i ≡ false)
  Able (of_stuck j) = j < length js

  -- no two share a place
  beside : (m n : Moving) → Able m → Able n → (m ≡ n → ⊥) → Clear 64 (rules.area (code m)) (rules.area (code n))
  beside (of_set i) (of_set j) a b ne = G.apart i j a.0 b.0 (λ e. ne (ap of_set e))
  beside (of_set i) (of_stuck j) a b ne = G.free i a j b
  beside (of_stuck i) (of_set j) a b ne = clear_turned 64 _ _ (G.free j b i a)
  beside (of_stuck i) (of_stuck j) a b ne = G.jammed.apart i j a b (λ e. ne (ap of_stuck e))

  -- and each is allowed on the record
  able_allowed : (m : Moving) → Able m → rules.allowed (code m) t.bits ≡ true
  able_allowed (of_set i) a = G.allowed i a
  able_allowed (of_stuck j) a = G.jammed.allowed j a

  -- some of them, on a sound record that allows each
  pub record Choice (p : List Moving) (r : ℕ) : Type 0 where
    pub able : (m : Moving) → is_among p m ≡ true → Able m
    pub once : Once p
    pub sound : sound r ≡ true
    pub allowed : (m : Moving) → is_among p m ≡ true → rules.allowed (code m) r ≡ true

  pub choice : (p : List Moving) → ((m : Moving) → is_among p m ≡ true → Able m) → Once p → Choice p t.bits
  choice p a o = record { able = a; once = o; sound = G.sound; allowed = λ m e. able_allowed m (a m e) }

  -- ---- the first of them, and the others

  abbrev after : Moving → ℕ → ℕ
  after m r = image (held_next (code m) (bit r))

  -- what is allowed stays so after one of them with another area
  kept_allowed : (m n : Moving) (r : ℕ) → sound r ≡ true → rules.allowed (code m) r ≡ true → Able m → Able n → (n ≡ m → ⊥)
      → rules.allowed (code n) (after m r) ≡ rules.allowed (code n) r
  kept_allowed m n r z ok a b ne = next_allowed rules seen_of cars_in framed r z (code n) (code m) ok (beside n m b a ne)

  module _ (m : Moving) (p : List Moving) (r : ℕ) (c : Choice (m ∷ p) r) where
    first : rules.allowed (code m) r ≡ true
    first = c.allowed m (among_first m p)

    -- none of the others is the first
    another : (n : Moving) → is_among p n ≡ true → n ≡ m → ⊥
    another n e q = clash e (rw q c.once.0)

    able_first : Able m
    able_first = c.able m (among_first m p)

    able_later : (n : Moving) → is_among p n ≡ true → Able n
    able_later n e = c.able n (among_later m p n e)

    apart : (n : Moving) → is_among p n ≡ true → Clear 64 (rules.area (code n)) (rules.area (code m))
    apart n e = beside n m (able_later n e) able_first (another n e)

    then : Choice p (after m r)
    then = record {
      able = able_later;
      once = c.once.1;
      sound = (framed.instruction (code m)).safe r c.sound first;
      allowed = λ n e. kept_allowed m n r c.sound first able_first (able_later n e) (another n e) ∙ c.allowed n (among_later m p n e);
    }

  -- ---- sound, with the same cars, and what has not finished is allowed

  pub moved_sound : (p : List Moving) (r : ℕ) → Choice p r → sound (moved_on t.set js p r) ≡ true
  moved_sound [] r c = c.sound
  moved_sound (m ∷ p) r c = moved_sound p (after m r) (then m p r c)

  pub moved_cars : (p : List Moving) (r : ℕ) → Choice p r → cars (bit (moved_on t.set js p r)) ≡ cars (bit r)
  moved_cars [] r c = refl
  moved_cars (m ∷ p) r c =
      moved_cars p (after m r) (then m p r c) ∙ next_cars (code m) r c.sound (allowed_has (code m) r (first m p r c)).0

  pub moved_allowed : (n : Moving) → Able n → (p : List Moving) (r : ℕ) → Choice p r → is_among p n ≡ false
      → rules.allowed (code n) (moved_on t.set js p r) ≡ rules.allowed (code n) r
  moved_allowed n a [] r c e = refl
  moved_allowed n a (m ∷ p) r c e =
      moved_allowed n a p (after m r) (then m p r c) (off _ (λ u. clash (among_later m p n u) e))
      ∙ kept_allowed m n r c.sound (first m p r c) (able_first m p r c) a (λ q. clash (among_first m p) (rw q at e))

  -- ---- what each place then holds: in the area of one that has finished what that one makes, elsewhere what was there

  moved_out : (p : List Moving) (r : ℕ) → Choice p r → (k : ℕ) → k < 64
      → ((n : Moving) → is_among p n ≡ true → rules.area (code n) k ≡ false)
      → bit (moved_on t.set js p r) k ≡ bit r k
  moved_out [] r c k h none = refl
  moved_out (m ∷ p) r c k h none =
      moved_out p (after m r) (then m p r c) k h (λ n e. none n (among_later m p n e))
      ∙ (framed.instruction (code m)).keeps r c.sound (first m p r c) k h (none m (among_first m p))

  moved_in : (p : List Moving) (r : ℕ) → Choice p r → (n : Moving) → is_among p n ≡ true → (k : ℕ) → k < 64 → rules.area (code n) k ≡ true
      → bit (moved_on t.set js p r) k ≡ bit (after n r) k
  moved_in [] r c n e k h u = clash e (among_none n)
  moved_in (m ∷ p) r c n e k h u = split (same m n)
      (λ q. let w = same_is m n q in
      moved_out p (after m r) d k h (λ x y. off _ (λ v. clash u (rw (← w) (apart m p r c x y k h v)))) ∙ rw w)
      (λ q. let y : is_among p n ≡ true = rw q at (sym (among_cons m p n) ∙ e) in
      let x = apart m p r c n y in
      moved_in p (after m r) d n y k h u
      ∙ (framed.instruction (code n)).writes (after m r) r d.sound c.sound
      (λ i l v. (framed.instruction (code m)).keeps r c.sound ok i l (x i l v))
      (framed.view_next (code n) (code m) x r c.sound ok) (d.allowed n y) k h u)
    where
      ok : rules.allowed (code m) r ≡ true
      ok = first m p r c

      d : Choice p (after m r)
      d = then m p r c

  -- some one of them has a place in its area, or none has
  whose : (p : List Moving) (k : ℕ)
      → ((n : Moving) × (is_among p n ≡ true) × (rules.area (code n) k ≡ true))
      ⊎ ((n : Moving) → is_among p n ≡ true → rules.area (code n) k ≡ false)
  whose [] k = inr (λ n e. clash e (among_none n))
  whose (m ∷ p) k = split (rules.area (code m) k)
      (λ u. inl (m, among_first m p, u))
      (λ u. ⊎_elim
      (λ w. inl (w.0, among_later m p w.0 w.1, w.2))
      (λ none. inr (λ n e. split (same m n)
      (λ q. rw (← same_is m n q) u)
      (λ q. none n (rw q at (sym (among_cons m p n) ∙ e)))))
      (whose p k))

  -- so the order makes no difference to any place
  moved_bits : (p q : List Moving) (r : ℕ) → Choice p r → Choice q r → ((m : Moving) → is_among q m ≡ is_among p m)
      → (k : ℕ) → k < 64 → bit (moved_on t.set js q r) k ≡ bit (moved_on t.set js p r) k
  moved_bits p q r c d e k h = ⊎_elim
      (λ w. moved_in q r d w.0 (e w.0 ∙ w.1) k h w.2 ∙ sym (moved_in p r c w.0 w.1 k h w.2))
      (λ none. moved_out q r d k h (λ n y. none n (sym (e n) ∙ y)) ∙ sym (moved_out p r c k h none))
      (whose p k)

  -- with some applied, the record is a number of 64 bits
  moved_small : (m : Moving) (p : List Moving) (r : ℕ) → moved_on t.set js (m ∷ p) r < 2 ^ 64
  moved_small m [] r = packed_lt 64 0 _
  moved_small m (n ∷ p) r = moved_small n p (after m r)

  pub moved_order : (p q : List Moving) (r : ℕ) → Choice p r → Choice q r → ((m : Moving) → is_among q m ≡ is_among p m)
      → moved_on t.set js q r ≡ moved_on t.set js p r
  moved_order [] [] r c d e = refl
  moved_order [] (n ∷ q) r c d e = clash (among_first n q) (e n ∙ among_none n)
  moved_order (m ∷ p) [] r c d e = clash (among_first m p) (sym (e m) ∙ among_none m)
  moved_order (m ∷ p) (n ∷ q) r c d e =
      bit_ext 64 _ _ (moved_small n q r) (moved_small m p r) (moved_bits (m ∷ p) (n ∷ q) r c d e)
