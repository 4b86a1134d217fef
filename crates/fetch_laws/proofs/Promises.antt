-- The promises of specs/Fetching.antt: with all shuttles lowered, a record with at most two cars of row 1 on one side of the lift has no
-- car that one of the full records doesn't have, and of those every car can be fetched. Assumes nothing.
use mathlib.Core.Path.{◌≡◌, refl, sym, ap, subst, ◌∙◌}
use mathlib.Core.Logic.{inl, inr, ⊎_elim}
use mathlib.Core.Bool.{Bool, true, false, not, ◌&&◌, ◌||◌, beq}
use mathlib.Core.List.{List, [], ◌∷◌}
use Prim.Native.Nat.{ℕ, ◌+◌, ◌^◌, ◌≤◌, ◌<◌}
use native.Mathlib.Omega.{arith}
use lib.Dec.{T, eqb, ltb, leb, leb→le, eqb→eq}
use borrow.Author.Tests.{eqb-true, ltb-true, ltb-false, leb-false, not-true}
use Rattle.bits.specs.Bits.{Bits, bit, digit, count}
use Rattle.bits.specs.Places.{from, elem}
use Rattle.bits.proofs.Cases.{split, clash, off, both, and_intro, one_of, and_l, and_r, T→true, true→T, beq→eq}
use Rattle.bits.proofs.Counts.{count_zero, count_agree, elem_from, from_elem}
use Rattle.bits.proofs.Sharing.{all_pass, pass_at}
use Rattle.floor.specs.Floor.{raised_car, street, drive_in, drive_out, height_low, height_high, lift_cells, drives, left_of_lift, right_of_lift}
use Rattle.floor.specs.Tests.{holds, height_is, under_way, at_basement}
use Rattle.floor.specs.Cars.{Car, cars}
use Rattle.floor.specs.Sound.{Sound, sound_rules, sound}
use Rattle.floor.proofs.Reading.{holds_agree, nth_holds}
use Rattle.floor.proofs.Rows.{count_from}
use Rattle.floor.proofs.Standing.{or_else}
use Rattle.rules.specs.declared.Event.TheVariants.{BeginIn, EndDone}
use Rattle.rules.specs.Events.{possible, event_conditions, after_event}
use Rattle.rules_laws.specs.Undoing.{record_after}
use Rattle.rules_laws.proofs.Laws.{event_sound}
use Rattle.cars.specs.Lists.{anchor, Among}
use Rattle.cards.specs.Given.{bears}
use Rattle.cards_laws.proofs.Anchors.{is_place, bears_place, car_bears, bears_exactly}
use Rattle.fetch.specs.Room.{locks_nobody_in}
use Rattle.fetch_laws.specs.Fetching.{car_after, EachCanBeFetched, NobodyLockedIn, FiveAlwaysPass, ThreeOnEachSide, fixed_parts, FewerCars, FewerHinderNobody}
use Rattle.fetch_laws.proofs.Fewer.{whole, Fewer, moves_down}
use Rattle.fetch_laws.proofs.Fetched.{among_there, moves_sound, along, fetched_before, fetched_down}
use Rattle.fetch_laws.proofs.Ways.{normal, is_full, full_sound, Good, goods}
use Rattle.fetch_laws.proofs.Lowering.{Down, down}
use Rattle.fetch_laws.proofs.Covering.{OneSideFew, Covered, left_even, all_even, right_from, covered_row}

-- ---- a record with a car on the lift at street, all shuttles lowered and no drive

-- the parts and places of a full record
module _ (r : ℕ) (t : T (is_full r)) where
  rest : T (all_pass (λ k. beq (bit r k) (normal k)) fixed_parts && all_pass (bit r) (raised_car ∷ from 20 20))
  unfolding is_full
  rest = and_r (sound r) _ (and_r (ltb r (2 ^ 64)) _ t)

  full_parts : (k : ℕ) → T (elem k fixed_parts) → bit r k ≡ normal k
  full_parts k m = beq→eq (bit r k) (normal k)
      (pass_at (λ k. beq (bit r k) (normal k)) fixed_parts (and_l (all_pass (λ k. beq (bit r k) (normal k)) fixed_parts) _ rest) k m)

  full_places : (k : ℕ) → T (elem k (raised_car ∷ from 20 20)) → bit r k ≡ true
  full_places k m = T→true (bit r k)
      (pass_at (bit r) (raised_car ∷ from 20 20) (and_r (all_pass (λ k. beq (bit r k) (normal k)) fixed_parts) _ rest) k m)

module _ (g : Bits) (s : Sound g) (parts : (k : ℕ) → T (elem k fixed_parts) → g k ≡ normal k) (few : OneSideFew g) where
  -- the lift's cells are free
  no_lift : (k : ℕ) → T (elem k lift_cells) → g k ≡ false
  no_lift k m = off (g k) (λ on. clash
      (or_else lift_cells at_basement g (nth_holds g sound_rules (true→T s.rules) 6) k m on)
      (holds_agree fixed_parts g normal parts at_basement tt))

  over : Covered g
  over = covered_row g (whole g s) (no_lift 11 tt) (no_lift 12 tt) few

  good : Good over.one
  good = goods over.one over.among

  fewer : Fewer g (bit over.one)
  fewer = record {
    cars = λ k b. split (ltb k 20)
        (λ e. over.has k (ltb-true k 20 e) b)
        (λ e.
        let (p, on) = both (is_place k) (g k) (sym (bears_place g k e) ∙ b) in
        bears_place (bit over.one) k e ∙ and_intro p (place k (ltb-false k 20 e) p on));
    parts = λ k m. parts k m ∙ sym (full_parts over.one good.is_full k m);
  }
    where
      place : (k : ℕ) → 20 ≤ k → is_place k ≡ true → g k ≡ true → bit over.one k ≡ true
      place k h p on = split (ltb k 40)
          (λ a. full_places over.one good.is_full k (later (eqb raised_car k) (elem_from k 20 20 h (ltb-true k 40 a))))
          (λ a. split (eqb raised_car k)
          (λ c. full_places over.one good.is_full k (first (eqb raised_car k) c))
          (λ c. split (eqb drive_in k)
          (λ d. clash (ap g (eqb-true drive_in k d) ∙ on) (parts drive_in tt))
          (λ d. clash p (rw (a, c, d)))))
        where
          later : (b : Bool) → T (elem k (from 20 20)) → T (b || elem k (from 20 20))
          later true t = tt
          later false t = t

          first : (b : Bool) → b ≡ true → T (b || elem k (from 20 20))
          first true e = tt
          first false e = clash e refl

  lowered_each : EachCanBeFetched g
  lowered_each l y x a =
      let q = full_sound over.one good.is_full in
      let (m, z) = q.layout in
      fetched_down g (bit over.one) x s q fewer
      (good.each m z x (among_there g (bit over.one) l m y z x a (fewer.cars (anchor x) (car_bears g l y x a))))

-- ---- whatever the shuttles

-- the lift's height and the drives
abbrev lifted : List ℕ
lifted = height_low ∷ height_high ∷ drives

module _ (h : Bits) (s : Sound h) (idle : (k : ℕ) → T (elem k lifted) → h k ≡ false) (few : OneSideFew h) where
  quiet : (k : ℕ) → T (elem k lifted) → normal k ≡ false
  quiet k m = not-true (normal k) (T→true _ (pass_at (λ k. not (normal k)) lifted tt k m))

  D : Down h
  D = down h s (holds_agree lifted h normal (λ k m. idle k m ∙ sym (quiet k m)) under_way tt)

  parts_after : (k : ℕ) → T (elem k fixed_parts) → record_after D.by h k ≡ normal k
  parts_after k m = split (elem k (from 40 12))
      (λ e. D.slots k (true→T e))
      (λ e.
      let n = subst (λ (b : Bool). T (b || elem k lifted)) e (pass_at (λ k. elem k (from 40 12) || elem k lifted) fixed_parts tt k m) in
      D.others k e ∙ idle k n ∙ sym (quiet k n))

  cell_kept : (k : ℕ) → k < 20 → record_after D.by h k ≡ h k
  cell_kept k l = D.others k (off (elem k (from 40 12)) (λ e. let q = from_elem k 40 12 (true→T e) in omega (arith, q.0)))

  count_kept : (a n : ℕ) → a + n ≤ 20 → count (from a n) (record_after D.by h) ≡ count (from a n) h
  count_kept a n l = count_agree (from a n) (record_after D.by h) h
      (λ k m. cell_kept k (let q = from_elem k a n m in omega (arith, q.1)))

  few_after : OneSideFew (record_after D.by h)
  few_after = ⊎_elim
      (λ (q : count left_of_lift h ≤ 4). inl (omega (arith, count_kept 0 11 (omega arith))))
      (λ (q : count right_of_lift h ≤ 4). inr (omega (arith, count_kept 13 7 (omega arith)))) few

  pub each_fetched : EachCanBeFetched h
  each_fetched l y x a =
      let r = moves_sound D.by h s D.moves in
      let (m, z) = r.layout in
      fetched_before D.by h x D.moves
      (lowered_each (record_after D.by h) r parts_after few_after m z (car_after D.by x)
      (along D.by h s D.moves l m y z x a))

-- ---- after a drive-in

pub nobody_locked_in : NobodyLockedIn
unfolding possible after_event locks_nobody_in
nobody_locked_in r s p t =
    each_fetched (after_event EndDone (after_event BeginIn (bit r)))
    (event_sound EndDone (after_event BeginIn (bit r)) (event_sound BeginIn (bit r) s p) (going (bit r drive_out)))
    still
    (⊎_elim
    (λ (q : leb (count left_of_lift (bit r)) 4 ≡ true). inl (leb→le (count left_of_lift (bit r)) 4 (true→T q)))
    (λ (q : leb (count right_of_lift (bit r)) 4 ≡ true). inr (leb→le (count right_of_lift (bit r)) 4 (true→T q)))
    (one_of (leb (count left_of_lift (bit r)) 4) (leb (count right_of_lift (bit r)) 4) t))
  where
    going : (b : Bool) → not (eqb (1 + (digit b + 0)) 0) && true ≡ true
    going true = refl
    going false = refl

    height : T (holds (height_is street) (bit r))
    height = nth_holds (bit r) (event_conditions BeginIn) (true→T p) 1

    low : bit r height_low ≡ false
    low = count_zero (height_low ∷ []) (bit r) (eqb→eq _ 0 (and_l (eqb (count (height_low ∷ []) (bit r)) 0) _ height)) height_low tt

    high : bit r height_high ≡ false
    high = count_zero (height_high ∷ []) (bit r) (eqb→eq _ 0 (and_r (eqb (count (height_low ∷ []) (bit r)) 0) _ height)) height_high tt

    still : (k : ℕ) → T (elem k lifted) → after_event EndDone (after_event BeginIn (bit r)) k ≡ false
    still k m = split (eqb height_low k)
        (λ e. at height_low k e low)
        (λ e. split (eqb height_high k)
        (λ d. at height_high k d high)
        (λ d. split (eqb drive_in k)
        (λ c. at drive_in k c refl)
        (λ c. split (eqb drive_out k)
        (λ b. at drive_out k b refl)
        (λ b. absurd (none (eqb height_low k) (eqb height_high k) (eqb drive_in k) (eqb drive_out k) e d c b m)))))
      where
        at : (j k : ℕ) → eqb j k ≡ true → after_event EndDone (after_event BeginIn (bit r)) j ≡ false
            → after_event EndDone (after_event BeginIn (bit r)) k ≡ false
        at j k e q = ap (after_event EndDone (after_event BeginIn (bit r))) (sym (eqb-true j k e)) ∙ q

        none : (e d c b : Bool) → e ≡ false → d ≡ false → c ≡ false → b ≡ false → T (e || (d || (c || (b || false)))) → ⊥
        none e d c b i j k l t = rw (i, j, k, l) at t

-- ---- with few cars

module _ (r : ℕ) (s : Sound (bit r)) (p : possible BeginIn (bit r) ≡ true) (few : cars (bit r) ≤ 5) where
  -- at street the lift's cells are free
  lift_free : (k : ℕ) → T (elem k lift_cells) → bit r k ≡ false
  unfolding possible
  lift_free k m = off (bit r k) (λ on. clash
      (both (bit r height_high) true
      (both (eqb (count (height_low ∷ []) (bit r)) 0) (bit r height_high && true)
      (or_else lift_cells at_basement (bit r) (nth_holds (bit r) sound_rules (true→T s.rules) 6) k m on)).1).0
      (count_zero (height_high ∷ []) (bit r) (eqb→eq _ 0
      (and_r (eqb (count (height_low ∷ []) (bit r)) 0) _ (nth_holds (bit r) (event_conditions BeginIn) (true→T p) 1))) height_high tt))

  -- the cars of row 1 alone are at most five, and there is an even number of half cells on either side
  one_side : (4 < count left_of_lift (bit r)) → (4 < count right_of_lift (bit r)) → ⊥
  unfolding cars
  one_side a b =
      let w = whole (bit r) s in
      let x = lift_free 11 tt in
      let y = lift_free 12 tt in
      omega (
        arith,
        few,
        left_even (bit r) w x y,
        all_even (bit r) w x y,
        right_from (bit r) w x y,
        count_from (bit r) 11 0,
        count_from (bit r) 7 13,
        count_from (bit r) 20 0,
      )

pub five_always_pass : FiveAlwaysPass
unfolding locks_nobody_in
five_always_pass r s p few = split (leb (count left_of_lift (bit r)) 4)
    (λ e. rw e)
    (λ e. split (leb (count right_of_lift (bit r)) 4)
    (λ d. rw (e, d))
    (λ d. absurd (one_side r s p few (leb-false (count left_of_lift (bit r)) 4 e) (leb-false (count right_of_lift (bit r)) 4 d))))

pub three_on_each_side : ThreeOnEachSide
unfolding locks_nobody_in
three_on_each_side = (refl, refl, refl)

-- ---- fewer cars

by_places : (f g : Bits) → Sound f → Sound g → FewerCars f g → Fewer f g
by_places f g r s F = record {
  cars = λ k b. ⊎_elim
      (λ (c : (x : Car) × Among x r.layout.0 × (anchor x ≡ k)).
      ap (bears g) (sym c.2)
      ∙ car_bears g s.layout.0 s.layout.1 c.0 (F.cars r.layout.0 s.layout.0 r.layout.1 s.layout.1 c.0 c.1))
      (λ (w : (k ≡ drive_in) × (f drive_in ≡ true)). ap (bears g) w.0 ∙ sym (F.parts drive_in tt) ∙ w.1)
      ((bears_exactly f r.layout.0 r.layout.1 k).0 b);
  parts = F.parts;
}

pub fewer_hinder_nobody : FewerHinderNobody
fewer_hinder_nobody f g r s F is m =
    let (n, G) = moves_down is f g r s (by_places f g r s F) m in (
      n,
      record {
        cars = λ l k y z x a.
            among_there (record_after is f) (record_after is g) l k y z x a (G.cars (anchor x) (car_bears (record_after is f) l y x a));
        parts = G.parts;
      },
    )
