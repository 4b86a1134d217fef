-- The ways of proofs/Found.antt, tried step by step: on the records with rows 2 and 3 full, all shuttles lowered, a car on the lift at street
-- and the listed cells of row 1 occupied, every car can be fetched. Assumes nothing.
use mathlib.Core.Path.{◌≡◌, refl, sym, ap, subst, ◌∙◌}
use mathlib.Core.Logic.{inl}
use mathlib.Core.Bool.{Bool, true, false, cond, not, ◌&&◌, ◌||◌, beq}
use mathlib.Core.List.{List, [], ◌∷◌, map}
use Prim.Native.Nat.{ℕ, ◌+◌, ◌/◌, ◌%◌, ◌^◌, ◌<◌}
use native.Mathlib.Omega.{arith}
use lib.Dec.{T, eqb, ltb, ltb→lt}
use borrow.Author.Tests.{eqb-true, lt-ltb, le-ltb, not-true}
use Rattle.bits.specs.Bits.{Bits, bit, image, packed}
use Rattle.bits.specs.Places.{from, elem}
use Rattle.bits.specs.Search.{every}
use Rattle.bits.proofs.Cases.{both, and_l, and_r, under, T→true, true→T}
use Rattle.bits.proofs.Digits.{packed_lt}
use Rattle.bits.proofs.Search.{each as each_below}
use Rattle.bits.proofs.Sharing.{all_pass}
use Rattle.floor.specs.Floor.{raised_car, street}
use Rattle.floor.specs.Tests.{holds, all_hold, height_is, under_way}
use Rattle.floor.specs.Cars.{Car, pair, single, raised, Stands, Layout}
use Rattle.floor.specs.Sound.{Sound, paired, sound}
use Rattle.floor.proofs.Promises.{sound_exactly}
use Rattle.rules.specs.declared.Instruction.{Instruction}
use Rattle.rules.specs.declared.Instruction.TheVariants.{Belts, Shuttles, Tilt, Lift, Rotate}
use Rattle.rules.specs.Rules.{well_formed, conditions, allowed, next_record}
use Rattle.rules_laws.specs.Undoing.{record_after, Moves}
use Rattle.rules_laws.proofs.Locked.{next_image}
use Rattle.cars.specs.Lists.{anchor}
use Rattle.cards.specs.Given.{bears}
use Rattle.cards_laws.proofs.Anchors.{stands, car_bears}
use Rattle.fetch_laws.specs.Fetching.{car_after, CanBeFetched, EachCanBeFetched, fixed_parts}
use Rattle.fetch_laws.proofs.Fetched.{along, fetched_before}
use Rattle.fetch_laws.proofs.Found.{seven_cars, seven_fetched, six_cars, six_fetched, links}

-- ---- a way on a record, by images

abbrev instruction : ℕ → Instruction
instruction n =
    let op = n / 100000 in
    let a = n / 10000 % 10 in
    let b = n / 100 % 100 in
    let c = n / 10 % 10 in
    cond (eqb op 1) (Belts a b c (n % 10))
    (cond (eqb op 2) (Shuttles a b c (n % 10))
    (cond (eqb op 3) (Tilt a b c)
    (cond (eqb op 4) (Lift a)
    Rotate)))

-- each is allowed, and the last record passes
unfoldable run_to : List Instruction → ℕ → (ℕ → Bool) → Bool
run_to [] r p = p r
run_to (i ∷ is) r p = allowed i (bit r) && (not (holds under_way (bit r)) && run_to is (image (next_record i (bit r))) p)

record Run (is : List Instruction) (r : ℕ) (p : ℕ → Bool) : Type 0 where
  last : ℕ
  moves : Moves is (bit r)
  ends : record_after is (bit r) ≡ bit last
  passes : T (p last)

run : (is : List Instruction) (r : ℕ) (p : ℕ → Bool) → r < 2 ^ 64 → T (run_to is r p) → Run is r p
unfolding run_to Moves record_after allowed
run [] r p h t = record { last = r; moves = tt; ends = refl; passes = t }
run (i ∷ is) r p h t =
    let u = and_r (allowed i (bit r)) _ t in
    let ok = T→true (allowed i (bit r)) (and_l (allowed i (bit r)) _ t) in
    let idle = not-true (holds under_way (bit r)) (T→true _ (and_l (not (holds under_way (bit r))) _ u)) in
    let e = next_image i r (both (well_formed i) (all_hold (conditions i) (bit r)) ok).0 h in
    let R = run is (image (next_record i (bit r))) p (packed_lt 64 0 (next_record i (bit r))) (and_r (not (holds under_way (bit r))) _ u) in
    record {
      last = R.last;
      moves = (ok, inl idle, subst (Moves is) (sym e) R.moves);
      ends = ap (record_after is) e ∙ R.ends;
      passes = R.passes;
    }

-- ---- the records

-- shuttles, lift and drives as in all of them
abbrev pub normal : Bits
normal = bit 0x00103F0000000000

-- with these cells of row 1 occupied
abbrev pub full : ℕ → ℕ
full p = 0x00103FFFFFF00000 + p

-- of an image: it is sound, has these parts, and rows 2 and 3 and the raised lift are occupied
unfoldable pub is_full : ℕ → Bool
is_full r = ltb r (2 ^ 64) && (sound r && (all_pass (λ k. beq (bit r k) (normal k)) fixed_parts && all_pass (bit r) (raised_car ∷ from 20 20)))

-- such a record, of which every car can be fetched
pub record Good (r : ℕ) : Type 0 where
  pub is_full : T (is_full r)
  pub each : EachCanBeFetched (bit r)

is_small : (r : ℕ) → T (is_full r) → r < 2 ^ 64
unfolding is_full
is_small r t = ltb→lt r (2 ^ 64) (and_l (ltb r (2 ^ 64)) _ t)

pub full_sound : (r : ℕ) → T (is_full r) → Sound (bit r)
unfolding is_full
full_sound r t = (sound_exactly r).0 (T→true (sound r) (and_l (sound r) _ (and_r (ltb r (2 ^ 64)) _ t)))

-- ---- two of them, from which each car has a way

abbrev car_at : ℕ → Car
car_at k = cond (ltb k 20) (pair k) (cond (ltb k 40) (single k) raised)

abbrev is_raised : Car → Bool
is_raised (pair c) = false
is_raised (single c) = false
is_raised raised = true

abbrev at_street : ℕ → Bool
at_street r = holds (height_is street) (bit r)

-- one of the ways fetches the car
unfoldable some_way : List (List ℕ) → ℕ → Car → Bool
some_way [] r x = false
some_way (w ∷ ws) r x =
    (is_raised (car_after (map instruction w) x) && run_to (map instruction w) r at_street) || some_way ws r x

some_way_lem : (ws : List (List ℕ)) (r : ℕ) (x : Car) → r < 2 ^ 64 → T (some_way ws r x) → CanBeFetched (bit r) x
unfolding some_way
some_way_lem [] r x h t = absurd t
some_way_lem (w ∷ ws) r x h t = go (is_raised (car_after (map instruction w) x) && run_to (map instruction w) r at_street) refl t (some_way_lem ws r x h)
  where
    is_raised_lem : (y : Car) → T (is_raised y) → y ≡ raised
    is_raised_lem (pair c) t = absurd t
    is_raised_lem (single c) t = absurd t
    is_raised_lem raised t = refl

    go : (b : Bool) → is_raised (car_after (map instruction w) x) && run_to (map instruction w) r at_street ≡ b → T (b || some_way ws r x)
        → (T (some_way ws r x) → CanBeFetched (bit r) x) → CanBeFetched (bit r) x
    go true e t later =
        let u = true→T e in
        let R = run (map instruction w) r at_street h (and_r (is_raised (car_after (map instruction w) x)) _ u) in
        record {
          by = map instruction w;
          moves = R.moves;
          comes = is_raised_lem (car_after (map instruction w) x) (and_l (is_raised (car_after (map instruction w) x)) _ u);
          street = ap (holds (height_is street)) R.ends ∙ T→true (at_street R.last) R.passes;
        }
    go false e t later = later t

abbrev fetched_at : List (List ℕ) → ℕ → ℕ → Bool
fetched_at ws r k = cond (bears (bit r) k) (some_way ws r (car_at k)) true

car_at_lem : (x : Car) → Stands x → (car_at (anchor x) ≡ x) × (anchor x < 64)
car_at_lem (pair c) s = (rw (lt-ltb c 20 (omega arith)), omega arith)
car_at_lem (single c) s = (rw (le-ltb c 20 s.0, lt-ltb c 40 s.1), omega (arith, s.1))
car_at_lem raised s = (refl, omega arith)

all_by_ways : (ws : List (List ℕ)) (r : ℕ) → T (is_full r) → T (every 64 (fetched_at ws r)) → Good r
all_by_ways ws r h t = record {
  is_full = h;
  each = λ l y x a.
      let s = stands l x y.stand a in
      let (e, b) = car_at_lem x s in
      subst (CanBeFetched (bit r)) e
      (some_way_lem ws r (car_at (anchor x)) (is_small r h)
      (under (bears (bit r) (anchor x)) _ (car_bears (bit r) l y x a) (each_below 64 (fetched_at ws r) t (anchor x) b)));
}

seven_good : Good (full seven_cars)
unfolding every some_way run_to car_after allowed next_record packed is_full sound paired
seven_good = all_by_ways seven_fetched (full seven_cars) tt tt

six_good : Good (full six_cars)
unfolding every some_way run_to car_after allowed next_record packed is_full sound paired
six_good = all_by_ways six_fetched (full six_cars) tt tt

-- ---- the others, each linked to one before it

-- the records that the links add to those that are known
unfoldable pub linked : List (List ℕ) → List ℕ → List ℕ
linked [] known = known
linked ([] ∷ es) known = linked es known
linked ((p ∷ w) ∷ es) known = linked es (full p ∷ known)

unfoldable all_link : List (List ℕ) → List ℕ → Bool
all_link [] known = true
all_link ([] ∷ es) known = all_link es known
all_link ((p ∷ w) ∷ es) known = is_full (full p) && (run_to (map instruction w) (full p) (λ q. elem q known) && all_link es (full p ∷ known))

abbrev AllGood : List ℕ → Type 0
AllGood rs = (r : ℕ) → T (elem r rs) → Good r

-- what is linked to a good one is good
good_before : (is : List Instruction) (r : ℕ) (known : List ℕ) → AllGood known → T (is_full r) → T (run_to is r (λ q. elem q known)) → Good r
good_before is r known g h t =
    let R = run is r (λ q. elem q known) (is_small r h) t in
    let G = g R.last R.passes in
    let s = full_sound r h in
    let (m, z) = (full_sound R.last G.is_full).layout in
    record {
      is_full = h;
      each = λ l y x a.
          fetched_before is (bit r) x R.moves
          (subst (λ (f : Bits). CanBeFetched f (car_after is x)) (sym R.ends)
          (G.each m z (car_after is x)
          (along is (bit r) s R.moves l m y (subst (λ (f : Bits). Layout f m) (sym R.ends) z) x a)));
    }

more_good : (q : ℕ) (known : List ℕ) → Good q → AllGood known → AllGood (q ∷ known)
more_good q known G g r m = go (eqb q r) refl m
  where
    go : (b : Bool) → eqb q r ≡ b → T (b || elem r known) → Good r
    go true e m = subst Good (eqb-true q r e) G
    go false e m = g r m

all_good : (es : List (List ℕ)) (known : List ℕ) → AllGood known → T (all_link es known) → AllGood (linked es known)
unfolding linked all_link
all_good [] known g t = g
all_good ([] ∷ es) known g t = all_good es known g t
all_good ((p ∷ w) ∷ es) known g t =
    let u = and_r (is_full (full p)) _ t in
    let G = good_before (map instruction w) (full p) known g (and_l (is_full (full p)) _ t)
    (and_l (run_to (map instruction w) (full p) (λ q. elem q known)) _ u) in
    all_good es (full p ∷ known) (more_good (full p) known G g) (and_r (run_to (map instruction w) (full p) (λ q. elem q known)) _ u)

abbrev first_two : List ℕ
first_two = full seven_cars ∷ full six_cars ∷ []

links_right : T (all_link links first_two)
unfolding all_link is_full sound paired run_to allowed next_record packed
links_right = tt

-- the records of which every car can be fetched
abbrev pub good_records : List ℕ
good_records = linked links first_two

pub goods : (r : ℕ) → T (elem r good_records) → Good r
goods = all_good links first_two
    (more_good (full seven_cars) (full six_cars ∷ []) seven_good (more_good (full six_cars) [] six_good (λ r m. absurd m))) links_right
