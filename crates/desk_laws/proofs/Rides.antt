-- Where an instruction takes a car, by the rules' change of the record: computed at every well-formed instruction and every car, change by
-- change. Assumes nothing.
use mathlib.Core.Path.{◌≡◌, refl, sym, ap, ap₂, subst, ◌∙◌}
use mathlib.Core.Logic.{◌⊎◌, inl, inr}
use mathlib.Core.Bool.{Bool, true, false, cond, not, ◌&&◌, ◌||◌, beq, or-false}
use mathlib.Core.List.{List, [], ◌∷◌, ◌++◌, map}
use Prim.Native.Nat.{ℕ, suc, ◌+◌, ◌-◌, ◌≤◌}
use native.Mathlib.Omega.{arith}
use lib.Dec.{T, eqb}
use borrow.Author.Tests.{eqb-true, eq-eqb, ne_eqb}
use Rattle.bits.specs.Bits.{Bits, bit, digit, all_set}
use Rattle.bits.specs.Places.{elem}
use Rattle.bits.specs.Search.{every}
use Rattle.bits.proofs.Cases.{split, clash, neither, and_l, and_r, and_intro, under, beq→eq, T→true, true→T}
use Rattle.bits.proofs.Sharing.{all_pass, pass_at}
use Rattle.bits.proofs.Lists.{elem_append}
use Rattle.bits.proofs.Search.{each as each_below}
use Rattle.floor.specs.Floor.{raised_car, height_low, height_high, lift_cells, basement}
use Rattle.floor.specs.Tests.{Test, fact, set, exactly, even, no, both, either, choose, holds, at_basement, Change, ◌≔◌, changed}
use Rattle.floor.specs.Cars.{Car, pair, single, raised, Stands, covers, Layout}
use Rattle.floor.specs.Sound.{Sound}
use Rattle.cars.specs.Lists.{anchor, Among}
use Rattle.rules.specs.declared.Instruction.{Instruction}
use Rattle.rules.specs.declared.Instruction.TheVariants.{Belts, Shuttles, Tilt, Lift, Rotate}
use Rattle.rules.specs.Rules.{well_formed, area_of, area, changes, allowed, next_record}
use Rattle.rules.proofs.Every.{everywhere, each}
use Rattle.cards.specs.Following.{takings, numbers_taken, numbers_after, car_moved}
use Rattle.cards_laws.proofs.Anchors.{stands}
use Rattle.cards_laws.proofs.Sources.{or_else}
use Rattle.cards_laws.proofs.Others.{gapless, is_gapless}
use Rattle.cards_laws.proofs.Laws.{fine, next_layout}
use Rattle.cards_laws.proofs.Moving.{followed}
use Rattle.cards_laws.proofs.Torn.{none_torn}
use Rattle.desk_laws.specs.Following.{without, Takes}

-- ---- a car and places

-- a place is not under a car; none of some is
abbrev misses : Car → ℕ → Bool
misses x k = eqb (covers x k) 0

abbrev misses_all : Car → List ℕ → Bool
misses_all x [] = true
misses_all x (k ∷ ks) = misses x k && misses_all x ks

-- the places under it
abbrev cells_of : Car → List ℕ
cells_of (pair c) = c ∷ suc c ∷ []
cells_of (single c) = c ∷ []
cells_of raised = raised_car ∷ []

other_missed : (x : Car) (k : ℕ) → elem k (cells_of x) ≡ false → misses x k ≡ true
other_missed (pair c) k e = let (a, b) = neither (eqb c k) (eqb (suc c) k || false) e in rw (a, (neither (eqb (suc c) k) false b).0)
other_missed (single c) k e = rw (neither (eqb c k) false e).0
other_missed raised k e = rw (neither (eqb raised_car k) false e).0

-- no car is at the height of the lift
height_missed : (x : Car) → Stands x → (k : ℕ) → height_low ≤ k → misses x k ≡ true
height_missed (pair c) s k h = rw (ne_eqb c k (λ e. omega arith), ne_eqb (suc c) k (λ e. omega arith))
height_missed (single c) s k h = rw (ne_eqb c k (λ e. omega (arith, s.1)))
height_missed raised s k h = rw (ne_eqb raised_car k (λ e. omega arith))

both_missed : (a b p q : Bool) → cond a p false && cond b q false ≡ cond (a && b) (p && q) false
both_missed true true p q = refl
both_missed true false true q = refl
both_missed true false false q = refl
both_missed false b p q = refl

all_set_lem : (x : Car) (f : Bits) (ks : List ℕ) → all_set ks (without x f) ≡ cond (misses_all x ks) (all_set ks f) false
all_set_lem x f [] = refl
all_set_lem x f (k ∷ ks) =
    ap (λ (b : Bool). without x f k && b) (all_set_lem x f ks) ∙ both_missed (misses x k) (misses_all x ks) (f k) (all_set ks f)

-- ---- what a test says without a car

-- without x it is as it was, or false where a place of y is told; such tests alone occur below
abbrev keeps : Car → Bool → Test → Bool
keeps x missed (fact b) = missed || not b
keeps x missed (set ks) = beq (misses_all x ks) missed
keeps x missed (exactly n ks) = false
keeps x missed (even ks) = false
keeps x missed (no t) = false
keeps x missed (both t u) = false
keeps x missed (either t u) = false

test_keeps : (x : Car) (f : Bits) (m : Bool) (t : Test) → T (keeps x m t) → holds t (without x f) ≡ cond m (holds t f) false
test_keeps x f true (fact b) k = refl
test_keeps x f false (fact true) k = absurd k
test_keeps x f false (fact false) k = refl
test_keeps x f m (set ks) k = all_set_lem x f ks ∙ ap (λ (b : Bool). cond b (all_set ks f) false) (beq→eq (misses_all x ks) m k)
test_keeps x f m (exactly n ks) k = absurd k
test_keeps x f m (even ks) k = absurd k
test_keeps x f m (no t) k = absurd k
test_keeps x f m (both t u) k = absurd k
test_keeps x f m (either t u) k = absurd k

-- the places that some changes give; each change keeps
abbrev targets : List Change → List ℕ
targets [] = []
targets ((j ≔ t) ∷ cs) = j ∷ targets cs

abbrev all_keep : Car → Car → List Change → Bool
all_keep x y [] = true
all_keep x y ((j ≔ t) ∷ cs) = keeps x (misses y j) t && all_keep x y cs

changes_keep : (x y : Car) (f : Bits) (k : ℕ) (cs : List Change) → T (all_keep x y cs)
    → (elem k (targets cs) ≡ false → misses x k ≡ misses y k)
    → changed cs (without x f) k ≡ cond (misses y k) (changed cs f k) false
changes_keep x y f k [] t o = ap (λ (b : Bool). cond b (f k) false) (o refl)
changes_keep x y f k ((j ≔ t) ∷ cs) h o = split (eqb j k)
    (λ e.
    let at : holds t (without x f) ≡ cond (misses y k) (holds t f) false =
    test_keeps x f (misses y j) t (and_l (keeps x (misses y j) t) (all_keep x y cs) h)
    ∙ ap (λ (z : ℕ). cond (misses y z) (holds t f) false) (eqb-true j k e) in
    rw e at)
    (λ e. rw e (changes_keep x y f k cs (and_r (keeps x (misses y j) t) (all_keep x y cs) h) (λ p. o (rw e p))))

-- ---- an instruction's changes, with the lift in the basement or not

abbrev plain : Instruction → Bool → List Change
plain (Belts row mask toward size) low = changes (Belts row mask toward size)
plain (Shuttles side mask orientation toward) low = changes (Shuttles side mask orientation toward)
plain (Tilt side row orientation) low = changes (Tilt side row orientation)
plain (Lift height) low =
    height_low ≔ fact (bit height 0)
    ∷ height_high ≔ fact (bit height 1)
    ∷ raised_car ≔ cond (eqb height basement) (fact false) (cond low (set lift_cells) (set (raised_car ∷ [])))
    ∷ map (λ k. k ≔ cond (eqb height basement) (set (raised_car ∷ [])) (cond low (fact false) (set (k ∷ [])))) lift_cells
plain Rotate low = changes Rotate

choice : (b : Bool) (v c t u : Test) (f : Bits) → holds (cond b v (choose c t u)) f ≡ holds (cond b v (cond (holds c f) t u)) f
choice true v c t u f = refl
choice false v c t u f = go (holds c f)
  where
    go : (b : Bool) → (b && holds t f) || (not b && holds u f) ≡ holds (cond b t u) f
    go true = or-false (holds t f)
    go false = refl

plain_same : (i : Instruction) (f : Bits) (k : ℕ) → changed (changes i) f k ≡ changed (plain i (holds at_basement f)) f k
plain_same (Belts row mask toward size) f k = refl
plain_same (Shuttles side mask orientation toward) f k = refl
plain_same (Tilt side row orientation) f k = refl
plain_same (Lift height) f k =
    let b = eqb height basement in
    ap₂ (λ (p q : Bool). cond (eqb height_low k) (bit height 0) (cond (eqb height_high k) (bit height 1) (cond (eqb raised_car k) p q)))
    (choice b (fact false) at_basement (set lift_cells) (set (raised_car ∷ [])) f)
    (ap₂ (λ (p q : Bool). cond (eqb 11 k) p (cond (eqb 12 k) q (f k)))
    (choice b (set (raised_car ∷ [])) at_basement (fact false) (set (11 ∷ [])) f)
    (choice b (set (raised_car ∷ [])) at_basement (fact false) (set (12 ∷ [])) f))
plain_same Rotate f k = refl

same_height : (x : Car) → Stands x → (f : Bits) → holds at_basement (without x f) ≡ holds at_basement f
same_height x s f =
    ap₂ (λ (a b : Bool). eqb (digit a + 0) 0 && (b && true))
    (ap (λ (b : Bool). cond b (f height_low) false) (height_missed x s height_low (omega arith)))
    (ap (λ (b : Bool). cond b (f height_high) false) (height_missed x s height_high (omega arith)))

-- ---- computed at every car

-- no car is half in the area
abbrev whole : Instruction → Car → Bool
whole i (pair c) = beq (elem c (area_of i)) (elem (suc c) (area_of i))
whole i (single c) = true
whole i raised = true

-- the number at y comes from x
abbrev comes : Instruction → Bool → Car → Car → Bool
comes i low x y = eqb (numbers_taken (takings i low) (λ k. suc k) (anchor y)) (suc (anchor x))

-- where no change tells, both cars are or none is
abbrev agrees_at : List Change → Car → Car → ℕ → Bool
agrees_at cs x y k = elem k (targets cs) || beq (misses x k) (misses y k)

abbrev rides_to : Instruction → Bool → Car → Car → Bool
rides_to i low x y = all_keep x y (plain i low) && all_pass (agrees_at (plain i low) x y) (cells_of x ++ cells_of y)

abbrev rides_right : Instruction → Bool → Car → Bool
rides_right i low x = let y = car_moved i x in cond (comes i low x y && (whole i x && whole i y)) (rides_to i low x y) true

abbrev cars_right : Instruction → Bool → Bool
cars_right i low =
    every 19 (λ c. rides_right i low (pair c))
    && (every 20 (λ c. rides_right i low (single (20 + c))) && rides_right i low raised)

abbrev all_right : Instruction → Bool
all_right i = cond (gapless i) (cars_right i true && cars_right i false) true

all_right_lem : T (everywhere all_right)
unfolding everywhere every numbers_taken
all_right_lem = tt

module _ (i : Instruction) (w : T (well_formed i)) (p : T (gapless i)) (low : Bool) where
  cars_right_lem : T (cars_right i low)
  cars_right_lem = go low (under (gapless i) _ (T→true (gapless i) p) (each all_right all_right_lem i w))
    where
      go : (low : Bool) → T (cars_right i true && cars_right i false) → T (cars_right i low)
      go true t = and_l (cars_right i true) (cars_right i false) t
      go false t = and_r (cars_right i true) (cars_right i false) t

  abbrev singles_right : Bool
  singles_right = every 20 (λ c. rides_right i low (single (20 + c)))

  others_right : T (singles_right && rides_right i low raised)
  others_right = and_r (every 19 (λ c. rides_right i low (pair c))) _ cars_right_lem

  car_right : (x : Car) → Stands x → T (rides_right i low x)
  car_right (pair c) s = each_below 19 (λ c. rides_right i low (pair c)) (and_l (every 19 (λ c. rides_right i low (pair c))) _ cars_right_lem) c s
  car_right (single c) s =
      let e : 20 + (c - 20) ≡ c = omega (arith, s.0) in
      subst (λ (x : ℕ). T (rides_right i low (single x))) e
      (each_below 20 (λ c. rides_right i low (single (20 + c)))
      (and_l singles_right (rides_right i low raised) others_right) (c - 20) (omega (arith, s.0, s.1)))
  car_right raised s = and_r singles_right (rides_right i low raised) others_right

-- ---- the rules take a car where the definition by cars says

same_beq : (a b : Bool) → a ≡ b → beq a b ≡ true
same_beq true true e = refl
same_beq true false e = clash refl e
same_beq false true e = clash e refl
same_beq false false e = refl

module _ (i : Instruction) (f : Bits) (s : Sound f) (ok : allowed i f ≡ true) where
  whole_car : (l : List Car) → Layout f l ⊎ Layout (next_record i f) l → (x : Car) → Among x l → whole i x ≡ true
  unfolding area
  whole_car l y (pair c) a = same_beq (elem c (area_of i)) (elem (suc c) (area_of i)) (none_torn i f s ok l y c a)
  whole_car l y (single c) a = refl
  whole_car l y raised a = refl

  module _ (l : List Car) (y : Layout f l) (x : Car) (a : Among x l) where
    abbrev to : Car
    to = car_moved i x

    abbrev low : Bool
    low = holds at_basement f

    comes_true : comes i low x to ≡ true
    unfolding numbers_after
    comes_true =
        let (m, z) = next_layout i f s ok in
        eq-eqb (numbers_taken (takings i low) (λ k. suc k) (anchor to)) (suc (anchor x)) (followed i f (λ k. suc k) s ok l m y z x a).1

    whole_after : whole i to ≡ true
    whole_after =
        let (m, z) = next_layout i f s ok in
        whole_car m (inr z) to (followed i f (λ k. suc k) s ok l m y z x a).0

    rides_to_lem : T (rides_to i low x to)
    rides_to_lem =
        under (comes i low x to && (whole i x && whole i to)) (rides_to i low x to)
        (and_intro comes_true (and_intro (whole_car l (inl y) x a) whole_after))
        (car_right i (true→T (fine i f s ok).0) (is_gapless i f (true→T (fine i f s ok).1)) low x (stands l x y.stand a))

    agree : (k : ℕ) → elem k (targets (plain i low)) ≡ false → misses x k ≡ misses to k
    agree k o = split (elem k (cells_of x ++ cells_of to))
        (λ t. beq→eq (misses x k) (misses to k) (or_else (elem k (targets (plain i low))) _ o
        (pass_at (agrees_at (plain i low) x to) (cells_of x ++ cells_of to) (and_r (all_keep x to (plain i low)) _ rides_to_lem) k (true→T t))))
        (λ t.
        let (p, q) = neither (elem k (cells_of x)) (elem k (cells_of to)) (sym (elem_append k (cells_of x) (cells_of to)) ∙ t) in
        other_missed x k p ∙ sym (other_missed to k q))

    pub takes : Takes i f x (car_moved i x)
    unfolding next_record
    takes k =
        plain_same i (without x f) k
        ∙ ap (λ (b : Bool). changed (plain i b) (without x f) k) (same_height x (stands l x y.stand a) f)
        ∙ changes_keep x to f k (plain i low) (and_l (all_keep x to (plain i low)) _ rides_to_lem) (agree k)
        ∙ ap (λ (b : Bool). cond (misses to k) b false) (sym (plain_same i f k))
